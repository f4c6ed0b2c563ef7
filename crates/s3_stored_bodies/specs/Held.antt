-- Bodies in memory with their counts, and what they are to a caller.
use Rattle.std.specs.Prelude.{◌≡◌, ◌↔◌, ℕ, ◌+◌, ◌<◌, true, false, cond, IsTrue, List, [], ◌∷◌, map as each, Option, Some, None, is_some, option_map, refl}
use Rattle.std.specs.Coded.{Coded, code_by, coded×, coded_ℕ, coded_list}
use Rattle.std.specs.FinMap as map
use Rattle.std.specs.Ordering.{nat_cmp, eq_by_cmp}
use Rattle.std.specs.Cmp.{nat_cmp_total}
use Rattle.std.proofs.Common.{sym, ap, ◌∙◌, arith}
use Rattle.s3_stored_bodies.specs.Numbers.{Contents}
use Rattle.s3_stored_bodies.specs.declared.held.HeldBody.{HeldBody}

-- the bodies under their numbers
abbrev pub Held : Type 0
Held = map.FinMap nat_cmp HeldBody

-- how std numbers them: each by its bytes and its count
abbrev pub coded_body : Coded HeldBody
coded_body =
    code_by (List ℕ × ℕ) (coded× (coded_list coded_ℕ) coded_ℕ)
    (λ held. (held.body, held.more))
    (λ p. record { body = p.0; more = p.1 })
    (λ _. refl)

abbrev pub coded_held : Coded Held
coded_held = map.code coded_ℕ coded_body

-- the bytes under each number
abbrev pub contents_of : Held → Contents
contents_of held = map.from_entries (each (λ e. (e.0, e.1.body)) (map.entries held))

-- how many rows name a body: one, and those beside it
abbrev pub uses_in : Option HeldBody → ℕ
uses_in None = 0
uses_in (Some held) = held.more + 1

abbrev pub uses_of : Held → ℕ → ℕ
uses_of held number = uses_in (map.get held number)

-- nothing stands under this number or one above it
abbrev pub AreBelow : ℕ → Held → Type 0
AreBelow next held = (number : ℕ) → IsTrue (is_some (map.get held number)) → number < next

-- the bytes under one number
find_bytes : (es : List (ℕ × HeldBody)) (number : ℕ) → map.find nat_cmp number (each (λ e. (e.0, e.1.body)) es) ≡ option_map (λ held. held.body) (map.find nat_cmp number es)
find_bytes [] number = refl
find_bytes (e ∷ es) number =
    elim (eq_by_cmp nat_cmp number e.0) as (λ b. cond b (Some e.1.body) (map.find nat_cmp number (each (λ e. (e.0, e.1.body)) es)) ≡ option_map (λ held. held.body) (cond b (Some e.1) (map.find nat_cmp number es))) [ true ↦ refl | false ↦ find_bytes es number ]

pub get-contents_of : (held : Held) (number : ℕ) → map.get (contents_of held) number ≡ option_map (λ body. body.body) (map.get held number)
get-contents_of held number =
    map.get-from_entries nat_cmp_total _ number ∙ find_bytes (map.entries held) number ∙ ap (option_map (λ body. body.body)) (sym (map.get-entries held number))

-- a number is named exactly where a body is held under it
both_or_neither : (found : Option HeldBody) → (uses_in found ≡ 0) ↔ (option_map (λ held. held.body) found ≡ None)
both_or_neither None = ((λ _. refl), (λ _. refl))
both_or_neither (Some held) = ((λ named. absurd (omega arith)), (λ none. cc))

pub named_where_held : (held : Held) (number : ℕ) → (uses_of held number ≡ 0) ↔ (map.get (contents_of held) number ≡ None)
named_where_held held number = rw (get-contents_of held number) (both_or_neither (map.get held number))
