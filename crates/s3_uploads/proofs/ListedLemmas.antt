-- Numbers that rise.
use Rattle.std.proofs.Common.{◌≡◌, refl, ap, sym, ◌∙◌, ◌≤◌, ◌<◌, Bool, true, false, ◌&&◌, ℕ, List, [], ◌∷◌, nat_lt, arith, ◌+◌, suc, length, drop, get_or, drop-cons}
use Rattle.std.specs.List.{list_all}
use Rattle.std.proofs.lemmas.Bool.{and_parts, and_from}
use Rattle.std.proofs.lemmas.List.{drop_all}
use Rattle.std.proofs.lemmas.Bool.Decides.{nat_tests}
use Rattle.s3_uploads.specs.Completion.{numbers_listed}
use Rattle.s3_uploads.specs.Parts.{rises}
use Rattle.s3_uploads.specs.declared.listed.ListedPart.{ListedPart}

-- numbers that rise, from one above this on
abbrev pub rises_above : ℕ → List ℕ → Bool
rises_above last ns = list_all (nat_lt last) ns && rises ns

-- what is above a number is above a lower one
pub all_above : (m n : ℕ) (ns : List ℕ) → nat_lt m n ≡ true → list_all (nat_lt n) ns ≡ true → list_all (nat_lt m) ns ≡ true
all_above m n [] below all = refl
all_above m n (k ∷ ns) below all =
    let parts = and_parts (nat_lt n k) (list_all (nat_lt n) ns) all in
    let here : nat_lt m k ≡ true = grind (arith, nat_tests) in
    and_from (nat_lt m k) (list_all (nat_lt m) ns) here (all_above m n ns below parts.1)

dropped : (a b c r : Bool) → (b ≡ true → c ≡ true) → a ≡ true → ((a && c) && (b && r)) ≡ (b && r)
dropped true true true r then is = refl
dropped true true false r then is = let none : false ≡ true = then refl in absurd (cc)
dropped true false true r then is = refl
dropped true false false r then is = refl
dropped false b c r then is = absurd (cc)

-- the next number is above the last one, and the others are above it
pub next_rises : (last n : ℕ) (ns : List ℕ) → nat_lt last n ≡ true → rises_above last (n ∷ ns) ≡ rises_above n ns
unfolding rises
next_rises last n ns less =
    dropped (nat_lt last n) (list_all (nat_lt n) ns) (list_all (nat_lt last) ns) (rises ns) (all_above last n ns less) less

-- or it isn't
pub next_falls : (last n : ℕ) (ns : List ℕ) → nat_lt last n ≡ false → rises_above last (n ∷ ns) ≡ false
unfolding rises
next_falls last n ns not_less = rw not_less refl

-- ---- the listed parts one after another

-- what is left begins with the next part
left_from : (listed : List ListedPart) (i : ℕ) (part : ListedPart) → i < length listed → part ≡ get_or listed i part → drop i listed ≡ part ∷ drop (i + 1) listed
left_from listed i part within is =
    let next : suc i ≡ i + 1 = omega arith in
    drop-cons listed i part within ∙ ap (λ p. p ∷ drop (suc i) listed) (sym is) ∙ ap (λ k. part ∷ drop k listed) next

pub part_rises : (last : ℕ) (listed : List ListedPart) (i : ℕ) (part : ListedPart) → i < length listed → part ≡ get_or listed i part → nat_lt last part.number ≡ true
    → rises_above last (numbers_listed (drop i listed)) ≡ rises_above part.number (numbers_listed (drop (i + 1) listed))
part_rises last listed i part within is below =
    ap (λ ls. rises_above last (numbers_listed ls)) (left_from listed i part within is)
    ∙ next_rises last part.number (numbers_listed (drop (i + 1) listed)) below

pub part_falls : (last : ℕ) (listed : List ListedPart) (i : ℕ) (part : ListedPart) → i < length listed → part ≡ get_or listed i part → nat_lt last part.number ≡ false
    → rises_above last (numbers_listed (drop i listed)) ≡ false
part_falls last listed i part within is above =
    ap (λ ls. rises_above last (numbers_listed ls)) (left_from listed i part within is)
    ∙ next_falls last part.number (numbers_listed (drop (i + 1) listed)) above

-- where none is left, all rose
pub none_left : (last : ℕ) (listed : List ListedPart) (i : ℕ) → length listed ≤ i → rises_above last (numbers_listed (drop i listed)) ≡ true
unfolding rises
none_left last listed i past = rw (drop_all i listed past) refl
