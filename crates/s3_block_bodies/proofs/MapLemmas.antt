-- What stands under the numbers of bodies in memory.
use Rattle.std.proofs.Common.{◌≡◌, ◌⊎◌, ◌↔◌, Bool, IsTrue, inl, inr, sym, ap, subst, refl, ◌∙◌, ℕ, zero, suc, ◌+◌, ◌<◌, ◌==◌, true, false, cond, List, [], ◌++◌, Option, Some, None, unwrap_or, arith}
use Rattle.std.proofs.lemmas.Option.{same_Some, none-some}
use Rattle.std.proofs.lemmas.List.Sums.{sum_by-append}
use Rattle.std.specs.Cmp.{nat_cmp_total}
use Rattle.std.specs.FinMap as map
use Rattle.std.specs.Ordering.{nat_cmp, eq_by_cmp}
use Rattle.s3_stored_bodies.specs.Numbers.{Contents, bytes_under, times, named_more, KeepsNamed}
use Rattle.s3_stored_bodies.specs.Held.{Held, contents_of, uses_of, named_where_held}

same_number : (q k : ℕ) → eq_by_cmp nat_cmp q k ≡ true → q ≡ k
same_number q k tied = grind arith

-- what stands there after one body was put in: that one, or what stood there
found_in : (contents : Contents) (k : ℕ) (bytes : List ℕ) (n : ℕ) (b : List ℕ) → map.get (map.insert contents k bytes) n ≡ Some b
    → ((n ≡ k) × (b ≡ bytes)) ⊎ (map.get contents n ≡ Some b)
found_in contents k bytes n b found =
    elim (eq_by_cmp nat_cmp n k) as (λ t. eq_by_cmp nat_cmp n k ≡ t → cond t (Some bytes) (map.get contents n) ≡ Some b → ((n ≡ k) × (b ≡ bytes)) ⊎ (map.get contents n ≡ Some b)) [
      | true ↦ λ tied here. inl (same_number n k tied, sym (same_Some bytes b here))
      | false ↦ λ differ there. inr there
    ] refl (sym (map.get-insert nat_cmp_total contents k bytes n) ∙ found)

at_same : (P : ℕ → List ℕ → Type 0) (k n : ℕ) (a b : List ℕ) → n ≡ k → b ≡ a → P k a → P n b
at_same P k n a b same is holds = subst (λ b. P n b) (sym is) (subst (λ n. P n a) (sym same) holds)

-- what is true of that body and of the others
pub in_either : (P : ℕ → List ℕ → Type 0) (contents : Contents) (k : ℕ) (bytes : List ℕ) → P k bytes → ((n : ℕ) (b : List ℕ) → map.get contents n ≡ Some b → P n b)
    → (n : ℕ) (b : List ℕ) → map.get (map.insert contents k bytes) n ≡ Some b → P n b
in_either P contents k bytes here others n b found =
    elim (found_in contents k bytes n b found) [
      | inl both ↦ at_same P k n bytes b both.0 both.1 here
      | inr there ↦ others n b there
    ]

there_is : (found : Option (List ℕ)) → (found ≡ None → ⊥) → found ≡ Some (unwrap_or found [])
there_is None some = absurd (some refl)
there_is (Some b) some = refl

above_none : (count : ℕ) → (count ≡ 0 → ⊥) → 0 < count
above_none zero some = absurd (some refl)
above_none (suc count) some = omega arith

-- a number is named exactly where a body stands under it
pub named_has : (held : Held) (n : ℕ) → 0 < uses_of held n → map.get (contents_of held) n ≡ Some (bytes_under (contents_of held) n)
named_has held n named = there_is (map.get (contents_of held) n) (λ none. let zero_uses : uses_of held n ≡ 0 = (named_where_held held n).1 none in omega (arith, zero_uses, named))

pub has_named : (held : Held) (n : ℕ) (b : List ℕ) → map.get (contents_of held) n ≡ Some b → 0 < uses_of held n
has_named held n b found = above_none (uses_of held n) (λ unnamed. none-some b (sym ((named_where_held held n).0 unnamed) ∙ found))

pub unnamed_where : (held : Held) (n : ℕ) → ((b : List ℕ) → map.get (contents_of held) n ≡ Some b → ⊥) → uses_of held n ≡ 0
unnamed_where held n nothing =
    elim (map.get (contents_of held) n) as (λ found. map.get (contents_of held) n ≡ found → uses_of held n ≡ 0) [
      | None ↦ λ none. (named_where_held held n).1 none
      | Some b ↦ λ there. absurd (nothing b there)
    ] refl

-- what is still there was there
pub was_there : (old new : Held) → KeepsNamed (uses_of new) (contents_of old) (contents_of new) → (n : ℕ) (b : List ℕ) → map.get (contents_of new) n ≡ Some b → map.get (contents_of old) n ≡ Some b
was_there old new keeps n b found = sym (keeps n (has_named new n b found)) ∙ found

-- numbers one behind another
pub named_more-append : (xs ys : List ℕ) (uses : ℕ → ℕ) → named_more ys (named_more xs uses) ≡ named_more (xs ++ ys) uses
named_more-append xs ys uses = λ i q.
    let both : times q (xs ++ ys) ≡ times q xs + times q ys = sum_by-append (λ n. cond (n == q) 1 0) xs ys in
    let is : (uses q + times q xs) + times q ys ≡ uses q + times q (xs ++ ys) = omega (arith, both) in
    is i

pub named_none : (uses : ℕ → ℕ) → uses ≡ named_more [] uses
named_none uses = λ i q. let is : uses q ≡ uses q + 0 = omega arith in is i

pub nothing_there : (contents : Contents) → contents ≡ map.empty → (n : ℕ) (b : List ℕ) → map.get contents n ≡ Some b → ⊥
nothing_there contents none n b there = none-some b (sym (ap (λ (m : Contents). map.get m n) none ∙ map.get-empty {X = List ℕ} nat_cmp n) ∙ there)

pub named_from_none : (xs : List ℕ) → named_more xs (λ _. 0) ≡ (λ q. times q xs)
named_from_none xs = λ i q. let is : 0 + times q xs ≡ times q xs = omega arith in is i

pub unnamed_if : (b : Bool) (count : ℕ) → IsTrue b ↔ (0 < count) → b ≡ false → count ≡ 0
unnamed_if b zero named unset = refl
unnamed_if b (suc count) named unset = let yes : b ≡ true = named.1 (omega arith) in absurd (cc (unset, yes))
