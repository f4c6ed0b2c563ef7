-- How many rows name each number, as some more or fewer do.
use Rattle.std.proofs.Common.{◌≡◌, ◌≢◌, inl, inr, sym, ap, subst, refl, ◌∙◌, ℕ, ◌+◌, ◌-◌, ◌<◌, ◌==◌, ◌↔◌, zero, suc, cond, List, [], ◌∷◌, ◌++◌, Option, None, arith}
use Rattle.std.proofs.lemmas.List.Sums.{sum_by-append}
use Rattle.std.specs.FinMap.{get}
use Rattle.s3_stored_bodies.specs.Numbers.{Contents, times, named_more, named_less, KeepsNamed}
use Rattle.s3_stored_bodies.proofs.TreeLemmas.{same_or, same_by_get}

-- how often a number stands in a list of one
pub times_here : (k : ℕ) → times k (k ∷ []) ≡ 1
times_here k = grind arith

pub times_other : (q k : ℕ) → q ≢ k → times q (k ∷ []) ≡ 0
times_other q k differ = grind arith

pub times-append : (q : ℕ) (xs ys : List ℕ) → times q (xs ++ ys) ≡ times q xs + times q ys
times-append q xs ys = sum_by-append (λ n. cond (n == q) 1 0) xs ys

-- where the count changes at one number alone
pub more_at : (old new : ℕ → ℕ) (k : ℕ) → ((q : ℕ) → q ≢ k → new q ≡ old q) → new k ≡ old k + 1 → new ≡ named_more (k ∷ []) old
more_at old new k others here = λ i q.
    let is : new q ≡ old q + times q (k ∷ []) =
    elim (same_or q k) [
      | inl same ↦ subst (λ q. new q ≡ old q + times q (k ∷ [])) (sym same) (omega (arith, here, times_here k))
      | inr differ ↦ omega (arith, others q differ, times_other q k differ)
    ] in
    is i

pub less_at : (old new : ℕ → ℕ) (k : ℕ) → ((q : ℕ) → q ≢ k → new q ≡ old q) → new k ≡ old k - 1 → new ≡ named_less (k ∷ []) old
less_at old new k others here = λ i q.
    let is : new q ≡ old q - times q (k ∷ []) =
    elim (same_or q k) [
      | inl same ↦ subst (λ q. new q ≡ old q - times q (k ∷ [])) (sym same) (omega (arith, here, times_here k))
      | inr differ ↦ omega (arith, others q differ, times_other q k differ)
    ] in
    is i

-- where the counts are as they were, so is what is there
there_at : (count : ℕ) (old new : Option (List ℕ)) → (count ≡ 0) ↔ (old ≡ None) → (count ≡ 0) ↔ (new ≡ None) → (0 < count → new ≡ old) → new ≡ old
there_at zero old new old_there new_there same = new_there.0 refl ∙ sym (old_there.0 refl)
there_at (suc n) old new old_there new_there same = same (omega arith)

pub same_where_named : (uses : ℕ → ℕ) (old new : Contents) → ((q : ℕ) → (uses q ≡ 0) ↔ (get old q ≡ None)) → ((q : ℕ) → (uses q ≡ 0) ↔ (get new q ≡ None)) → KeepsNamed uses old new → new ≡ old
same_where_named uses old new old_there new_there same = same_by_get new old (λ q. there_at (uses q) (get old q) (get new q) (old_there q) (new_there q) (same q))

-- no number, and numbers one behind another
pub named_less-none : (uses : ℕ → ℕ) → named_less [] uses ≡ uses
named_less-none uses = λ i q. let is : uses q - 0 ≡ uses q = omega arith in is i

pub named_less-append : (xs ys : List ℕ) (uses : ℕ → ℕ) → named_less ys (named_less xs uses) ≡ named_less (xs ++ ys) uses
named_less-append xs ys uses = λ i q. let is : (uses q - times q xs) - times q ys ≡ uses q - times q (xs ++ ys) = omega (arith, times-append q xs ys) in is i

-- what was shared is given up again
pub named_back : (xs : List ℕ) (uses : ℕ → ℕ) → named_less xs (named_more xs uses) ≡ uses
named_back xs uses = λ i q. let is : (uses q + times q xs) - times q xs ≡ uses q = omega arith in is i

-- what is named after some rows fewer name it was named before
pub still_named : (xs : List ℕ) (new old : ℕ → ℕ) → new ≡ named_less xs old → (q : ℕ) → 0 < new q → 0 < old q
still_named xs new old is q named = let at : new q ≡ old q - times q xs = ap (λ uses. uses q) is in omega arith
