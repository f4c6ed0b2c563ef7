-- Extents in a list in which no granule is in two.
use Rattle.std.proofs.Common.{◌≡◌, ◌≢◌, ◌⊎◌, inl, inr, sym, ap, ◌∙◌, ℕ, ◌+◌, ◌<◌, ◌≤◌, true, false, cond, List, [], ◌∷◌, ◌++◌, arith}
use Rattle.std.specs.Prelude.{count_by}
use Rattle.std.specs.List.{Contains}
use Rattle.std.proofs.lemmas.Bool.Decides.{nat_tests}
use Rattle.std.proofs.lemmas.List.Sums.{sum_by-cons, sum_by_push}
use Rattle.std.proofs.lemmas.List.Elements.{Contains-push_cases, Contains-append_cases}
use Rattle.s3_block_file.specs.declared.extent.Extent.{Extent}
use Rattle.s3_block_file.specs.Extent.{granules_for, lies_in, AreApart, AreDisjoint}

nothing_in : {P : Type 0} (e : Extent) → Contains [] e → P
nothing_in e has = absurd (omega (arith, has.1))

in_one : (x e : Extent) → Contains (x ∷ []) e → x ≡ e
in_one x e has = elim (Contains-push_cases [] x e has) [ inl none ↦ nothing_in e none | inr is ↦ is ]

in_more : (x : Extent) (xs : List Extent) (e : Extent) → Contains (x ∷ xs) e → (x ≡ e) ⊎ Contains xs e
in_more x xs e has = elim (Contains-append_cases (x ∷ []) xs e has) [ inl here ↦ inl (in_one x e here) | inr there ↦ inr there ]

-- one, if the granule is in the extent
pub ones : ℕ → Extent → ℕ
ones k e = cond (lies_in k e) 1 0

ones_is : (k : ℕ) (x e : Extent) → x ≡ e → lies_in k e ≡ true → ones k x ≡ 1
unfolding ones
ones_is k x e same lies = ap (λ t. cond t 1 0) (ap (lies_in k) same ∙ lies)

count_more : (k : ℕ) (x : Extent) (xs : List Extent) → count_by (lies_in k) (x ∷ xs) ≡ ones k x + count_by (lies_in k) xs
unfolding ones
count_more k x xs = sum_by-cons (λ e. cond (lies_in k e) 1 0) x xs

count_one : (k : ℕ) (xs : List Extent) (e : Extent) → Contains xs e → lies_in k e ≡ true → 1 ≤ count_by (lies_in k) xs
count_one k [] e has lies = nothing_in e has
count_one k (x ∷ xs) e has lies =
    elim (in_more x xs e has) [
      | inl here ↦ omega (arith, count_more k x xs, ones_is k x e here lies)
      | inr there ↦ omega (arith, count_more k x xs, count_one k xs e there lies)
    ]

count_two : (k : ℕ) (xs : List Extent) (a b : Extent) → Contains xs a → Contains xs b → a.first ≢ b.first → lies_in k a ≡ true → lies_in k b ≡ true → 2 ≤ count_by (lies_in k) xs
count_two k [] a b has_a has_b differ lies_a lies_b = nothing_in a has_a
count_two k (x ∷ xs) a b has_a has_b differ lies_a lies_b =
    elim (in_more x xs a has_a) [
      | inl a_here ↦
          elim (in_more x xs b has_b) [
            | inl b_here ↦ absurd (differ (ap (λ (e : Extent). e.first) (sym a_here ∙ b_here)))
            | inr b_there ↦ omega (arith, count_more k x xs, ones_is k x a a_here lies_a, count_one k xs b b_there lies_b)
          ]
      | inr a_there ↦
          elim (in_more x xs b has_b) [
            | inl b_here ↦ omega (arith, count_more k x xs, ones_is k x b b_here lies_b, count_one k xs a a_there lies_a)
            | inr b_there ↦ omega (arith, count_more k x xs, count_two k xs a b a_there b_there differ lies_a lies_b)
          ]
    ]

pub lies : (k : ℕ) (e : Extent) → e.first ≤ k → k < e.first + granules_for e.size → lies_in k e ≡ true
lies k e low high = grind (arith, nat_tests)

pub lies_not_in_front : (k : ℕ) (e : Extent) → k < e.first → lies_in k e ≡ false
lies_not_in_front k e low = grind (arith, nat_tests)

pub lies_not_behind : (k : ℕ) (e : Extent) → e.first + granules_for e.size ≤ k → lies_in k e ≡ false
lies_not_behind k e high = grind (arith, nat_tests)

pub ones_one : (k : ℕ) (e : Extent) → lies_in k e ≡ true → ones k e ≡ 1
unfolding ones
ones_one k e is = ap (λ t. cond t 1 0) is

pub ones_none : (k : ℕ) (e : Extent) → lies_in k e ≡ false → ones k e ≡ 0
unfolding ones
ones_none k e is = ap (λ t. cond t 1 0) is

-- one more at the end of a list
pub count_push : (k : ℕ) (xs : List Extent) (e : Extent) → count_by (lies_in k) (xs ++ e ∷ []) ≡ count_by (lies_in k) xs + ones k e
unfolding ones
count_push k xs e = sum_by_push (λ x. cond (lies_in k x) 1 0) xs e

-- two of them that begin elsewhere
pub listed_apart : (xs : List Extent) (a b : Extent) → AreDisjoint xs → Contains xs a → Contains xs b → a.first ≢ b.first → AreApart a b
listed_apart xs a b disjoint has_a has_b differ = λ k low_a high_a low_b high_b.
    let two : 2 ≤ count_by (lies_in k) xs = count_two k xs a b has_a has_b differ (lies k a low_a high_a) (lies k b low_b high_b) in
    let one : count_by (lies_in k) xs ≤ 1 = disjoint k in
    omega (arith, two, one)
