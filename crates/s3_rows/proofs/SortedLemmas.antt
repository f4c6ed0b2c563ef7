-- Sorted lists whose rows are filtered, and into which a first row is put.
use Rattle.std.proofs.Common.{◌≡◌, refl, sym, ap, ◌∙◌, ℤ, Bool, true, false, cond, List, [], ◌∷◌, filter, Ordering, Less, Equal, Greater, is_gt, true≢false, int_cmp}
use Rattle.std.specs.List.{AllByRecursion}
use Rattle.std.specs.Cmp.{IsTotalOrder}
use Rattle.std.specs.Ordering.{ordering_reverse, match_ordering}
use Rattle.std.proofs.lemmas.Cmp.{upto}
use Rattle.std.proofs.lemmas.List.Elements.{recursion_from_All, All-from_recursion}
use Rattle.std.proofs.lemmas.List.Sorted.{All-permutation}
use Rattle.sqlite_trees.specs.Tree.{IsAscending}
use Rattle.sqlite_keyed.specs.Keyed.{insert_by, has_key}
use Rattle.sqlite_keyed.specs.Lists.{insert_sorted, sort_by}
use Rattle.sqlite_keyed.proofs.ListLemmas.{all_weaker}
use Rattle.sqlite_keyed.proofs.SortLemmas.{IsPermutation-sort_by}

-- what holds of each row that passes holds of those that are kept
pub all_passing : {X : Type 0} (P : X → Type 0) (p : X → Bool) (xs : List X) → AllByRecursion (λ x. p x ≡ true → P x) xs → AllByRecursion P (filter p xs)
all_passing P p [] all = tt
all_passing {X} P p (x ∷ xs) all = go (p x) refl (all_passing P p xs all.1)
  where
    go : (b : Bool) → p x ≡ b → AllByRecursion P (filter p xs) → AllByRecursion P (cond b (x ∷ filter p xs) (filter p xs))
    go true is more = (all.0 is, more)
    go false is more = more

module _ {X : Type 0} (cmp : X → X → Ordering) (total : IsTotalOrder cmp) where
  abbrev AtMost : X → X → Type 0
  AtMost a b = is_gt (cmp a b) ≡ false

  all-insert_sorted : (P : X → Type 0) (new : X) (xs : List X) → P new → AllByRecursion P xs → AllByRecursion P (insert_sorted cmp new xs)
  all-insert_sorted P new [] h all = (h, tt)
  all-insert_sorted P new (x ∷ xs) h all =
      elim (is_gt (cmp new x)) as (λ b. AllByRecursion P (cond b (x ∷ insert_sorted cmp new xs) (new ∷ x ∷ xs))) [ true ↦ (all.0, all-insert_sorted P new xs h all.1) | false ↦ (h, all) ]

  pub all-sort_by : (P : X → Type 0) (xs : List X) → AllByRecursion P xs → AllByRecursion P (sort_by cmp xs)
  all-sort_by P [] all = tt
  all-sort_by P (x ∷ xs) all = all-insert_sorted P x _ all.0 (all-sort_by P xs all.1)

  pub all_unsorted : (P : X → Type 0) (xs : List X) → AllByRecursion P (sort_by cmp xs) → AllByRecursion P xs
  all_unsorted P xs all = recursion_from_All P xs (All-permutation P (sort_by cmp xs) xs (IsPermutation-sort_by cmp total xs) (All-from_recursion P _ all))

  gt_turned : (a b : X) → is_gt (cmp a b) ≡ true → AtMost b a
  gt_turned a b h = ap is_gt (total.antisymm b a) ∙ go (cmp a b) h
    where
      go : (o : Ordering) → is_gt o ≡ true → is_gt (ordering_reverse o) ≡ false
      go Less h = absurd (true≢false (sym h))
      go Equal h = absurd (true≢false (sym h))
      go Greater h = refl

  in_order-insert_sorted : (new : X) (xs : List X) → IsAscending AtMost xs → IsAscending AtMost (insert_sorted cmp new xs)
  in_order-insert_sorted new [] up = (tt, tt)
  in_order-insert_sorted new (x ∷ xs) up = go (is_gt (cmp new x)) refl (in_order-insert_sorted new xs up.1)
    where
      go : (b : Bool) → is_gt (cmp new x) ≡ b → IsAscending AtMost (insert_sorted cmp new xs) → IsAscending AtMost (cond b (x ∷ insert_sorted cmp new xs) (new ∷ x ∷ xs))
      go true is more = (all-insert_sorted (AtMost x) new xs (gt_turned new x is) up.0, more)
      go false is more = ((is, all_weaker _ (AtMost new) (λ z. upto total new x z is) xs up.0), up)

  in_order-sort_by : (xs : List X) → IsAscending AtMost (sort_by cmp xs)
  in_order-sort_by [] = tt
  in_order-sort_by (x ∷ xs) = in_order-insert_sorted x _ (in_order-sort_by xs)

  -- what is not above any row goes first
  put_first : (new : X) (xs : List X) → AllByRecursion (AtMost new) xs → insert_sorted cmp new xs ≡ new ∷ xs
  put_first new [] all = refl
  put_first new (x ∷ xs) all = ap (λ b. cond b (x ∷ insert_sorted cmp new xs) (new ∷ x ∷ xs)) all.0

  module _ (q : X → Bool) where
    passed_over : (new : X) (xs : List X) → q new ≡ false → filter q (insert_sorted cmp new xs) ≡ filter q xs
    passed_over new [] fails = ap (λ b. cond b (new ∷ []) []) fails
    passed_over new (x ∷ xs) fails =
        elim (is_gt (cmp new x)) as (λ b. filter q (cond b (x ∷ insert_sorted cmp new xs) (new ∷ x ∷ xs)) ≡ filter q (x ∷ xs)) [
          | true ↦ ap (λ l. cond (q x) (x ∷ l) l) (passed_over new xs fails)
          | false ↦ ap (λ b. cond b (new ∷ filter q (x ∷ xs)) (filter q (x ∷ xs))) fails
        ]

    all_left : (P : X → Type 0) (xs : List X) → AllByRecursion P xs → AllByRecursion P (filter q xs)
    all_left P xs all = all_passing P q xs (all_weaker P (λ x. q x ≡ true → P x) (λ x h _. h) xs all)

    kept_in_place : (new : X) (xs : List X) → q new ≡ true → IsAscending AtMost xs → filter q (insert_sorted cmp new xs) ≡ insert_sorted cmp new (filter q xs)
    kept_in_place new [] passes up = ap (λ b. cond b (new ∷ []) []) passes
    kept_in_place new (x ∷ xs) passes up = go (is_gt (cmp new x)) (q x) refl refl (kept_in_place new xs passes up.1)
      where
        go : (a b : Bool) → is_gt (cmp new x) ≡ a → q x ≡ b → filter q (insert_sorted cmp new xs) ≡ insert_sorted cmp new (filter q xs)
            → filter q (cond a (x ∷ insert_sorted cmp new xs) (new ∷ x ∷ xs)) ≡ insert_sorted cmp new (cond b (x ∷ filter q xs) (filter q xs))
        go true true s t more = ap (λ b. cond b (x ∷ filter q (insert_sorted cmp new xs)) (filter q (insert_sorted cmp new xs))) t
            ∙ ap (λ l. x ∷ l) more ∙ sym (ap (λ b. cond b (x ∷ insert_sorted cmp new (filter q xs)) (new ∷ x ∷ filter q xs)) s)
        go true false s t more = ap (λ b. cond b (x ∷ filter q (insert_sorted cmp new xs)) (filter q (insert_sorted cmp new xs))) t ∙ more
        go false b s t more =
            let first : AllByRecursion (AtMost new) (x ∷ xs) = (s, all_weaker _ (AtMost new) (λ z. upto total new x z s) xs up.0) in
            ap (λ c. cond c (new ∷ filter q (x ∷ xs)) (filter q (x ∷ xs))) passes
            ∙ sym (put_first new (filter q (x ∷ xs)) (all_left (AtMost new) (x ∷ xs) first))
            ∙ ap (λ c. insert_sorted cmp new (cond c (x ∷ filter q xs) (filter q xs))) t

    -- to sort what passes is to sort, and to keep what passes
    pub sort_by-filter : (xs : List X) → sort_by cmp (filter q xs) ≡ filter q (sort_by cmp xs)
    sort_by-filter [] = refl
    sort_by-filter (x ∷ xs) = go (q x) refl (sort_by-filter xs)
      where
        go : (b : Bool) → q x ≡ b → sort_by cmp (filter q xs) ≡ filter q (sort_by cmp xs) → sort_by cmp (cond b (x ∷ filter q xs) (filter q xs)) ≡ filter q (insert_sorted cmp x (sort_by cmp xs))
        go true is more = ap (insert_sorted cmp x) more ∙ sym (kept_in_place x (sort_by cmp xs) is (in_order-sort_by xs))
        go false is more = more ∙ sym (passed_over x (sort_by cmp xs) is)

  module _ (key : X → ℤ) (p : X → Bool) (new : X) (passes : p new ≡ true) where
    -- a row stands behind the new one
    abbrev pub IsBehind : X → Type 0
    IsBehind x = p x ≡ true → cmp new x ≡ Less

    behind : (x : X) → cmp new x ≡ Less → is_gt (cmp x new) ≡ true
    behind x less = ap is_gt (total.antisymm x new ∙ ap ordering_reverse less)

    all_behind : (xs : List X) → AllByRecursion IsBehind xs → AllByRecursion (AtMost new) (sort_by cmp (filter p xs))
    all_behind xs all = all-sort_by (AtMost new) (filter p xs) (all_passing (AtMost new) p xs (all_weaker IsBehind (λ x. p x ≡ true → AtMost new x) (λ x h is. ap is_gt (h is)) xs all))

    -- a new row that stands before all that pass comes first
    pub sort_by-insert_by : (xs : List X) → has_key key xs (key new) ≡ false → AllByRecursion IsBehind xs → sort_by cmp (filter p (insert_by key xs new)) ≡ new ∷ sort_by cmp (filter p xs)
    sort_by-insert_by [] free all = ap (λ b. sort_by cmp (cond b (new ∷ []) [])) passes
    sort_by-insert_by (x ∷ xs) free all = go (int_cmp (key x) (key new)) refl free (λ h. sort_by-insert_by xs h all.1)
      where
        later : (b : Bool) → p x ≡ b → sort_by cmp (filter p (insert_by key xs new)) ≡ new ∷ sort_by cmp (filter p xs)
            → sort_by cmp (cond b (x ∷ filter p (insert_by key xs new)) (filter p (insert_by key xs new))) ≡ new ∷ sort_by cmp (cond b (x ∷ filter p xs) (filter p xs))
        later true is more =
            ap (insert_sorted cmp x) more
            ∙ ap (λ b. cond b (new ∷ insert_sorted cmp x (sort_by cmp (filter p xs))) (x ∷ new ∷ sort_by cmp (filter p xs))) (behind x (all.0 is))
        later false is more = more

        go : (o : Ordering) → int_cmp (key x) (key new) ≡ o → has_key key (x ∷ xs) (key new) ≡ false → (has_key key xs (key new) ≡ false → sort_by cmp (filter p (insert_by key xs new)) ≡ new ∷ sort_by cmp (filter p xs))
            → sort_by cmp (filter p (match_ordering o (x ∷ insert_by key xs new) (new ∷ xs) (new ∷ x ∷ xs))) ≡ new ∷ sort_by cmp (filter p (x ∷ xs))
        go Less is h more = later (p x) refl (more (rw is at h))
        go Equal is h more = absurd (true≢false (rw is at h))
        go Greater is h more =
            ap (λ b. sort_by cmp (cond b (new ∷ filter p (x ∷ xs)) (filter p (x ∷ xs)))) passes
            ∙ put_first new (sort_by cmp (filter p (x ∷ xs))) (all_behind (x ∷ xs) all)
