-- How often rows name a number, as they are put in and taken out.
use Rattle.std.proofs.Common.{◌≡◌, refl, ap, ◌∙◌, ℕ, ◌+◌, ℤ, Bool, true, false, not, cond, List, [], ◌∷◌, filter, find, flat_map, Option, Some, None, int_cmp, is_gt, arith, Ordering, Less, Equal, Greater, true≢false}
use Rattle.std.proofs.lemmas.List.{append-nil}
use Rattle.std.specs.Option.{option_to_list}
use Rattle.std.specs.Ordering.{match_ordering}
use Rattle.sqlite_keyed.specs.Keyed.{insert_by, has_key}
use Rattle.sqlite_keyed.specs.Lists.{delete_where, insert_sorted, sort_by}
use Rattle.sqlite_keyed.specs.Rules.{AreApart}
use Rattle.s3_stored_bodies.specs.Numbers.{times}
use Rattle.s3_stored_bodies.proofs.NumberLemmas.{times-append}
use Rattle.s3_row_changes.specs.Trading.{numbers_of}
use Rattle.s3_row_changes.proofs.RowLemmas.{one_passes}

module _ {X : Type 0} (f : X → List ℕ) (n : ℕ) where
  -- how often the rows of a list name the number
  abbrev pub named_by : List X → ℕ
  named_by xs = times n (flat_map f xs)

  named-cons : (x : X) (xs : List X) → named_by (x ∷ xs) ≡ times n (f x) + named_by xs
  named-cons x xs = times-append n (f x) (flat_map f xs)

  pub named_taken : (p : X → Bool) (xs : List X) → named_by (delete_where p xs) + named_by (filter p xs) ≡ named_by xs
  named_taken p [] = refl
  named_taken p (x ∷ xs) = go (p x) (named_taken p xs)
    where
      go : (b : Bool) → named_by (delete_where p xs) + named_by (filter p xs) ≡ named_by xs
          → named_by (cond (not b) (x ∷ delete_where p xs) (delete_where p xs)) + named_by (cond b (x ∷ filter p xs) (filter p xs)) ≡ named_by (x ∷ xs)
      go true more = omega (arith, named-cons x (filter p xs), named-cons x xs)
      go false more = omega (arith, named-cons x (delete_where p xs), named-cons x xs)

  pub named-insert_by : (key : X → ℤ) (xs : List X) (new : X) → has_key key xs (key new) ≡ false → named_by (insert_by key xs new) ≡ named_by xs + times n (f new)
  named-insert_by key [] new free = omega (arith, named-cons new [])
  named-insert_by key (x ∷ xs) new free = go (int_cmp (key x) (key new)) refl free (named-insert_by key xs new)
    where
      go : (o : Ordering) → int_cmp (key x) (key new) ≡ o → has_key key (x ∷ xs) (key new) ≡ false → (has_key key xs (key new) ≡ false → named_by (insert_by key xs new) ≡ named_by xs + times n (f new))
          → named_by (match_ordering o (x ∷ insert_by key xs new) (new ∷ xs) (new ∷ x ∷ xs)) ≡ named_by (x ∷ xs) + times n (f new)
      go Less e h more = let rest = more (rw e at h) in omega (arith, named-cons x (insert_by key xs new), named-cons x xs)
      go Equal e h more = absurd (true≢false (rw e at h))
      go Greater e h more = omega (arith, named-cons new (x ∷ xs))

  named-insert_sorted : (cmp : X → X → Ordering) (new : X) (xs : List X) → named_by (insert_sorted cmp new xs) ≡ times n (f new) + named_by xs
  named-insert_sorted cmp new [] = named-cons new []
  named-insert_sorted cmp new (x ∷ xs) = go (is_gt (cmp new x)) (named-insert_sorted cmp new xs)
    where
      go : (b : Bool) → named_by (insert_sorted cmp new xs) ≡ times n (f new) + named_by xs → named_by (cond b (x ∷ insert_sorted cmp new xs) (new ∷ x ∷ xs)) ≡ times n (f new) + named_by (x ∷ xs)
      go true more = omega (arith, named-cons x (insert_sorted cmp new xs), named-cons x xs)
      go false more = named-cons new (x ∷ xs)

  pub named-sort_by : (cmp : X → X → Ordering) (xs : List X) → named_by (sort_by cmp xs) ≡ named_by xs
  named-sort_by cmp [] = refl
  named-sort_by cmp (x ∷ xs) = omega (arith, named-insert_sorted cmp x (sort_by cmp xs), named-sort_by cmp xs, named-cons x xs)

  named_found : (o : Option X) → named_by (option_to_list o) ≡ times n (numbers_of f o)
  named_found None = refl
  named_found (Some x) = ap (times n) (append-nil (f x))

  module _ (clash : X → X → Bool) (p : X → Bool) (alike : (a b : X) → p a ≡ true → p b ≡ true → clash a b ≡ true) where
    -- the one row that passes is taken out, and another one is put in
    pub drop_trades : (xs : List X) → AreApart clash xs → named_by (delete_where p xs) + times n (numbers_of f (find p xs)) ≡ named_by xs
    drop_trades xs apart =
        let one : named_by (filter p xs) ≡ times n (numbers_of f (find p xs)) = ap named_by (one_passes clash p alike xs apart) ∙ named_found (find p xs) in
        omega (arith, named_taken p xs)

    pub put_trades : (key : X → ℤ) (xs : List X) (new : X) → AreApart clash xs → has_key key (delete_where p xs) (key new) ≡ false
        → named_by (insert_by key (delete_where p xs) new) + times n (numbers_of f (find p xs)) ≡ named_by xs + times n (f new)
    put_trades key xs new apart free = omega (arith, drop_trades xs apart, named-insert_by key (delete_where p xs) new free)
