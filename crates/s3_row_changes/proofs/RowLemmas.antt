-- Rows that a test finds, and that are taken out by their rowids.
use Rattle.std.proofs.Common.{◌≡◌, refl, sym, ap, subst, ◌∙◌, ℤ, ◌<ℤ◌, Bool, true, false, not, cond, ◌&&◌, List, [], ◌∷◌, map, filter, find, fold, Option, Some, None, option_map, int_eq, arith, true≢false, IsPermutation}
use Rattle.std.proofs.Math.Bool.{and_comm}
use Rattle.std.proofs.lemmas.Bool.{false_from_ne_true}
use Rattle.std.proofs.lemmas.Int.{ints}
use Rattle.std.specs.List.{AllByRecursion}
use Rattle.std.specs.Option.{option_to_list}
use Rattle.sqlite_keyed.specs.Keyed.{IsKeyedBy}
use Rattle.sqlite_keyed.specs.Lists.{delete_where, without_key}
use Rattle.sqlite_keyed.specs.Rules.{AreApart}
use Rattle.sqlite_keyed.proofs.KeyedLemmas.{int_eq_apart}
use Rattle.sqlite_keyed.proofs.ListLemmas.{all_weaker, all_both, filter_all, filter_none, along_permutation}
use Rattle.sqlite_keyed.proofs.WriteLemmas.{removes_delete}
use Rattle.s3_rows.proofs.EditLemmas.{same_key, find_has, filter_agreeing, filter_alike, filter_both}

-- where a test finds no row it passes at none
pub none_passes : {X : Type 0} (p : X → Bool) (xs : List X) → find p xs ≡ None → AllByRecursion (λ x. p x ≡ false) xs
none_passes p [] none = tt
none_passes {X} p (x ∷ xs) none = go (p x) refl none (none_passes p xs)
  where
    go : (b : Bool) → p x ≡ b → cond b (Some x) (find p xs) ≡ None → (find p xs ≡ None → AllByRecursion (λ y. p y ≡ false) xs) → AllByRecursion (λ y. p y ≡ false) (x ∷ xs)
    go true is e more = cc
    go false is e more = (is, more e)

pub none_dropped : {X : Type 0} (p : X → Bool) (xs : List X) → find p xs ≡ None → delete_where p xs ≡ xs
none_dropped p xs none = filter_all (λ x. not (p x)) xs (all_weaker (λ x. p x ≡ false) (λ x. not (p x) ≡ true) (λ x fails. ap not fails) xs (none_passes p xs none))

-- two filters in either order
filter_turned : {X : Type 0} (p q : X → Bool) (xs : List X) → filter p (filter q xs) ≡ filter q (filter p xs)
filter_turned p q xs = sym (filter_both q p xs) ∙ filter_alike (λ x. q x && p x) (λ x. p x && q x) (λ x. and_comm (q x) (p x)) xs ∙ filter_both p q xs

module _ {X : Type 0} (key : X → ℤ) where
  -- rows are taken out in any order
  abbrev TakeOutAlike : List X → List X → Type 0
  TakeOutAlike ys zs = (xs : List X) → fold (without_key key) xs (map key ys) ≡ fold (without_key key) xs (map key zs)

  pub taken_in_any_order : (ys zs : List X) → IsPermutation ys zs → TakeOutAlike ys zs
  taken_in_any_order = along_permutation TakeOutAlike
      (λ ys xs. refl)
      (λ y ys zs h xs. h (without_key key xs (key y)))
      (λ y z ys xs. ap (λ l. fold (without_key key) l (map key ys)) (filter_turned (λ x. not (int_eq (key x) (key z))) (λ x. not (int_eq (key x) (key y))) xs))
      (λ ws ys zs h k xs. h xs ∙ k xs)

  -- the rows that pass a test, by their rowids
  pub taken_by_rows : (p : X → Bool) (xs ys : List X) → IsKeyedBy key xs → IsPermutation ys (filter p xs) → fold (without_key key) xs (map key ys) ≡ delete_where p xs
  taken_by_rows p xs ys up same = taken_in_any_order ys (filter p xs) same xs ∙ removes_delete key p xs up

module _ {X : Type 0} (clash : X → X → Bool) (p : X → Bool) (alike : (a b : X) → p a ≡ true → p b ≡ true → clash a b ≡ true) where
  fails_after : (x : X) → p x ≡ true → (y : X) → clash x y ≡ false → p y ≡ false
  fails_after x is y apart = false_from_ne_true (p y) (λ other. absurd (true≢false (sym (alike x y is other) ∙ apart)))

  -- of rows that are apart the test passes at the one that it finds
  pub one_passes : (xs : List X) → AreApart clash xs → filter p xs ≡ option_to_list (find p xs)
  one_passes [] apart = refl
  one_passes (x ∷ xs) apart = go (p x) refl (one_passes xs apart.1)
    where
      go : (b : Bool) → p x ≡ b → filter p xs ≡ option_to_list (find p xs) → cond b (x ∷ filter p xs) (filter p xs) ≡ option_to_list (cond b (Some x) (find p xs))
      go true is more = ap (λ l. x ∷ l) (filter_none p xs (all_weaker (λ y. clash x y ≡ false) (λ y. p y ≡ false) (fails_after x is) xs apart.0))
      go false is more = more

  module _ (key : X → ℤ) where
    -- and that one alone has its rowid
    pub passes_by_row : (xs : List X) (w : X) → IsKeyedBy key xs → AreApart clash xs → find p xs ≡ Some w → AllByRecursion (λ x. p x ≡ int_eq (key x) (key w)) xs
    passes_by_row [] w up apart found = cc
    passes_by_row (x ∷ xs) w up apart found = go (p x) refl found (passes_by_row xs w up.1 apart.1)
      where
        go : (b : Bool) → p x ≡ b → cond b (Some x) (find p xs) ≡ Some w → (find p xs ≡ Some w → AllByRecursion (λ y. p y ≡ int_eq (key y) (key w)) xs)
            → AllByRecursion (λ y. p y ≡ int_eq (key y) (key w)) (x ∷ xs)
        go true is e more =
            let same : x ≡ w = cc in
            let same_row : key x ≡ key w = ap key same in (
              is ∙ sym (same_key (key x) (key w) same_row),
              all_both (λ y. clash x y ≡ false) (λ y. key x <ℤ key y) (λ y. p y ≡ int_eq (key y) (key w))
                  (λ y differs above. fails_after x is y differs ∙ sym (int_eq_apart (key y) (key w) (λ tied. omega (arith, ints)))) xs apart.0 up.0,
            )
        go false is e more =
            let above : key x <ℤ key w = find_has (λ y. key x <ℤ key y) p xs w up.0 e in
            (is ∙ sym (int_eq_apart (key x) (key w) (λ tied. omega (arith, ints))), more e)

    -- so to take it out by its rowid is to take out what passes
    pub taken_by_row : (xs : List X) (gone : Option ℤ) → IsKeyedBy key xs → AreApart clash xs → option_map key (find p xs) ≡ gone → fold (without_key key) xs (option_to_list gone) ≡ delete_where p xs
    taken_by_row xs gone up apart its = go (find p xs) refl its
      where
        go : (o : Option X) → find p xs ≡ o → option_map key o ≡ gone → fold (without_key key) xs (option_to_list gone) ≡ delete_where p xs
        go None none is = subst (λ g. fold (without_key key) xs (option_to_list g) ≡ delete_where p xs) is (sym (none_dropped p xs none))
        go (Some w) found is =
            subst (λ g. fold (without_key key) xs (option_to_list g) ≡ delete_where p xs) is
            (filter_agreeing (λ x. not (int_eq (key x) (key w))) (λ x. not (p x)) xs
            (all_weaker (λ x. p x ≡ int_eq (key x) (key w)) (λ x. not (int_eq (key x) (key w)) ≡ not (p x)) (λ x same. ap not (sym same)) xs (passes_by_row xs w up apart found)))
