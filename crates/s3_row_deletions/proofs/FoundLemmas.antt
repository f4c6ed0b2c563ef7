-- Lists of rows of which one at most passes a test: what is found, taken out and put in.
use Rattle.std.proofs.Common.{◌≡◌, refl, sym, ap, ◌∙◌, ℕ, ◌+◌, ℤ, ◌<ℤ◌, Bool, true, false, not, cond, List, [], ◌∷◌, ◌++◌, find, Option, Some, None, is_some, option_map, unwrap_or, arith, Ordering, Less, Equal, Greater, int_cmp, int_eq, is_eq, true≢false}
use Rattle.std.proofs.lemmas.Bool.{false_from_ne_true}
use Rattle.std.proofs.lemmas.Int.{ints}
use Rattle.std.specs.List.{AllByRecursion, flat_map}
use Rattle.std.specs.Ordering.{match_ordering}
use Rattle.sqlite_keyed.specs.Keyed.{IsKeyedBy, insert_by, has_key}
use Rattle.sqlite_keyed.specs.Lists.{delete_where, without_key}
use Rattle.sqlite_keyed.specs.Rules.{AreApart}
use Rattle.sqlite_keyed.proofs.ListLemmas.{all_weaker, all_both, all-filter}
use Rattle.s3_rows.proofs.EditLemmas.{same_key, find_has, filter_agreeing}
use Rattle.s3_stored_bodies.specs.Numbers.{times}
use Rattle.s3_stored_bodies.proofs.NumberLemmas.{times-append}

-- nothing is found where all fail, and then nothing is taken out
pub none_found : {X : Type 0} (p : X → Bool) (xs : List X) → AllByRecursion (λ x. p x ≡ false) xs → find p xs ≡ None
none_found p [] fail = refl
none_found p (x ∷ xs) fail = ap (λ b. cond b (Some x) (find p xs)) fail.0 ∙ none_found p xs fail.1

pub none_out : {X : Type 0} (p : X → Bool) (xs : List X) → find p xs ≡ None → delete_where p xs ≡ xs
none_out p [] none = refl
none_out {X} p (x ∷ xs) none = go (p x) none (none_out p xs)
  where
    go : (b : Bool) → cond b (Some x) (find p xs) ≡ None → (find p xs ≡ None → delete_where p xs ≡ xs) → cond (not b) (x ∷ delete_where p xs) (delete_where p xs) ≡ x ∷ xs
    go true e more = cc
    go false e more = ap (λ l. x ∷ l) (more e)

-- what is found, unless it passes another test
abbrev pub unless : {X : Type 0} → (X → Bool) → Option X → Option X
unless q None = None
unless q (Some x) = cond (q x) None (Some x)

module _ {X : Type 0} (clash : X → X → Bool) (p : X → Bool) (both : (x y : X) → p x ≡ true → p y ≡ true → clash x y ≡ true) where
  -- beside one that passes all fail
  others_fail : (x : X) (xs : List X) → p x ≡ true → AllByRecursion (λ y. clash x y ≡ false) xs → AllByRecursion (λ y. p y ≡ false) xs
  others_fail x xs here apart =
      all_weaker (λ y. clash x y ≡ false) (λ y. p y ≡ false) (λ y fails. false_from_ne_true (p y) (λ passes. true≢false (sym (both x y here passes) ∙ fails))) xs apart

  others_stay : (x : X) (xs : List X) → p x ≡ true → AllByRecursion (λ y. clash x y ≡ false) xs → delete_where p xs ≡ xs
  others_stay x xs here apart = none_out p xs (none_found p xs (others_fail x xs here apart))

  -- what is found after others were taken out
  pub find_without : (q : X → Bool) (xs : List X) → AreApart clash xs → find p (delete_where q xs) ≡ unless q (find p xs)
  find_without q [] apart = refl
  find_without q (x ∷ xs) apart = go (p x) (q x) refl refl (find_without q xs apart.1)
    where
      go : (a b : Bool) → p x ≡ a → q x ≡ b → find p (delete_where q xs) ≡ unless q (find p xs)
          → find p (cond (not b) (x ∷ delete_where q xs) (delete_where q xs)) ≡ unless q (cond a (Some x) (find p xs))
      go true true is out more =
          none_found p (delete_where q xs) (all-filter (λ y. p y ≡ false) (λ y. not (q y)) xs (others_fail x xs is apart.0)) ∙ ap (λ b. cond b None (Some x)) (sym out)
      go true false is out more = ap (λ b. cond b (Some x) (find p (delete_where q xs))) is ∙ ap (λ b. cond b None (Some x)) (sym out)
      go false true is out more = more
      go false false is out more = ap (λ b. cond b (Some x) (find p (delete_where q xs))) is ∙ more

  -- what is told of the one that is found holds of each that passes
  pub passing_alike : (r : X → Bool) (xs : List X) → AreApart clash xs → unwrap_or (option_map r (find p xs)) false ≡ false → AllByRecursion (λ x. p x ≡ true → r x ≡ false) xs
  passing_alike r [] apart told = tt
  passing_alike r (x ∷ xs) apart told = go (p x) refl told (passing_alike r xs apart.1)
    where
      go : (b : Bool) → p x ≡ b → unwrap_or (option_map r (cond b (Some x) (find p xs))) false ≡ false
          → (unwrap_or (option_map r (find p xs)) false ≡ false → AllByRecursion (λ y. p y ≡ true → r y ≡ false) xs) → AllByRecursion (λ y. p y ≡ true → r y ≡ false) (x ∷ xs)
      go true is e more =
          (λ passes. e, all_weaker (λ y. p y ≡ false) (λ y. p y ≡ true → r y ≡ false) (λ y fails passes. absurd (true≢false (sym passes ∙ fails))) xs (others_fail x xs is apart.0))
      go false is e more = (λ passes. absurd (true≢false (sym passes ∙ is)), more e)

  -- the numbers of the one that is taken out are there once less
  pub out_times : (f : X → List ℕ) (n : ℕ) (xs : List X) (w : X) → AreApart clash xs → find p xs ≡ Some w
      → times n (flat_map f (delete_where p xs)) + times n (f w) ≡ times n (flat_map f xs)
  out_times f n [] w apart found = cc
  out_times f n (x ∷ xs) w apart found = go (p x) refl found (out_times f n xs w apart.1)
    where
      go : (b : Bool) → p x ≡ b → cond b (Some x) (find p xs) ≡ Some w → (find p xs ≡ Some w → times n (flat_map f (delete_where p xs)) + times n (f w) ≡ times n (flat_map f xs))
          → times n (flat_map f (cond (not b) (x ∷ delete_where p xs) (delete_where p xs))) + times n (f w) ≡ times n (f x ++ flat_map f xs)
      go true is e more =
          let same : x ≡ w = cc in
          let left = ap (λ l. times n (flat_map f l)) (others_stay x xs is apart.0) in
          let here = ap (λ y. times n (f y)) same in
          omega (arith, left, here, times-append n (f x) (flat_map f xs))
      go false is e more = omega (arith, more e, times-append n (f x) (flat_map f (delete_where p xs)), times-append n (f x) (flat_map f xs))

  -- the rowid of the one that is found is that of none that fails
  module _ (key : X → ℤ) where
    agree : (xs : List X) (w : X) → IsKeyedBy key xs → AreApart clash xs → find p xs ≡ Some w → AllByRecursion (λ x. int_eq (key x) (key w) ≡ p x) xs
    agree [] w rise apart found = tt
    agree (x ∷ xs) w rise apart found = go (p x) refl found (agree xs w rise.1 apart.1)
      where
        go : (b : Bool) → p x ≡ b → cond b (Some x) (find p xs) ≡ Some w → (find p xs ≡ Some w → AllByRecursion (λ y. int_eq (key y) (key w) ≡ p y) xs)
            → AllByRecursion (λ y. int_eq (key y) (key w) ≡ p y) (x ∷ xs)
        go true is e more =
            let same : x ≡ w = cc in (
              same_key (key x) (key w) (ap key same) ∙ sym is,
              all_both (λ y. key x <ℤ key y) (λ y. p y ≡ false) (λ y. int_eq (key y) (key w) ≡ p y)
                  (λ y above fails. let k : key x ≡ key w = ap key same in let differ : int_eq (key y) (key w) ≡ false = grind (arith, ints) in differ ∙ sym fails)
                  xs rise.0 (others_fail x xs is apart.0),
            )
        go false is e more =
            let above : key x <ℤ key w = find_has (λ y. key x <ℤ key y) p xs w rise.0 e in
            let differ : int_eq (key x) (key w) ≡ false = grind (arith, ints) in
            (differ ∙ sym is, more e)

    pub without_found : (xs : List X) (w : X) → IsKeyedBy key xs → AreApart clash xs → find p xs ≡ Some w → without_key key xs (key w) ≡ delete_where p xs
    without_found xs w rise apart found =
        filter_agreeing (λ x. not (int_eq (key x) (key w))) (λ x. not (p x)) xs
        (all_weaker (λ x. int_eq (key x) (key w) ≡ p x) (λ x. not (int_eq (key x) (key w)) ≡ not (p x)) (λ x same. ap not same) xs (agree xs w rise apart found))

-- a row that names no numbers is put in
module _ {X : Type 0} (key : X → ℤ) where
  pub put_names_none : (f : X → List ℕ) (xs : List X) (new : X) → f new ≡ [] → has_key key xs (key new) ≡ false → flat_map f (insert_by key xs new) ≡ flat_map f xs
  put_names_none f [] new none free = ap (λ l. l ++ []) none
  put_names_none f (x ∷ xs) new none free = go (int_cmp (key x) (key new)) refl free (put_names_none f xs new none)
    where
      go : (o : Ordering) → int_cmp (key x) (key new) ≡ o → is_some (cond (is_eq (int_cmp (key x) (key new))) (Some x) (find (λ y. int_eq (key y) (key new)) xs)) ≡ false
          → (has_key key xs (key new) ≡ false → flat_map f (insert_by key xs new) ≡ flat_map f xs)
          → flat_map f (match_ordering o (x ∷ insert_by key xs new) (new ∷ xs) (new ∷ x ∷ xs)) ≡ f x ++ flat_map f xs
      go Less is e more = ap (λ l. f x ++ l) (more (ap (λ o. is_some (cond (is_eq o) (Some x) (find (λ y. int_eq (key y) (key new)) xs))) (sym is) ∙ e))
      go Equal is e more = absurd (true≢false (ap (λ o. is_some (cond (is_eq o) (Some x) (find (λ y. int_eq (key y) (key new)) xs))) (sym is) ∙ e))
      go Greater is e more = ap (λ l. l ++ (f x ++ flat_map f xs)) none

  -- a rowid above all is that of none
  pub free_above : (xs : List X) (id : ℤ) → AllByRecursion (λ x. key x <ℤ id) xs → has_key key xs id ≡ false
  free_above [] id below = refl
  free_above (x ∷ xs) id below =
      let less = below.0 in
      let differ : int_eq (key x) id ≡ false = grind (arith, ints) in
      ap (λ b. is_some (cond b (Some x) (find (λ y. int_eq (key y) id) xs))) differ ∙ free_above xs id below.1

-- two values that are there
pub same_some : {X : Type 0} (x y : X) → Some x ≡ Some y → x ≡ y
same_some x y same = ap (λ o. unwrap_or o x) same
