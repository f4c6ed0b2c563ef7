-- How `items_asked` goes through the rows that are asked for.
use Rattle.std.proofs.Common.{◌≡◌, sym, ap, subst, ◌∙◌, ℕ, ◌≤◌, ◌<◌, List, [], ◌++◌, filter, take, length, Option, Some, None, nat_eq, IsTrue}
use Rattle.std.specs.List.{AllByRecursion, starts_with}
use Rattle.s3_listings.specs.Rolled.{items_asked}
use Rattle.s3_listings.specs.Sought.{AreBehind, begins_with}
use Rattle.s3_listings.specs.Taken.{AreEnough, IsPlace, TakesRows, left_at}
use Rattle.s3_listings.specs.declared.row_page.RowItem.{RowItem}
use Rattle.s3_listings.specs.declared.rolled.Place.{Place}
use Rattle.s3_listings.proofs.RolledLemmas.{AreLeft, asked_are_left, goes_on, left_are, taken_all, taken_begin, taken_enough}

-- the rows that are asked for begin with the prefix by which they are rolled up
module _ {A : Type 0} (key : A → List ℕ) (prefix delimiter marker wanted : List ℕ) (same : prefix ≡ wanted) (all behind : List A) (known : AreBehind key marker all behind) where
  abbrev asked : List A
  asked = filter (begins_with key wanted) behind

  abbrev Known : (before : List (RowItem A)) → Place → Type 0
  Known before place = before ++ items_asked key prefix delimiter marker (left_at key asked place) ≡ items_asked key prefix delimiter marker asked

  are : AreLeft key prefix delimiter marker asked
  are = subst (λ p. AreLeft key p delimiter marker asked) (sym same) (asked_are_left key wanted delimiter marker all behind known)

  module _ (most : ℕ) (place : Place) (rows : List A) (some : AreEnough key prefix delimiter most (left_at key asked place) rows) where
    pub rows_begin : AllByRecursion (λ row. IsTrue (starts_with nat_eq (key row) prefix)) rows
    rows_begin = taken_begin key prefix delimiter marker (left_at key asked place) rows some.count (left_are key prefix delimiter marker asked place are) some.are

    -- where the list doesn't go on
    pub all_taken : (before after : List (RowItem A)) (next : Option Place) → next ≡ None → Known before place → TakesRows key prefix delimiter marker rows before after next
        → take most after ≡ take most (items_asked key prefix delimiter marker asked)
    all_taken before after next none told takes =
        let taken : TakesRows key prefix delimiter marker rows before after None = subst (TakesRows key prefix delimiter marker rows before after) none takes in
        taken_all key prefix delimiter marker asked rows most before after place are some told taken.0 taken.1

    -- where it does, from a place on
    module _ (before after : List (RowItem A)) (next : Option Place) (later : Place) (is : next ≡ Some later) (told : Known before place)
        (takes : TakesRows key prefix delimiter marker rows before after next) where
      goes : Known after later × IsPlace prefix marker later × (length (left_at key asked later) < length (left_at key asked place))
      goes =
          goes_on key prefix delimiter marker asked rows most before after place are some told later
          (subst (TakesRows key prefix delimiter marker rows before after) is takes)

      pub enough_taken : most ≤ length after → take most after ≡ take most (items_asked key prefix delimiter marker asked)
      enough_taken fits = taken_enough key prefix delimiter marker asked rows most before after place are some told later goes.0 fits

      pub told_on : Known after later
      told_on = goes.0

      pub place_on : IsPlace wanted marker later
      place_on = subst (λ p. IsPlace p marker later) same goes.1

      pub fewer_on : length (left_at key asked later) < length (left_at key asked place)
      fewer_on = goes.2
