-- Rowids below the next one.
use Rattle.std.proofs.Common.{◌≡◌, refl, ap, ◌∙◌, ℤ, pos, ◌+ℤ◌, true, false, cond, List, [], ◌∷◌, find, Some, is_some, int_lt, int_eq, arith}
use Rattle.std.proofs.lemmas.Int.{ints}
use Rattle.std.proofs.lemmas.List.Elements.{recursion_from_All, All-weaker}
use Rattle.std.specs.List.{AllByRecursion}
use Rattle.sqlite_keyed.specs.Keyed.{has_key}
use Rattle.sqlite_keyed.specs.Rules.{AllPass}
use Rattle.s3_rows.specs.Columns.{Tables}
use Rattle.s3_rows.specs.Soundness.{bucket_row, version_row, upload_row, part_row}
use Rattle.s3_stored_rows.specs.Rowids.{AreRowsBelow}

less_later : (a next : ℤ) → int_lt a next ≡ true → int_lt a (next +ℤ pos 1) ≡ true
less_later a next less = grind (arith, ints)

pub less_next : (next row : ℤ) → row ≡ next → int_lt row (next +ℤ pos 1) ≡ true
less_next next row is = grind (arith, ints)

apart_from_less : (a next : ℤ) → int_lt a next ≡ true → int_eq a next ≡ false
apart_from_less a next less = grind (arith, ints)

module _ {X : Type 0} (key : X → ℤ) (next : ℤ) where
  -- rows below it are below a later one
  pub pass_later : (xs : List X) → AllPass (λ x. int_lt (key x) next) xs → AllPass (λ x. int_lt (key x) (next +ℤ pos 1)) xs
  pass_later xs below = All-weaker (λ x. int_lt (key x) next ≡ true) (λ x. int_lt (key x) (next +ℤ pos 1) ≡ true) (λ x less. less_later (key x) next less) xs below

  none_has : (xs : List X) → AllByRecursion (λ x. int_lt (key x) next ≡ true) xs → has_key key xs next ≡ false
  none_has [] below = refl
  none_has (x ∷ xs) below = ap (λ b. is_some (cond b (Some x) (find (λ y. int_eq (key y) next) xs))) (apart_from_less (key x) next below.0) ∙ none_has xs below.1

  -- so it is free
  pub next_free : (xs : List X) (row : ℤ) → row ≡ next → AllPass (λ x. int_lt (key x) next) xs → has_key key xs row ≡ false
  next_free xs row is below = ap (has_key key xs) is ∙ none_has xs (recursion_from_All (λ x. int_lt (key x) next ≡ true) xs below)

pub rows_later : (next : ℤ) (t : Tables) → AreRowsBelow next t → AreRowsBelow (next +ℤ pos 1) t
rows_later next t below = record {
  buckets = pass_later bucket_row next t.buckets below.buckets;
  versions = pass_later version_row next t.versions below.versions;
  uploads = pass_later upload_row next t.uploads below.uploads;
  parts = pass_later part_row next t.parts below.parts;
}
