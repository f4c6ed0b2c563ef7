-- A search among header lines: the line at which it stops is such, and none before is.
use Rattle.std.proofs.Common.{◌≡◌, ap, ◌∙◌, refl, Bool, true, false, ℕ, ◌+◌, List, Some, take, slice_get}
use Rattle.std.specs.List.{list_any}
use Rattle.std.proofs.lemmas.List.Folds.{list_any_at, list_any_more}
use Rattle.std.proofs.lemmas.Option.{get_or_from_slice_get, slice_get_within}

module _ (is_such : List ℕ × List ℕ → Bool) (lines : List (List ℕ × List ℕ)) (i : ℕ) (name value : List ℕ) (is : slice_get lines i ≡ Some (name, value)) where
  pub line_found : is_such (name, value) ≡ true → list_any is_such lines ≡ true
  line_found such =
      list_any_at is_such lines i (name, value) (slice_get_within lines i (name, value) is)
      (ap is_such (get_or_from_slice_get lines i (name, value) (name, value) is) ∙ such)

  pub none_so_far : is_such (name, value) ≡ false → list_any is_such (take i lines) ≡ false → list_any is_such (take (i + 1) lines) ≡ false
  none_so_far other before =
      let this = ap is_such (get_or_from_slice_get lines i (name, value) (name, value) is) ∙ other in
      list_any_more is_such lines i (name, value) (slice_get_within lines i (name, value) is) ∙ rw (before, this) refl
