-- What a query over one table answers.
use Rattle.std.proofs.Common.{◌≡◌, ℕ, ℤ, pos, Bool, true, false, cond, ◌||◌, Option, Some, List, [], ◌∷◌, map, filter, slice_get, option_map, find, is_some, length, arith, subst, IsPermutation, refl, sym, ap, ◌∙◌, Ordering, Result, Ok, Err}
use Rattle.std.specs.Prelude.{IfOk, OnOk, take}
use Rattle.std.specs.List.{list_all, list_any}
use Rattle.std.proofs.lemmas.Option.{slice_get-map}
use Rattle.std.proofs.lemmas.List.{length-map}
use Rattle.std.proofs.lemmas.List.Sorted.{length_permutation}
use Rattle.sqlite.specs.declared.types.Value.TheVariants.{Int}
use Rattle.sqlite.specs.Order.{Row}
use Rattle.sqlite.specs.Query.{IsAnswer, Output, page, output, output_cmp, inner, end}
use Rattle.sqlite.specs.Program.{overlay}
use Rattle.sqlite.specs.Term.{Term, lit}
use Rattle.sqlite_sql.specs.Term.{eval_all, holds}
use Rattle.sqlite_trees.specs.Tree.{Trees}
use Rattle.sqlite_keyed.specs.Lists.{sort_by}
use Rattle.sqlite_keyed.proofs.ListLemmas.{ascending-filter, map-map, slice_get-filter}
use Rattle.sqlite_typed.proofs.AnswerLemmas.{Source, at_end, last_table, answer_sorted, answer_by_keys, unmapped, no_tie, no_tie_after, first_found, first_of, matches_are}
use Rattle.sqlite_typed.proofs.TestLemmas.{last_key}
use Rattle.sqlite_value.proofs.OrderLemmas.{value_cmp-Int}
use Rattle.s3_tables.specs.Stored.{stored, HoldsRows}
use Rattle.s3_tables.proofs.RowLemmas.{IsBare}
use Rattle.s3_tables.proofs.ReadTexts.{SortKey, select_from, row_key}
use Rattle.s3_tables.proofs.SortLemmas.{with_row, sort_with_row}

some_if : {A B C : Type 0} (f : A → B) (xs : List A) (ys : List C) → length xs ≡ length ys → is_some (slice_get (take 1 (map f xs)) 0) ≡ is_some (slice_get ys 0)
some_if f [] [] e = refl
some_if f [] (y ∷ ys) e = absurd (omega arith)
some_if f (x ∷ xs) [] e = absurd (omega arith)
some_if f (x ∷ xs) (y ∷ ys) e = refl

some_or : {X : Type 0} (b : Bool) (x : X) (found : Option X) (rest : Bool) → is_some found ≡ rest → is_some (cond b (Some x) found) ≡ (b || rest)
some_or true x found rest h = refl
some_or false x found rest h = h

some_found : {X : Type 0} (p : X → Bool) (xs : List X) → is_some (find p xs) ≡ list_any p xs
some_found p [] = refl
some_found p (x ∷ xs) = some_or (p x) x (find p xs) (list_any p xs) (some_found p xs)

module _ {X : Type 0} (row : X → ℤ) (cells : X → Row) (tree : ℕ) (bare : IsBare tree) (back : Row → X) (db : Trees) (xs : List X) (holds_rows : HoldsRows row cells (db tree) xs) where
  abbrev source : Source (overlay db []) (inner tree end) X
  source = last_table (overlay db []) tree (stored row cells) row xs (bare db ∙ holds_rows.rows) holds_rows.keyed (at_end (overlay db []))

  module _ (tests : List Term) (project : List Term) (limit : Term) (params : Row) (rows : List Row) (p : X → Bool) (passes : (x : X) → list_all (holds (params ∷ stored row cells x ∷ [])) tests ≡ p x)
      (shows : (x : X) → back (eval_all project (params ∷ stored row cells x ∷ [])) ≡ x) where
    -- in the order of the rowids
    pub by_row : IsAnswer (select_from tree tests project (row_key ∷ []) limit) (overlay db []) params rows
        → map back rows ≡ page (select_from tree tests project (row_key ∷ []) limit) params (filter p xs)
    by_row answer =
        let q = select_from tree tests project (row_key ∷ []) limit in
        unmapped q params (filter p xs) (answer_by_keys q (overlay db []) params source p passes back (λ x. x) shows refl refl (λ a b. last_key (value_cmp-Int (row a) (row b))) rows answer)

    -- in another order, and by rowid where that has a tie
    pub by_order : (order : List SortKey) (cmp : X → X → Ordering)
        → ((a b : X) → output_cmp (select_from tree tests project order limit) (output (select_from tree tests project order limit) (params ∷ stored row cells a ∷ []))
        (output (select_from tree tests project order limit) (params ∷ stored row cells b ∷ [])) ≡ with_row row cmp a b)
        → IsAnswer (select_from tree tests project order limit) (overlay db []) params rows
        → map back rows ≡ page (select_from tree tests project order limit) params (sort_by cmp (filter p xs))
    by_order order cmp is answer =
        let q = select_from tree tests project order limit in
        unmapped q params (sort_by (with_row row cmp) (filter p xs)) (answer_sorted q (overlay db []) params source p passes back (λ x. x) shows refl refl (with_row row cmp) (λ a b below. no_tie_after (cmp a b) (no_tie below)) is rows answer)
        ∙ ap (page q params) (sort_with_row row cmp (filter p xs) (ascending-filter _ p xs holds_rows.keyed))

  -- under LIMIT 1 there is a row where some row passes, whichever it is
  module _ (tests : List Term) (project : List Term) (params : Row) (rows : List Row) (p : X → Bool) (passes : (x : X) → list_all (holds (params ∷ stored row cells x ∷ [])) tests ≡ p x) where
    pub any_found : IsAnswer (select_from tree tests project [] (lit (Int (pos 1)))) (overlay db []) params rows → is_some (slice_get rows 0) ≡ list_any p xs
    any_found a =
        let q = select_from tree tests project [] (lit (Int (pos 1))) in
        let passing = filter p xs in
        let outs : List Output = map (λ (x : X). output q (params ∷ stored row cells x ∷ [])) passing in
        let staged : a.staged ≡ map (λ (x : X). params ∷ stored row cells x ∷ []) passing = a.grouped ∙ matches_are q (overlay db []) params source p passes in
        let kept : a.kept ≡ outs = a.distinct ∙ ap (map (output q)) staged ∙ map-map (output q) _ passing in
        let same : IsPermutation outs a.ordered = subst (λ l. IsPermutation l a.ordered) kept a.same in
        let size : length a.ordered ≡ length passing = length_permutation outs a.ordered same ∙ length-map passing _ in
        let shown : rows ≡ take 1 (map (λ (o : Output). o.1) a.ordered) = a.shown in
        ap (λ l. is_some (slice_get l 0)) shown ∙ some_if (λ (o : Output). o.1) a.ordered passing size ∙ ap is_some (slice_get-filter p xs) ∙ some_found p xs

-- ---- the first row of an answer

pub one_found : {X : Type 0} (back : Row → X) (p : X → Bool) (xs : List X) (rows : List Row) → map back rows ≡ take 1 (filter p xs) → option_map back (slice_get rows 0) ≡ find p xs
one_found back p xs rows h = sym (slice_get-map back rows 0) ∙ first_found p xs h

pub first_one : {X : Type 0} (back : Row → X) (xs : List X) (rows : List Row) → map back rows ≡ take 1 xs → option_map back (slice_get rows 0) ≡ slice_get xs 0
first_one back xs rows h = sym (slice_get-map back rows 0) ∙ first_of xs h

-- what was read of the rows is what was asked for
pub as_asked : {R E X : Type 0} (f : R → X) {a b : X} (r : Result R E) → IfOk r (λ found. f found ≡ a) → a ≡ b → IfOk r (λ found. f found ≡ b)
as_asked f (Ok found) h e = h ∙ e
as_asked f (Err error) h e = tt

-- where it holds whatever was read
pub on_ok : {R E A : Type 0} (r : Result R E) → A → OnOk r A
on_ok (Ok found) a = a
on_ok (Err error) a = tt
