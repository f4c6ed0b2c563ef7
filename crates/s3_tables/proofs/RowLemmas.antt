-- What INSERT and DELETE make of the rows of a table.
use Rattle.std.proofs.Common.{◌≡◌, ◌≢◌, ◌⊎◌, inl, inr, ℕ, ◌/◌, ℤ, List, [], ◌∷◌, ◌++◌, map, filter, fold, not, Bool, true, false, cond, Some, None, Ok, Err, Result, refl, sym, ap, subst, ◌∙◌, arith, int_eq, length, slice_get, IsPermutation}
use Rattle.std.specs.List.{AllByRecursion}
use Rattle.std.proofs.lemmas.List.{length-map}
use Rattle.std.proofs.lemmas.List.Sorted.{length_permutation, All-permutation}
use Rattle.std.proofs.lemmas.List.Elements.{All-from_recursion, recursion_from_All}
use Rattle.sqlite.specs.declared.types.Value.{Value}
use Rattle.sqlite.specs.declared.types.Value.TheVariants.{Null, Int}
use Rattle.sqlite.specs.Order.{Row}
use Rattle.sqlite.specs.Ops.{unary}
use Rattle.sqlite.specs.Query.{IsAnswer, Output, output, inner, end}
use Rattle.sqlite.specs.Program.{overlay}
use Rattle.sqlite.specs.Kind.TheVariants.{Integer}
use Rattle.sqlite.specs.Command.TheVariants.{Insert}
use Rattle.sqlite.specs.Source.TheVariants.{Values}
use Rattle.sqlite.specs.Edit.{id_in, edit_of, edited}
use Rattle.sqlite_sql.specs.declared.ops.CompareOp.TheVariants.{Eq}
use Rattle.sqlite.specs.Cast.{cast}
use Rattle.sqlite_rules.specs.Cast.{cast_all}
use Rattle.sqlite.specs.Rowids.TheVariants.{Chosen, Given}
use Rattle.sqlite.specs.Does.{Tally, Does, AtPlace, OnRows}
use Rattle.sqlite.specs.Rows.{Written, Task}
use Rattle.sqlite.specs.Tree.{Trees, rowid, without_rowid}
use Rattle.sqlite.specs.Table.{Table}
use Rattle.sqlite_value.specs.declared.keys.Order.{Order}
use Rattle.sqlite.specs.Term.{Term}
use Rattle.sqlite_schema.specs.declared.schema.Column.{Column}
use Rattle.sqlite.specs.Effect.{Database, IsDatabase, value_rows}
use Rattle.sqlite.specs.State.{State, mode_of}
use Rattle.sqlite.proofs.Callers.{one_step}
use Rattle.sqlite_catalog.specs.Listing.{IsSound}
use Rattle.sqlite_keyed.specs.Keyed.{insert_by}
use Rattle.sqlite_keyed.specs.Lists.{without_key}
use Rattle.sqlite_rules.specs.Calls.{ids_of}
use Rattle.sqlite_keyed.proofs.ListLemmas.{filter-filter, map-map}
use Rattle.sqlite_keyed.proofs.KeyedLemmas.{same_int}
use Rattle.sqlite_typed.proofs.RowLemmas.{puts-map, deletes-map}
use Rattle.sqlite_typed.proofs.AnswerLemmas.{Source, matches_are, at_end, last_table}
use Rattle.sqlite_typed.proofs.TestLemmas.{at_ints, last_term}
use Rattle.s3_tables.specs.Schema.{schema, table_of}
use Rattle.s3_tables.specs.Stored.{stored, HoldsRows}
use Rattle.s3_tables.proofs.Texts.{row_query, drop_command}

either : (b : Bool) (x : Value) → cond b x x ≡ x
either true x = refl
either false x = refl

null_kept : cast Integer Null ≡ Null
unfolding unary
null_kept = either _ Null

pub number_kept : (n : ℤ) → cast Integer (Int n) ≡ Int n
unfolding unary
number_kept n = either _ (Int n)

-- a part that gave a value did not stop on the way
pub went : {B E R : Type 0} {b : B} {Stops : E → Type 0} → ((stop : E) × Stops stop × (Ok b ≡ Err stop)) ⊎ R → R
went (inl stopped) = absurd (let e = stopped.2 in cc)
went (inr on) = on

pub same_value : {B E : Type 0} {a b : B} → ◌≡◌ {A = Result B E} (Ok a) (Ok b) → a ≡ b
same_value e = cc

-- the statement has made these rows of one tree, and the other tables have theirs
pub record Edits (tree : ℕ) (rows : List Row) (old : Trees) (after : Database) : Type 0 where
  pub schema_is : after.schema ≡ schema
  pub sound : IsSound schema after.trees
  pub rows_are : after.trees tree ≡ rows
  pub others : AllByRecursion (λ (t : Table). t.tree ≢ tree → after.trees t.tree ≡ old t.tree) schema.tables

-- ---- to take a row away, however often, is to take it away

module _ {X : Type 0} (key : X → ℤ) where
  abbrev gone_by : ℤ → X → Bool
  gone_by id x = int_eq (key x) id

  keeps_all : (id : ℤ) (xs : List X) → filter (gone_by id) xs ≡ [] → without_key key xs id ≡ xs
  keeps_all id [] none = refl
  keeps_all id (x ∷ xs) none = go (int_eq (key x) id) none (keeps_all id xs)
    where
      go : (b : Bool) → cond b (x ∷ filter (gone_by id) xs) (filter (gone_by id) xs) ≡ [] → (filter (gone_by id) xs ≡ [] → without_key key xs id ≡ xs)
          → cond (not b) (x ∷ without_key key xs id) (without_key key xs id) ≡ x ∷ xs
      go true h more = absurd cc
      go false h more = ap (λ l. x ∷ l) (more h)

  twice : (id : ℤ) (xs : List X) → without_key key (without_key key xs id) id ≡ without_key key xs id
  twice id xs = filter-filter (λ (x : X). not (gone_by id x)) (λ (x : X). not (gone_by id x)) (λ x h. h) xs

  again : (id : ℤ) (ids : List ℤ) (xs : List X) → AllByRecursion (λ n. n ≡ id) ids → fold (without_key key) (without_key key xs id) ids ≡ without_key key xs id
  again id [] xs all = refl
  again id (n ∷ ids) xs all = ap (λ l. fold (without_key key) l ids) (rw all.0 (twice id xs)) ∙ again id ids xs all.1

  once : (id : ℤ) (ids : List ℤ) (xs : List X) → AllByRecursion (λ n. n ≡ id) ids → (ids ≡ [] → without_key key xs id ≡ xs) → fold (without_key key) xs ids ≡ without_key key xs id
  once id [] xs all none = sym (none refl)
  once id (n ∷ ids) xs all none = ap (λ m. fold (without_key key) (without_key key xs m) ids) all.0 ∙ again id ids xs all.1

  abbrev shows : ℤ → Output → Type 0
  shows id o = o.1 ≡ Int id ∷ []

  abbrev shown_row : X → Output
  shown_row x = ([], Int (key x) ∷ [])

  all_shown : (id : ℤ) (xs : List X) → AllByRecursion (shows id) (map shown_row (filter (gone_by id) xs))
  all_shown id [] = tt
  all_shown id (x ∷ xs) = go (gone_by id x) refl (all_shown id xs)
    where
      go : (b : Bool) → int_eq (key x) id ≡ b → AllByRecursion (shows id) (map shown_row (filter (gone_by id) xs)) → AllByRecursion (shows id) (map shown_row (cond b (x ∷ filter (gone_by id) xs) (filter (gone_by id) xs)))
      go true h more = (ap (λ n. Int n ∷ []) (same_int _ _ h), more)
      go false h more = more

  ids_are : (id : ℤ) (outs : List Output) → AllByRecursion (shows id) outs → AllByRecursion (λ n. n ≡ id) (ids_of (map (λ (o : Output). o.1) outs))
  ids_are id [] all = tt
  ids_are id (o ∷ outs) all = (ap (λ (r : Row). id_in (rowid r)) all.0, ids_are id outs all.1)

no_length : {X : Type 0} (xs : List X) → length xs ≡ 0 → xs ≡ []
no_length [] h = refl
no_length (x ∷ xs) h = absurd (omega arith)

-- a tree that no `WITH` of a query stands over
abbrev pub IsBare : ℕ → Type 0
IsBare tree = (db : Trees) → overlay db [] tree ≡ db tree

module _ {X : Type 0} (row : X → ℤ) (cells : X → Row) (tree : ℕ) (bare : IsBare tree) where
  -- the rowids that the query of DELETE finds
  found_ids : (db : Trees) (xs : List X) (holds : HoldsRows row cells (db tree) xs) (id : ℤ) (rows : List Row) → IsAnswer (row_query tree) (overlay db []) (Int id ∷ []) rows
      → fold (without_key row) xs (ids_of rows) ≡ without_key row xs id
  found_ids db xs holds id rows a =
      let params : Row = Int id ∷ [] in
      let seen = overlay db [] in
      let source : Source seen (inner tree end) X = last_table seen tree (stored row cells) row xs (bare db ∙ holds.rows) holds.keyed (at_end seen) in
      let gone = filter (gone_by row id) xs in
      let outs : List Output = map (shown_row row) gone in
      let tests = λ (x : X). last_term (at_ints false Eq (row x) id) in
      let staged : a.staged ≡ map (λ (x : X). params ∷ stored row cells x ∷ []) gone = a.grouped ∙ matches_are (row_query tree) seen params source (gone_by row id) tests in
      let kept : a.kept ≡ outs = a.distinct ∙ ap (map (output (row_query tree))) staged ∙ map-map (output (row_query tree)) _ gone in
      let same : IsPermutation outs a.ordered = subst (λ l. IsPermutation l a.ordered) kept a.same in
      let all = recursion_from_All (shows row id) a.ordered (All-permutation (shows row id) outs a.ordered same (All-from_recursion (shows row id) outs (all_shown row id xs))) in
      let shown : rows ≡ map (λ (o : Output). o.1) a.ordered = a.shown in
      let size : length a.ordered ≡ length gone = length_permutation outs a.ordered same ∙ length-map gone _ in
      rw shown (once row id _ xs (ids_are row id a.ordered all) (λ none. keeps_all row id xs (no_length gone (sym size ∙ sym (length-map a.ordered _) ∙ sym (length-map (map (λ (o : Output). o.1) a.ordered) _) ∙ ap length none))))

  module _ (name : List ℕ) (columns : List Column) (uniques : List (List ℕ)) (orders : List Order) (at : ℕ) (placed : slice_get schema.tables at ≡ Some (record (table_of name columns uniques orders) { tree = tree })) where
    abbrev table : Table
    table = record (table_of name columns uniques orders) { tree = tree }

    abbrev task_of : State → Row → Table → Task
    task_of s params t = record { limit = s.step_limit; keys = (mode_of s).keys; schema = schema; table = t; params = params }

    -- INSERT puts the row in its place
    pub inserts : (s : State) (x : X) (xs : List X) (terms : List Term) (width : ℕ) (params : Row) (text : List ℕ) (tally : Tally) (after : Database)
        → value_rows (params ++ []) width (length terms / width) terms ≡ stored row cells x ∷ [] → cast_all columns (cells x) ≡ cells x
        → s.now.schema ≡ schema → HoldsRows row cells (s.now.trees tree) xs
        → Does s.step_limit (mode_of s) params s.now text None (Insert at (Values terms width)) (Ok (tally, after)) → IsDatabase after
        → Edits tree (map (stored row cells) (insert_by row xs x)) s.now.trees after
    inserts s x xs terms width params text tally after given_as fits has holds does sound =
        let db = s.now.trees in
        let done = went (subst (λ o. AtPlace (λ t. OnRows (task_of s params t) (mode_of s) None (Insert at (Values terms width)) db) o (Ok (tally, after))) placed
        (subst (λ k. Does s.step_limit (mode_of s) params (record s.now { schema = k }) text None (Insert at (Values terms width)) (Ok (tally, after))) has does)) in
        let now = ap (λ (p : Tally × Database). p.1) (same_value (went (went done.2).2).2) in
        let given = went done.1 in
        let written = went (went given.2).2 in
        let counted = went written.2 in
        let trees : done.0.trees ≡ written.0 = ap (λ (it : Written). it.trees) (same_value counted.2) ∙ same_value counted.1 in
        let applied = one_step schema _ db written.0 (edit_of db table [] Chosen 0 given.0) refl written.1 in
        let edit : edited db (edit_of db table [] Chosen 0 given.0) ≡ map (stored row cells) (insert_by row xs x) =
        ap (λ all. edited db (edit_of db table [] Chosen 0 all)) (given.1.1 ∙ given_as) ∙ rw (number_kept, null_kept, fits, holds.rows) (puts-map row (stored row cells) (λ _. refl) (x ∷ []) xs) in
        let is = ap (λ (d : Database). d.schema) now in
        let trees_are : after.trees ≡ written.0 = ap (λ (d : Database). d.trees) now ∙ trees in
        record {
          schema_is = is;
          sound = subst (λ k. IsDatabase (record after { schema = k })) is sound;
          rows_are = ap (λ (t : Trees). t tree) trees_are ∙ applied.rows ∙ edit;
          others = subst (λ (d : Trees). AllByRecursion (λ (t : Table). t.tree ≢ tree → d t.tree ≡ db t.tree) schema.tables) (sym trees_are) applied.tables;
        }

    -- DELETE takes the row of the rowid away, if there is one
    pub drops : (s : State) (id : ℤ) (xs : List X) (text : List ℕ) (tally : Tally) (after : Database)
        → s.now.schema ≡ schema → HoldsRows row cells (s.now.trees tree) xs
        → Does s.step_limit (mode_of s) (Int id ∷ []) s.now text None (drop_command at tree) (Ok (tally, after)) → IsDatabase after
        → Edits tree (map (stored row cells) (without_key row xs id)) s.now.trees after
    drops s id xs text tally after has holds does sound =
        let db = s.now.trees in
        let params : Row = Int id ∷ [] in
        let done = went (subst (λ o. AtPlace (λ t. OnRows (task_of s params t) (mode_of s) None (drop_command at tree) db) o (Ok (tally, after))) placed
        (subst (λ k. Does s.step_limit (mode_of s) params (record s.now { schema = k }) text None (drop_command at tree) (Ok (tally, after))) has does)) in
        let now = ap (λ (p : Tally × Database). p.1) (same_value (went (went done.2).2).2) in
        let found = went done.1 in
        let written = went found.2 in
        let trees : done.0.trees ≡ written.0 = ap (λ (it : Written). it.trees) (same_value written.2) in
        let edit = edit_of db table (ids_of found.0) Given 0 [] in
        let applied = one_step schema _ db written.0 edit refl written.1 in
        let left : edited db edit ≡ map (stored row cells) (without_key row xs id) =
        ap (λ l. fold (λ rows n. without_rowid n rows) l (ids_of found.0)) holds.rows ∙ deletes-map row (stored row cells) (λ _. refl) (ids_of found.0) xs
        ∙ ap (map (stored row cells)) (found_ids db xs holds id found.0 (found.1.answer Null)) in
        let is = ap (λ (d : Database). d.schema) now in
        let trees_are : after.trees ≡ written.0 = ap (λ (d : Database). d.trees) now ∙ trees in
        record {
          schema_is = is;
          sound = subst (λ k. IsDatabase (record after { schema = k })) is sound;
          rows_are = ap (λ (t : Trees). t tree) trees_are ∙ applied.rows ∙ left;
          others = subst (λ (d : Trees). AllByRecursion (λ (t : Table). t.tree ≢ tree → d t.tree ≡ db t.tree) schema.tables) (sym trees_are) applied.tables;
        }
