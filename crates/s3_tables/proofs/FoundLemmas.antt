-- A database of the schema stores tables, since each of its rows has the cells of one.
use Rattle.std.proofs.Common.{◌≡◌, inl, inr, ℕ, suc, ◌+◌, ℤ, List, [], ◌∷◌, map, drop, Bool, true, false, cond, Some, not, ◌||◌, Ok, Err, Result, refl, sym, ap, ap₂, subst, ◌∙◌, arith, IsTrue, codes}
use Rattle.std.specs.Prelude.{IfOk, ◌≤◌, ◌==◌, if◌then◌else◌}
use Rattle.std.specs.Fmt.{digits}
use Rattle.std.specs.List.{AllByRecursion}
use Rattle.std.proofs.lemmas.Bool.{and_parts, true_from_ne_false, both_ways, ne_eqb}
use Rattle.sqlite_value.specs.declared.value.Value.{Value}
use Rattle.sqlite_value.specs.declared.value.Value.TheVariants.{Null, Int, Real, Text, Blob}
use Rattle.sqlite_value.specs.declared.keys.Collation.TheVariants.{Binary}
use Rattle.sqlite_value.specs.Order.{Row, column, bytes}
use Rattle.sqlite_value.proofs.OrderLemmas.{value_cmp-Int}
use Rattle.sqlite_sql.specs.Ops.{is_null}
use Rattle.sqlite_trees.specs.declared.store.Store.{Ghosts}
use Rattle.sqlite_trees.specs.declared.store.Shape.TheVariants as shape
use Rattle.sqlite_trees.specs.Tree.{Trees, rowid, IsTable}
use Rattle.sqlite_trees.specs.View.{View, doubt, IsClean, IsRolledBack, is_int, IsShaped, IsOrdered}
use Rattle.sqlite_trees.specs.Objects.{catalog_tree, IsListed}
use Rattle.sqlite_rules.specs.Edit.{id_in}
use Rattle.sqlite_schema.specs.Rules.{is_of, are_typed, are_present}
use Rattle.sqlite_schema.specs.declared.schema.Column.{Column}
use Rattle.sqlite_schema.specs.declared.schema.Kind.TheVariants as kind
use Rattle.sqlite_schema.specs.declared.schema.Constraint.TheVariants.{Datatype, NotNull}
use Rattle.sqlite_catalog.specs.Listing.{IsSound}
use Rattle.sqlite_catalog.proofs.LayoutLemmas.{table_shape, objects_rise}
use Rattle.sqlite.specs.Schema.{Schema}
use Rattle.sqlite.specs.Steps.{IsFresh}
use Rattle.sqlite.specs.Effect.{Database}
use Rattle.sqlite.specs.Held.{Held, state}
use Rattle.sqlite.specs.State.{State, HasCleanDisk, Opens, IsLive}
use Rattle.sqlite.specs.declared.error.Error.{Error}
use Rattle.sqlite_keyed.proofs.KeyedLemmas.{lt_from_Less}
use Rattle.sqlite_keyed.proofs.ListLemmas.{all_weaker, ascending_from_map, ascending_weaker}
use Rattle.s3_rows.specs.Columns.{Tables}
use Rattle.s3_rows.specs.Soundness.{bucket_row, version_row, upload_row, part_row}
use Rattle.s3_stored_rows.specs.Changes.{store_row}
use Rattle.s3_tables.specs.Schema as spec
use Rattle.s3_tables.specs.Listed.{table_list, index_list}
use Rattle.s3_tables.specs.Schema.{schema, row_column, bucket_list, version_list, upload_list, part_list, store_list}
use Rattle.s3_tables.specs.Stored.{stored, HoldsRows, Stores, tables_in, bucket_cells, bucket_of, version_cells, version_of, upload_cells, upload_of, part_cells, part_of, store_cells, store_of}
use Rattle.s3_tables.specs.Keeping.{tables, Keeps, IsMade}
use Rattle.s3_tables.proofs.StoredLemmas.{tables_are}
use Rattle.s3_tables.proofs.StepLemmas.{IsSettled}

-- ---- one cell

-- a column of integers, where this is true, or of bytes
abbrev column_of : Bool × List ℕ → Column
column_of p = record { name = p.1; kind = cond p.0 kind.Integer kind.Blob; is_strict = true; not_null = true; default = Null; collation = Binary }

abbrev cell_of : Bool → Value → Value
cell_of numbers v = cond numbers (Int (id_in v)) (Blob (bytes v))

kept_cell : (numbers : Bool) (v : Value) → is_of (cond numbers kind.Integer kind.Blob) v ≡ true → not (is_null v) ≡ true → v ≡ cell_of numbers v
kept_cell true Null typed some = absurd cc
kept_cell true (Int n) typed some = refl
kept_cell true (Real x) typed some = absurd cc
kept_cell true (Text t) typed some = absurd cc
kept_cell true (Blob b) typed some = absurd cc
kept_cell false Null typed some = absurd cc
kept_cell false (Int n) typed some = absurd cc
kept_cell false (Real x) typed some = absurd cc
kept_cell false (Text t) typed some = absurd cc
kept_cell false (Blob b) typed some = refl

is_id : (v : Value) → is_int v ≡ true → v ≡ Int (id_in v)
is_id Null h = absurd cc
is_id (Int n) h = refl
is_id (Real x) h = absurd cc
is_id (Text t) h = absurd cc
is_id (Blob b) h = absurd cc

is_nothing : (v : Value) → is_null v ≡ true → v ≡ Null
is_nothing Null h = refl
is_nothing (Int n) h = absurd cc
is_nothing (Real x) h = absurd cc
is_nothing (Text t) h = absurd cc
is_nothing (Blob b) h = absurd cc

-- ---- the cells of a row from a column on

abbrev cells_at : List (Bool × List ℕ) → ℕ → Row → Row
cells_at [] at row = []
cells_at (p ∷ ps) at row = cell_of p.0 (column row (at + 1)) ∷ cells_at ps (at + 1) row

-- the rest of the row is what its columns are from there on
abbrev IsRest : Row → ℕ → Row → Type 0
IsRest row at rest = (n : ℕ) → column row (at + 1 + n) ≡ column rest n

first_of_rest : (row : Row) (at : ℕ) (rest : Row) → IsRest row at rest → column row (at + 1) ≡ column rest 0
first_of_rest row at rest is = let e : at + 1 ≡ at + 1 + 0 = omega arith in ap (column row) e ∙ is 0

rest_of_rest : (row : Row) (at : ℕ) (v : Value) (rest : Row) → IsRest row at (v ∷ rest) → IsRest row (at + 1) rest
rest_of_rest row at v rest is n = let e : at + 1 + 1 + n ≡ at + 1 + suc n = omega arith in ap (column row) e ∙ is (suc n)

later : (at : ℕ) → (0 == at + 1) ≡ false
later at = ne_eqb 0 (at + 1) (λ same. absurd (omega (arith, same)))

present_cell : (row : Row) (at : ℕ) → (0 == at) ≡ false → ((0 == at) || not true || not (is_null (column row (at + 1)))) ≡ true → not (is_null (column row (at + 1))) ≡ true
present_cell row at past h = subst (λ b. (b || not true || not (is_null (column row (at + 1)))) ≡ true) past h

typed_cell : (numbers : Bool) (at : ℕ) (v : Value) → (0 == at) ≡ false → (if 0 == at then is_null v else is_of (cond numbers kind.Integer kind.Blob) v) ≡ true → is_of (cond numbers kind.Integer kind.Blob) v ≡ true
typed_cell numbers at v past h = subst (λ b. (if b then is_null v else is_of (cond numbers kind.Integer kind.Blob) v) ≡ true) past h

cells_are : (ps : List (Bool × List ℕ)) (at : ℕ) (row rest : Row) → (0 == at) ≡ false → IsRest row at rest → are_typed (Some 0) at (map column_of ps) rest ≡ true → are_present (Some 0) at (map column_of ps) row ≡ true → rest ≡ cells_at ps at row
cells_are [] at row [] past is typed present = refl
cells_are [] at row (v ∷ rest) past is typed present = absurd cc
cells_are (p ∷ ps) at row [] past is typed present =
    let here = present_cell row at past (and_parts _ _ present).0 in
    let none : not (is_null (column row (at + 1))) ≡ false = ap (λ v. not (is_null v)) (first_of_rest row at [] is) in
    absurd (both_ways _ none here)
cells_are (p ∷ ps) at row (v ∷ rest) past is typed present =
    let t = and_parts _ _ typed in
    let q = and_parts _ _ present in
    let first : column row (at + 1) ≡ v = first_of_rest row at (v ∷ rest) is in
    let some : not (is_null v) ≡ true = subst (λ w. not (is_null w) ≡ true) first (present_cell row at past q.0) in
    let cell : v ≡ cell_of p.0 (column row (at + 1)) = kept_cell p.0 v (typed_cell p.0 at v past t.0) some ∙ ap (cell_of p.0) (sym first) in
    ap₂ ◌∷◌ cell (cells_are ps (at + 1) row rest (later at) (rest_of_rest row at v rest is) t.1 q.1)

-- ---- a row, and all rows of a table

row_is : (p : Bool × List ℕ) (ps : List (Bool × List ℕ)) (row : Row) → is_int (rowid row) ≡ true → are_typed (Some 0) 0 (row_column ∷ map column_of (p ∷ ps)) (drop 1 row) ≡ true
    → are_present (Some 0) 0 (row_column ∷ map column_of (p ∷ ps)) row ≡ true → row ≡ Int (id_in (rowid row)) ∷ Null ∷ cells_at (p ∷ ps) 1 row
row_is p ps [] id typed present = absurd cc
row_is p ps (i ∷ []) id typed present =
    let past : IsRest (i ∷ []) 1 [] = λ n. let e : 1 + 1 + n ≡ suc (suc n) = omega arith in ap (column (i ∷ [])) e in
    let none = cells_are (p ∷ ps) 1 (i ∷ []) [] refl past typed present in absurd cc
row_is p ps (i ∷ k ∷ rest) id typed present =
    let past : IsRest (i ∷ k ∷ rest) 1 rest = λ n. let e : 1 + 1 + n ≡ suc (suc n) = omega arith in ap (column (i ∷ k ∷ rest)) e in
    let t = and_parts _ _ typed in
    ap₂ ◌∷◌ (is_id i id) (ap₂ ◌∷◌ (is_nothing k t.0) (cells_are (p ∷ ps) 1 (i ∷ k ∷ rest) rest refl past t.1 present))

module _ {X : Type 0} (row : X → ℤ) (cells : X → Row) (back : Row → X) (p : Bool × List ℕ) (ps : List (Bool × List ℕ)) (row_back : (r : Row) → row (back r) ≡ id_in (rowid r)) (cells_back : (r : Row) → cells (back r) ≡ cells_at (p ∷ ps) 1 r) where
  abbrev is_typed : Row → Type 0
  is_typed r = are_typed (Some 0) 0 (row_column ∷ map column_of (p ∷ ps)) (drop 1 r) ≡ true

  abbrev is_present : Row → Type 0
  is_present r = are_present (Some 0) 0 (row_column ∷ map column_of (p ∷ ps)) r ≡ true

  one_row : (r : Row) → is_int (rowid r) ≡ true → is_typed r → is_present r → r ≡ stored row cells (back r)
  one_row r id typed present = row_is p ps r id typed present ∙ sym (ap₂ (λ n cs. Int n ∷ Null ∷ cs) (row_back r) (cells_back r))

  all_rows : (rows : List Row) → AllByRecursion (λ r. IsTrue (is_int (rowid r))) rows → AllByRecursion is_typed rows → AllByRecursion is_present rows → rows ≡ map (stored row cells) (map back rows)
  all_rows [] ids typed present = refl
  all_rows (r ∷ rows) ids typed present = ap₂ ◌∷◌ (one_row r ids.0 typed.0 present.0) (all_rows rows ids.1 typed.1 present.1)

  pub holds_found : (rows : List Row) → IsShaped shape.Table rows → AllByRecursion is_typed rows → AllByRecursion is_present rows → HoldsRows row cells rows (map back rows)
  holds_found rows shaped typed present =
      let is = all_rows rows shaped.1 typed present in
      record {
        keyed = ascending_weaker _ _ (λ (a b : X) h. lt_from_Less _ _ (sym (value_cmp-Int (row a) (row b)) ∙ h)) _ (ascending_from_map _ (stored row cells) _ (subst IsTable is shaped.0));
        rows = is;
      }

-- ---- the tables of the schema

abbrev numbers : List ℕ → Bool × List ℕ
numbers name = (true, name)

abbrev octets : List ℕ → Bool × List ℕ
octets name = (false, name)

module _ (db : Trees) (sound : IsSound schema db) where
  buckets_found : IsShaped shape.Table (db 0) → HoldsRows bucket_row bucket_cells (db 0) (map bucket_of (db 0))
  buckets_found shaped =
      holds_found bucket_row bucket_cells bucket_of (octets (codes "name")) (numbers (codes "made") ∷ numbers (codes "mode") ∷ []) (λ _. refl) (λ _. refl) (db 0) shaped
      (all_weaker _ (λ r. are_typed (Some 0) 0 (row_column ∷ bucket_list) (drop 1 r) ≡ true) (λ r ok. (and_parts _ _ ok).0) (db 0) (sound.obeys.rules Datatype).0) (sound.obeys.rules NotNull).0

  versions_found : IsShaped shape.Table (db 2) → HoldsRows version_row version_cells (db 2) (map version_of (db 2))
  versions_found shaped =
      holds_found version_row version_cells version_of (octets (codes "bucket"))
      (octets (codes "key") ∷ numbers (codes "number") ∷ numbers (codes "id") ∷ numbers (codes "moment") ∷ numbers (codes "marker") ∷ octets (codes "tag") ∷ octets (codes "kept") ∷ numbers (codes "size") ∷ octets (codes "bodies") ∷ [])
      (λ _. refl) (λ _. refl) (db 2) shaped
      (all_weaker _ (λ r. are_typed (Some 0) 0 (row_column ∷ version_list) (drop 1 r) ≡ true) (λ r ok. (and_parts _ _ ok).0) (db 2) (sound.obeys.rules Datatype).1.0) (sound.obeys.rules NotNull).1.0

  uploads_found : IsShaped shape.Table (db 5) → HoldsRows upload_row upload_cells (db 5) (map upload_of (db 5))
  uploads_found shaped =
      holds_found upload_row upload_cells upload_of (octets (codes "bucket")) (octets (codes "key") ∷ numbers (codes "id") ∷ numbers (codes "moment") ∷ octets (codes "kept") ∷ []) (λ _. refl) (λ _. refl) (db 5) shaped
      (all_weaker _ (λ r. are_typed (Some 0) 0 (row_column ∷ upload_list) (drop 1 r) ≡ true) (λ r ok. (and_parts _ _ ok).0) (db 5) (sound.obeys.rules Datatype).1.1.0) (sound.obeys.rules NotNull).1.1.0

  parts_found : IsShaped shape.Table (db 7) → HoldsRows part_row part_cells (db 7) (map part_of (db 7))
  parts_found shaped =
      holds_found part_row part_cells part_of (numbers (codes "upload")) (numbers (codes "part") ∷ octets (codes "digest") ∷ numbers (codes "moment") ∷ numbers (codes "size") ∷ octets (codes "bodies") ∷ []) (λ _. refl) (λ _. refl) (db 7) shaped
      (all_weaker _ (λ r. are_typed (Some 0) 0 (row_column ∷ part_list) (drop 1 r) ≡ true) (λ r ok. (and_parts _ _ ok).0) (db 7) (sound.obeys.rules Datatype).1.1.1.0) (sound.obeys.rules NotNull).1.1.1.0

  store_found : IsShaped shape.Table (db 9) → HoldsRows store_row store_cells (db 9) (map store_of (db 9))
  store_found shaped =
      holds_found store_row store_cells store_of (numbers (codes "form")) (numbers (codes "number") ∷ []) (λ _. refl) (λ _. refl) (db 9) shaped
      (all_weaker _ (λ r. are_typed (Some 0) 0 (row_column ∷ store_list) (drop 1 r) ≡ true) (λ r ok. (and_parts _ _ ok).0) (db 9) (sound.obeys.rules Datatype).1.1.1.1.0) (sound.obeys.rules NotNull).1.1.1.1.0

-- ---- a connection that was just opened

schema_listed : ◌≡◌ {A = Schema} (record { tables = table_list; indexes = index_list; views = [] }) schema
unfolding digits
schema_listed = refl

same_schema : {a b : Schema} → a.tables ≡ b.tables → a.indexes ≡ b.indexes → a.views ≡ b.views → a ≡ b
same_schema p q r = λ i. record { tables = p i; indexes = q i; views = r i }

pub schema_is_ours : (s : Schema) → s.tables ≡ table_list → s.indexes ≡ index_list → s.views ≡ [] → s ≡ schema
schema_is_ours s p q r = same_schema {b = record { tables = table_list; indexes = index_list; views = [] }} p q r ∙ schema_listed

module _ (v : View) (s : State) (listed : IsListed (v.trees catalog_tree) v.shape v.reals) (ordered : IsOrdered v.shape v.trees) (trees : s.now.trees ≡ v.trees) (opens : Opens s) (live : IsLive s) (law : IsSettled s) (has : s.now.schema ≡ schema) where
  sound : IsSound schema s.now.trees
  sound = subst (λ k. IsSound k s.now.trees) has (live opens.is_open).0

  is_shaped : (tree : ℕ) → v.shape tree ≡ shape.Table → IsShaped shape.Table (s.now.trees tree)
  is_shaped tree is = subst (λ t. IsShaped shape.Table (t tree)) (sym trees) (subst (λ k. IsShaped k (v.trees tree)) is (ordered tree))

  stores : Stores s.now.trees (tables s)
  stores =
      let there = subst (IsSound schema) trees sound in
      let shape_of = table_shape listed (objects_rise v listed ordered).0 there.lists.listed in
      record {
        sound = sound;
        buckets = buckets_found s.now.trees sound (is_shaped 0 (shape_of (record spec.bucket_table { tree = 0 }) (inl refl)).0);
        versions = versions_found s.now.trees sound (is_shaped 2 (shape_of (record spec.version_table { tree = 2 }) (inr (inl refl))).0);
        uploads = uploads_found s.now.trees sound (is_shaped 5 (shape_of (record spec.upload_table { tree = 5 }) (inr (inr (inl refl)))).0);
        parts = parts_found s.now.trees sound (is_shaped 7 (shape_of (record spec.part_table { tree = 7 }) (inr (inr (inr (inl refl))))).0);
        store = store_found s.now.trees sound (is_shaped 9 (shape_of (record spec.store_table { tree = 9 }) (inr (inr (inr (inr (inl refl)))))).0);
      }

  left_is : (db : Trees) → s.may_leave db → s.now.trees ≡ db
  left_is db left = ap (λ (d : Database). d.trees) opens.clean ∙ sym (law opens.is_open db left)

  pub reopened_keeps : Keeps s
  reopened_keeps = record {
    autocommit = opens.autocommit;
    serves = λ up. record { schema_is = has; stores = stores; committed = sym opens.clean; settled = λ db left. subst (λ t. Stores t (tables s)) (left_is db left) stores };
    found = λ db left. subst (λ t. Stores t (tables_in t)) (left_is db left) stores;
  }

-- ---- a connection's last commit

-- a store whose changes were undone is as one that was just opened, and has the last commit
pub fresh_if_undone : (old new : View) → IsRolledBack old new → (new.is_open ≡ false → IsTrue new.is_broken) → IsTrue new.is_numbered → new.is_broken ≡ false → IsClean new → IsFresh new × (new.trees ≡ old.committed)
fresh_if_undone old new undone law numbered unbroken clean =
    let up : IsTrue new.is_open = true_from_ne_false new.is_open (λ shut. both_ways new.is_broken unbroken (law shut)) in
    let kept = undone.kept clean in
    (record { sound = unbroken; numbered = numbered; clean = (undone.undone up).0 ∙ sym (kept.committed up); unmarked = kept.marks up }, (undone.undone up).0)

module _ {S : Type 0} (g : Ghosts S) (v : View) (base : Trees) (is : IsClean v → v.trees ≡ base) where
  abbrev Falls : Held S → Type 0
  Falls t = doubt v.is_clean ≤ doubt (state g t).is_clean

  abbrev HasTrees : Trees → Held S → Type 0
  HasTrees db t = HasCleanDisk (state g t) → (state g t).now.trees ≡ db

  pub found_trees : (r : Result (Held S) Error) → IfOk r Falls → IfOk r (HasTrees v.trees) → IfOk r (HasTrees base)
  found_trees (Ok t) falls trees = λ clean. trees clean ∙ is (omega (arith, falls, clean))
  found_trees (Err e) falls trees = tt

  pub found_made : (r : Result (Held S) Error) → IfOk r Falls → IfOk r (HasTrees v.trees) → IfOk r (λ t. HasCleanDisk (state g t) → Keeps (state g t)) → IfOk r (λ t. HasCleanDisk (state g t) → IsTrue (state g t).is_open)
      → IfOk r (λ t. HasCleanDisk (state g t) → IsMade (tables_in base) (state g t))
  found_made (Ok t) falls trees keeps up = λ clean. record { keeps = keeps clean; is_open = up clean; made = ap tables_in (trees clean ∙ is (omega (arith, falls, clean))) }
  found_made (Err e) falls trees keeps up = tt

  pub found_stored : (r : Result (Held S) Error) → IfOk r Falls → IfOk r (HasTrees v.trees) → IfOk r (λ t. HasCleanDisk (state g t) → (u : Tables) → Stores base u → tables (state g t) ≡ u)
  found_stored (Ok t) falls trees = λ clean u stored. ap tables_in (trees clean ∙ is (omega (arith, falls, clean))) ∙ tables_are base u stored
  found_stored (Err e) falls trees = tt
