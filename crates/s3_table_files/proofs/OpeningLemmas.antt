-- From what files held to the tables that are found.
use Rattle.std.proofs.Common.{◌≡◌, inl, inr, List, [], ◌∷◌, Ok, Err, Result, filter, subst, ap, ◌∙◌, arith}
use Rattle.std.specs.Prelude.{◌≤◌, IfOk}
use Rattle.std.specs.List.{AllZip}
use Rattle.sqlite_wal.specs.Recovery.{Image}
use Rattle.sqlite_trees.specs.Tree.{Trees}
use Rattle.sqlite_trees.specs.View.{doubt}
use Rattle.sqlite_trees.specs.Objects.{catalog_tree}
use Rattle.sqlite_catalog.specs.Listing.{IsSound, IsTableRow, is_table_row}
use Rattle.sqlite_trees.specs.declared.store.Store.{Ghosts}
use Rattle.sqlite.specs.Effect.{Database}
use Rattle.sqlite.specs.Held.{Held, state}
use Rattle.sqlite.specs.State.{State, HasCleanDisk, Opens, IsLive}
use Rattle.sqlite.specs.Start.{FindsIn}
use Rattle.sqlite.specs.Files.{HoldsDatabase}
use Rattle.s3_rows.specs.Columns.{Tables}
use Rattle.s3_tables.specs.Schema.{no_schema, schema}
use Rattle.s3_tables.specs.Stored.{Stores, tables_in}
use Rattle.s3_tables.specs.Keeping.{tables}
use Rattle.s3_table_files.specs.Opening.{TakesOver, TakesFrom}

-- a list that goes with an empty one goes with no other
lists_apart : {A B : Type 0} (P : A → B → Type 0) (xs : List A) (y : B) (ys : List B) → AllZip P xs [] → AllZip P xs (y ∷ ys) → ⊥
lists_apart P [] y ys none some = some
lists_apart P (x ∷ xs) y ys none some = none

-- a database that lists no table doesn't list ours
never_both : (db : Trees) → IsSound no_schema db → IsSound schema db → ⊥
never_both db none some = lists_apart IsTableRow (filter is_table_row (db catalog_tree)) _ _ none.lists.listed.tables some.lists.listed.tables

module _ (image : Image) (old new : State) (falls : doubt old.is_clean ≤ doubt new.is_clean) (found : HasCleanDisk old → FindsIn image old) (opened : HasCleanDisk old → Opens old × IsLive old)
    (takes : HasCleanDisk new → TakesOver old new) where
  -- no table is taken from files that held one
  nothing_held : HasCleanDisk old → old.now.schema ≡ no_schema → IsSound no_schema old.committed.trees
  nothing_held early none =
      let opens = (opened early).0 in
      let seen : old.now.trees ≡ old.committed.trees = ap (λ (d : Database). d.trees) opens.clean in
      subst (IsSound no_schema) seen (subst (λ k. IsSound k old.now.trees) none ((opened early).1 opens.is_open).0)

  -- the tables are those that the files held
  pub tables_taken : HasCleanDisk new → TakesFrom image new
  tables_taken clean =
      let early : HasCleanDisk old = omega (arith, falls, clean) in
      (old.committed.trees, (found early).reads, elim (takes clean) [ inl made ↦ inl (nothing_held early made.0, made.1) | inr same ↦ inr same ])

  -- and all of them
  pub tables_found : ((db : Trees) (t : Tables) → Stores db t → tables_in db ≡ t) → HasCleanDisk new → (db : Trees) (there : Tables) → HoldsDatabase image db → Stores db there → tables new ≡ there
  tables_found shown clean db there holds stores =
      let early : HasCleanDisk old = omega (arith, falls, clean) in
      let is_db : old.committed.trees ≡ db = (found early).holds db holds in
      elim (takes clean) [
        | inl made ↦ absurd (never_both db (subst (IsSound no_schema) is_db (nothing_held early made.0)) stores.sound)
        | inr same ↦ same ∙ ap tables_in is_db ∙ shown db there stores
      ]

-- the same of what a call answers
module _ {S : Type 0} (g : Ghosts S) (image : Image) (old : State) (found : HasCleanDisk old → FindsIn image old) (opened : HasCleanDisk old → Opens old × IsLive old) where
  pub all_taken : {E : Type 0} (r : Result (Held S) E) → IfOk r (λ t. doubt old.is_clean ≤ doubt (state g t).is_clean) → IfOk r (λ t. HasCleanDisk (state g t) → TakesOver old (state g t))
      → IfOk r (λ t. HasCleanDisk (state g t) → TakesFrom image (state g t))
  all_taken (Ok t) falls takes = tables_taken image old (state g t) falls found opened takes
  all_taken (Err e) falls takes = tt

  pub all_found : ((db : Trees) (t : Tables) → Stores db t → tables_in db ≡ t)
      → {E : Type 0} (r : Result (Held S) E) → IfOk r (λ t. doubt old.is_clean ≤ doubt (state g t).is_clean) → IfOk r (λ t. HasCleanDisk (state g t) → TakesOver old (state g t))
      → IfOk r (λ t. HasCleanDisk (state g t) → (db : Trees) (there : Tables) → HoldsDatabase image db → Stores db there → tables (state g t) ≡ there)
  all_found shown (Ok t) falls takes = tables_found image old (state g t) falls found opened takes shown
  all_found shown (Err e) falls takes = tt
