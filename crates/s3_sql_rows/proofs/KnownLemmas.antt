-- What is known of the tables behind a connection, which may be shut.
use Rattle.std.proofs.Common.{◌≡◌, Ok, Err, Result, subst, sym, ap, ◌∙◌}
use Rattle.std.specs.Prelude.{IsTrue, IfOk, OnOk}
use Rattle.std.specs.Result.{result_ok}
use Rattle.sqlite.specs.State.{State, HasCleanDisk}
use Rattle.s3_rows.specs.Columns.{Tables}
use Rattle.sqlite.specs.declared.error.Error.{Error}
use Rattle.sqlite_trees.specs.Tree.{Trees}
use Rattle.s3_stored_rows.specs.Unique.{AreUnique}
use Rattle.s3_tables.specs.Stored.{Stores}
use Rattle.s3_tables.specs.Keeping.{tables, Keeps, Reads, Steps}
use Rattle.s3_sql_rows.specs.Known.{IsKnown}

module _ (old new : State) (known : Tables) (clean : HasCleanDisk new) (reads : Reads old new) (is : IsTrue old.is_open → tables old ≡ known) where
  -- a call that reads leaves it
  pub still_known : IsTrue new.is_open → tables new ≡ known
  still_known up = reads.kept clean up ∙ is (reads.was_open clean up)

  -- what is answered is so of what is known, since an open connection answered it
  pub known_found : {R D E X : Type 0} (f : R → X) (q : Tables → X) (answer : Result R D) (result : Result R E) → result_ok result ≡ result_ok answer → IfOk answer (λ found. f found ≡ q (tables old)) → OnOk answer (IsTrue new.is_open)
      → IfOk result (λ found. f found ≡ q known)
  known_found f q (Ok x) (Ok y) same value stays = let is_found : x ≡ y = cc in subst (λ found. f found ≡ q known) is_found (value ∙ ap q (is (reads.was_open clean stays)))
  known_found f q (Ok x) (Err e) same value stays = tt
  known_found f q (Err d) (Ok y) same value stays = absurd cc
  known_found f q (Err d) (Err e) same value stays = tt

module _ {X : Type 0} (change : Tables → Tables) (old new : State) (known : Tables) (clean : HasCleanDisk new) (is : IsTrue old.is_open → tables old ≡ known) where
  -- a change that is made is made of it
  pub known_made : (x : X) → Steps change old new (Ok x) → tables new ≡ change known
  known_made x steps = let made = steps.made clean in made.made ∙ ap change (is (steps.was_open clean made.is_open))

  -- one that isn't leaves it
  pub known_unmade : (e : Error) → Steps {X = X} change old new (Err e) → IsTrue new.is_open → tables new ≡ known
  known_unmade e steps up = steps.kept clean up ∙ is (steps.was_open clean up)

-- ---- what the rows are seen as

module _ (now known : State) (view : Tables) (is : IsKnown now known) (shown : tables known ≡ view) where
  -- an open connection has the tables that are seen
  pub seen : IsTrue now.is_open → tables now ≡ view
  seen up = is.shown up ∙ shown

  -- and what is unique there is so in those
  pub seen_unique : AreUnique view
  seen_unique = subst AreUnique shown is.unique

-- a call that reads leaves what is known
pub known_still : (old new known : State) → HasCleanDisk new → Reads old new → IsKnown old known → IsKnown new known
known_still old new known clean reads is = record { unique = is.unique; shown = still_known old new (tables known) clean reads is.shown }

-- and so does a change that isn't made
pub known_after : {X : Type 0} (change : Tables → Tables) (old new known : State) → HasCleanDisk new → (e : Error) → Steps {X = X} change old new (Err e) → IsKnown old known → IsKnown new known
known_after change old new known clean e steps is = record { unique = is.unique; shown = known_unmade change old new (tables known) clean is.shown e steps }

-- what trees store is unique
abbrev pub UniqueLaw : Type 0
UniqueLaw = (db : Trees) (t : Tables) → Stores db t → AreUnique t

-- where the last change was just made, or the tables were, that is known
pub unique_now : UniqueLaw → (s : State) → Keeps s → IsTrue s.is_open → AreUnique (tables s)
unique_now law s keeps up = law s.now.trees (tables s) (keeps.serves up).stores

pub known_anew : UniqueLaw → (s known : State) → tables known ≡ tables s → Keeps s → IsTrue s.is_open → IsKnown s known
known_anew law s known same keeps up = record { unique = subst AreUnique (sym same) (unique_now law s keeps up); shown = λ _. sym same }

pub seen_made : {X : Type 0} (change : Tables → Tables) (old new : State) (before view : Tables) → HasCleanDisk new → (IsTrue old.is_open → tables old ≡ before) → (x : X) → Steps change old new (Ok x) → view ≡ tables new → view ≡ change before
seen_made change old new before view clean is x steps same =
    same ∙ known_made change old new before clean is x steps
