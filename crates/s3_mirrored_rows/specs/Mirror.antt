-- Rows in memory, and the file that gets the same.
use Rattle.std.specs.Prelude.{◌≡◌, ◌⊎◌, IsTrue, List, Result, OnOk, refl}
use Rattle.std.specs.Coded.{Coded, code_by, coded×}
use Rattle.sqlite_trees.specs.Tree.{Trees}
use Rattle.sqlite.specs.State.{State, HasCleanDisk}
use Rattle.s3_rows.specs.Columns.{Tables}
use Rattle.s3_stored_rows.specs.declared.change.Change.{Change}
use Rattle.s3_stored_rows.specs.Changes.{after_all}
use Rattle.s3_tables.specs.Keeping.{tables}
use Rattle.s3_tables.specs.Stored.{tables_in}

-- the two
pub record Mirror (F : Type 0) : Type 0 where
  pub memory : Tables
  pub file : F

-- how std numbers them
abbrev pub mirror_code : {F : Type 0} → Coded Tables → Coded F → Coded (Mirror F)
mirror_code {F} memory file = code_by (Tables × F) (coded× memory file) (λ m. (m.memory, m.file)) (λ p. record { memory = p.0; file = p.1 }) (λ _. refl)

-- as long as the file answers, over a clean disk, the changes that wait make these tables of its own
abbrev pub Awaits : State → List Change → Tables → Type 0
Awaits s waiting t = HasCleanDisk s → IsTrue s.is_open → after_all waiting (tables s) ≡ t

-- what an open after a crash finds, over a clean disk, may be these tables
abbrev pub MayLeave : State → Tables → Type 0
MayLeave s t = HasCleanDisk s × (db : Trees) × s.may_leave db × (tables_in db ≡ t)

-- What a commit of these tables promises, after which these changes wait: where it answers Ok a crash leaves the tables and nothing else;
-- and what it leaves at any time is what it could leave before, or the tables.
pub record Commits {X E : Type 0} (t : Tables) (old new : State) (waiting : List Change) (result : Result X E) : Type 0 where
  pub awaits : Awaits new waiting t
  pub settled : OnOk result ((u : Tables) → MayLeave new u → u ≡ t)
  pub survives : (u : Tables) → MayLeave new u → MayLeave old u ⊎ (u ≡ t)
