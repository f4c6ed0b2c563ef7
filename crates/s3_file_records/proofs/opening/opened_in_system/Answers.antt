use Rattle.std.proofs.Common.{◌≡◌, sym, subst}
use Rattle.std.specs.Prelude.{IsTrue}
use Rattle.sqlite.specs.State.{HasCleanDisk}
use Rattle.sqlite.specs.Files.{file_state}
use Rattle.s3_tables.specs.Keeping.{tables as file_tables}
use Rattle.s3_file_records.proofs.opening.opened_in_system.Goals as goal

-- the tables are those that were read
pub over_file-requires-clause-same : goal.over_file-requires-clause-same
over_file-requires-clause-same c =
    subst (λ file. HasCleanDisk (file_state file.tables) → IsTrue (file_state file.tables).is_open → file_tables (file_state file.tables) ≡ c.in_ok-file.memory) (sym c.of.ensures) c.in_ok-file.ensures.same
