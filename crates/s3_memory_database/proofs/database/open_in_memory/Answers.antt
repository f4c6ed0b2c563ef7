use Rattle.std.proofs.Common.{refl, ap, length}
use Rattle.sqlite.specs.State.{HasCleanDisk}
use Rattle.sqlite.specs.Files.{file_state}
use Rattle.sqlite_pool.specs.Pool.{state}
use Rattle.sqlite_trees.proofs.Doubt.{no_doubt}
use Rattle.s3_memory_database.proofs.EmptyLemmas.{found_nothing, shows_nothing}
use Rattle.s3_memory_database.proofs.database.open_in_memory.Goals as goal

pub returns-in-Ok-clause-clean : goal.returns-in-Ok-clause-clean
unfolding state
returns-in-Ok-clause-clean c = no_doubt _ refl

pub returns-in-Ok-clause-empty : goal.returns-in-Ok-clause-empty
unfolding state
returns-in-Ok-clause-empty c =
    let clean : HasCleanDisk (file_state c.in-Ok.database) = no_doubt _ refl in
    let opened = c.in-Ok.ensures.opened clean in
    let found = c.in-Ok.ensures.found clean in
    shows_nothing (file_state c.in-Ok.database) opened.0 opened.1 (found_nothing _ _ (ap length c.new-2.ensures.empty) found.reads)
