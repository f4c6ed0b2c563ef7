use Rattle.std.proofs.Common.{◌*◌}
use Rattle.s3_journal.specs.SharedStore.{seats_each}
use Rattle.s3_connection_tests.proofs.workers.seats.entries_of_new.Given as goal

abbrev pub ghosts-entries_left-J-Ground : goal.ghosts-entries_left-J-Ground
ghosts-entries_left-J-Ground g a = record { base = a.start.base }

abbrev pub ghosts-entries_left-J-Ledger : goal.ghosts-entries_left-J-Ledger
ghosts-entries_left-J-Ledger g a = record { name = a.start.name; parts = a.start.rosters * seats_each }
