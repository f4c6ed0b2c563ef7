use Rattle.std.proofs.Common.{◌*◌}
use Rattle.s3_journal.specs.SharedStore.{seats_each}
use Rattle.s3_server.proofs.rounds.run_all.Given as goal

abbrev pub ghosts-run-J-Ground : goal.ghosts-run-J-Ground
ghosts-run-J-Ground g a = record { base = a.start.base }

abbrev pub ghosts-run-J-Ledger : goal.ghosts-run-J-Ledger
ghosts-run-J-Ledger g a = record { name = a.start.name; parts = a.start.rosters * seats_each }
