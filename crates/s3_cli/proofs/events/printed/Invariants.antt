use Rattle.std.proofs.Common.{◌≡◌, take}
use Rattle.s3_events.specs.Printing.{outputs_text}
use Rattle.s3_simulation.specs.Shown.{written_by_all}
use Rattle.s3_cli.proofs.events.printed.Given as goal

abbrev pub invariant-loop-connection : goal.invariant-loop-connection
invariant-loop-connection g l = l.text.items ≡ outputs_text (take l.connection (written_by_all l.world.connections))
