use Rattle.std.proofs.Common.{ℕ, List}
use Rattle.s3_events.specs.declared.event.Event.{Event}
use Rattle.s3_simulation.specs.StandsAfter.{StandsAfter}
use Rattle.s3_cli.specs.Reading.{TellsFirst}
use Rattle.s3_cli.proofs.events.with_faults.Given as goal

abbrev pub invariant-loop-connection : goal.invariant-loop-connection
invariant-loop-connection g l =
    (moments : List (List ℕ)) (happened : List Event) → StandsAfter l.world moments happened
    → TellsFirst l.world moments happened l.connection l.fn.text.items l.text.items
