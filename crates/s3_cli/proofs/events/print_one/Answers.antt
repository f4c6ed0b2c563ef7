use Rattle.std.proofs.Common.{◌∙◌, take}
use Rattle.s3_simulation.specs.Shown.{written_by_all}
use Rattle.s3_cli.proofs.EventsLemmas.{count_taken, printed_one}
use Rattle.s3_cli.proofs.events.print_one.Goals as goal

pub returns : goal.returns
returns g c same =
    let connections = c.args.world.now.connections in
    printed_one c.print_output.result connections c.args.connection c.as_slice.result.now _ c.requires
    (c.as_slice.ensures.value ∙ c.in_ok-output.ensures.all)
    (c.print_output.ensures.text (take c.args.connection (written_by_all connections)) same (count_taken connections c.args.connection c.requires))
