use Rattle.s3_events.proofs.PrintingLemmas.{one_line_more}
use Rattle.s3_events.proofs.printing.print_output.Goals as goal

pub returns-clause-text : goal.returns-clause-text
returns-clause-text c before all is =
    one_line_more _ _ before _ _ _ c.args.output.now _ c.add_line-added.ensures.line c.whole_line.ensures.whole c.whole_line.ensures.same all is
