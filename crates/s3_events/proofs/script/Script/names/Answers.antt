use Rattle.std.proofs.Common.{◌∙◌, ◌==◌, ap}
use Rattle.std.specs.List.{list_any}
use Rattle.s3_events.specs.Script.{connection_of_event}
use Rattle.s3_events.proofs.ScriptLemmas.{named_then, named_else}
use Rattle.s3_events.proofs.script.Script.names.Goals as goal

pub returns-then-has_moments : goal.returns-then-has_moments
returns-then-has_moments c size all has =
    named_then c.args.self.now size c.args.connection all _ has c.has_moments.ensures c.if-has_moments.true

pub returns-else-has_moments : goal.returns-else-has_moments
returns-else-has_moments c size all has =
    let happens = c.happens_to.ensures ∙ ap (list_any (λ event. connection_of_event event == c.args.connection)) c.as_slice.ensures.value in
    named_else c.args.self.now size c.args.connection all _ _ has c.has_moments.ensures c.if-has_moments.false happens
