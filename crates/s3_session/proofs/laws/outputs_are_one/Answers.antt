use Rattle.s3_session.proofs.OutputLemmas.{one_output}
use Rattle.s3_session.proofs.laws.outputs_are_one.Goals as goal

pub returns : goal.returns
returns c =
    one_output c.verdicts_are_one.ensures c.invitations_are_final.ensures.one c.replies_are_unique.ensures c.refusals_are_unique.ensures
