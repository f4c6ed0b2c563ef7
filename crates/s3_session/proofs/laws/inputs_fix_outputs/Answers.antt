use Rattle.s3_session.proofs.OutputLemmas.{one_writing}
use Rattle.s3_session.proofs.laws.inputs_fix_outputs.Goals as goal

pub returns : goal.returns
returns c =
    one_writing c.verdicts_are_one.ensures c.invitations_are_final.ensures.one c.replies_are_unique.ensures c.refusals_are_unique.ensures
