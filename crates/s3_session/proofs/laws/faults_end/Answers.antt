use Rattle.s3_session.proofs.FaultEndLemmas.{faults_end, refused_is_nothing}
use Rattle.s3_session.proofs.laws.faults_end.Goals as goal

pub returns : goal.returns
returns c =
    let one = c.verdicts_are_one.ensures in
    let stay = c.verdicts_stay.ensures in
    let invited = c.invitations_are_final.ensures in
    record { end = faults_end one stay invited.stay invited.one; alone = refused_is_nothing one stay invited.stay invited.one }
