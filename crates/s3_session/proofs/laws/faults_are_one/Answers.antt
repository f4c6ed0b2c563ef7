use Rattle.s3_session.proofs.FaultLemmas.{faults_stay, one_fault}
use Rattle.s3_session.proofs.laws.faults_are_one.Goals as goal

pub returns : goal.returns
returns c = record {
  one = one_fault c.verdicts_are_one.ensures;
  stay = faults_stay c.verdicts_stay.ensures c.invitations_are_final.ensures.stay;
}
