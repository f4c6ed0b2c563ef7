use Rattle.s3_framed_bodies.proofs.LawLemmas.{ends_decide, verdicts_are_one, verdicts_exist, verdicts_stay}
use Rattle.s3_framed_bodies.proofs.laws.verdicts_are_final.Goals as goal

pub returns : goal.returns
returns c =
    let law = c.verdicts_are_final.ensures in
    let coding = c.verdicts_are_final-2.ensures in
    record {
      stay = verdicts_stay law.stay coding.stay;
      one = verdicts_are_one law.one;
      exist = verdicts_exist law.exist;
      end = ends_decide law.end coding.end;
    }
