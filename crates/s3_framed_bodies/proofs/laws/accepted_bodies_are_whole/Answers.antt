use Rattle.s3_framed_bodies.proofs.LawLemmas.{accepted_are_whole, ends_are_sizes, whole_payloads}
use Rattle.s3_framed_bodies.proofs.laws.accepted_bodies_are_whole.Goals as goal

pub returns : goal.returns
returns c =
    let law = c.accepted_bodies_are_whole.ensures in
    let bodies = c.bodies_are_accepted.ensures in
    record {
      whole = accepted_are_whole law.whole bodies.accepted bodies.bodies c.refusals_stand.ensures.stand c.verdicts_are_final.ensures.taken;
      size = ends_are_sizes bodies.bodies;
      payload = whole_payloads law.payload bodies.bodies;
    }
