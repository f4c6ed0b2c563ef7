use Rattle.s3_payloads.proofs.FinalLemmas.{accepted_whole, whole_payload}
use Rattle.s3_payloads.proofs.laws.accepted_bodies_are_whole.Goals as goal

pub returns : goal.returns
returns c = record {
  whole = accepted_whole c.verdicts_are_final.ensures.stay c.verdicts_are_final.ensures.one c.verdicts_are_final.ensures.exist c.trailed_bodies_are_judged.ensures.stay c.trailed_bodies_are_judged.ensures.short c.trailed_bodies_are_judged.ensures.whole;
  payload = λ announced. whole_payload announced.form announced;
}
