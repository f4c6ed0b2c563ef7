use Rattle.s3_payloads.proofs.FinalLemmas.{end_form, exist_form, one_form, stay_form}
use Rattle.s3_payloads.proofs.laws.verdicts_are_final.Goals as goal

pub returns : goal.returns
returns c = record {
  stay = λ announced. stay_form c.verdicts_are_final.ensures.stay c.trailed_bodies_are_judged.ensures.stay announced.form announced;
  one = λ announced. one_form c.verdicts_are_final.ensures.one announced.form announced;
  exist = λ announced. exist_form c.verdicts_are_final.ensures.exist announced.form announced;
  end = λ announced. end_form c.verdicts_are_final.ensures.end c.trailed_bodies_are_judged.ensures.end announced.form announced;
}
