use Rattle.s3_payloads.proofs.OpenLemmas.{incomplete_form, short_form}
use Rattle.s3_payloads.proofs.laws.open_bodies_are_short.Goals as goal

pub returns : goal.returns
returns c = record {
  short = λ announced. short_form c.open_bodies_are_short.ensures.short c.trailed_bodies_are_judged.ensures.short announced.form announced;
  incomplete = λ announced. incomplete_form c.open_bodies_are_short.ensures.incomplete c.trailed_bodies_are_judged.ensures.incomplete announced.form announced;
}
