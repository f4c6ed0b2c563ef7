use Rattle.s3_payloads.proofs.OpenLemmas.{behind_form, stand_form, stop_mode}
use Rattle.s3_payloads.proofs.laws.refusals_stand.Goals as goal

pub returns : goal.returns
returns c =
    let stand = c.refusals_stand.ensures in
    let stay = c.verdicts_are_final.ensures.stay in
    let one = c.verdicts_are_final.ensures.one in
    let trails = c.trailed_bodies_are_judged.ensures in
    record {
      place = λ announced. stand_form stand trails.stand announced.form announced;
      behind = λ announced. behind_form stand stay one trails.stand trails.stay announced.form announced;
      taken = λ reader. stop_mode c.readers_judge.ensures.verdict stand stay one trails.judge trails.stand trails.stay reader.mode;
    }
