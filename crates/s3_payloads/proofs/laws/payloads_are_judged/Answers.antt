use Rattle.s3_payloads.proofs.JudgeLemmas.{count_mode, fail_mode, judge_mode, pass_mode, within_mode}
use Rattle.s3_payloads.proofs.OpenLemmas.{open_stays}
use Rattle.s3_payloads.proofs.laws.payloads_are_judged.Goals as goal

pub returns : goal.returns
returns c = record {
  verdict = λ reader announced bytes ended stands. judge_mode c.readers_judge.ensures.verdict c.trailed_bodies_are_judged.ensures.judge reader.mode announced bytes ended stands;
  count = λ reader announced bytes ended stands never. count_mode c.readers_judge.ensures.count c.trailed_bodies_are_judged.ensures.count reader.mode announced bytes ended stands never;
  within = λ reader announced bytes ended stands. within_mode c.readers_judge.ensures.within c.trailed_bodies_are_judged.ensures.within reader.mode announced bytes ended stands;
  failed = λ reader announced bytes ended code stands is. fail_mode reader.mode announced bytes ended code stands is;
  passed = λ reader is. pass_mode reader.mode is;
  undecided = λ reader never is. open_stays reader.mode never is;
}
