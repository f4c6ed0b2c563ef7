use Rattle.s3_requests.proofs.KeptSumLemmas.{sums_unbroken}
use Rattle.s3_requests.proofs.UnbrokenLemmas.{plans_are_unbroken}
use Rattle.s3_requests.proofs.laws.plans_are_unbroken.Goals as goal

pub returns : goal.returns
returns c = record {
  plans = plans_are_unbroken c.lines_are_whole.ensures;
  sums = sums_unbroken;
}
