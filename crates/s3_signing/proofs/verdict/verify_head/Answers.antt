use Rattle.std.proofs.Common.{rules}
use Rattle.s3_signing.specs.Verdict.{head_verdict}
use Rattle.s3_signing.proofs.verdict.verify_head.Goals as goal

pub proved_with-requires-clause-kept : goal.proved_with-requires-clause-kept
unfolding head_verdict
proved_with-requires-clause-kept c = ∣ record {
  settings = c.args.config.now;
  head = c.args.head.now;
  moment = c.args.moment;
  limits = c.region.ensures.valid;
  within = c.in_ok-checked.ensures.within;
  verdict = search rules;
} ∣₁
