use Rattle.std.proofs.Common.{arith}
use Rattle.s3_log.proofs.LineLemmas.{without_brace}
use Rattle.s3_log.proofs.beginning.Beginning.new.Goals as goal

pub invariant_of-result : goal.invariant_of-result
invariant_of-result c =
    without_brace c.args.moment c.args.connection c.in_ok-text.text.items c.truncate.new.self.items c.saturating_sub.result c.in_ok-text.ensures
    (omega (arith, c.saturating_sub.ensures, c.len.ensures, c.in_ok-text.text.ok)) c.truncate.ensures.items
