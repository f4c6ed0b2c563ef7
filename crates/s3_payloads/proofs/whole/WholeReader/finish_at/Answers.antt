use Rattle.std.proofs.Common.{ap}
use Rattle.s3_payloads.specs.Whole.{WholeState}
use Rattle.s3_payloads.proofs.WholeLemmas.{finish_ok}
use Rattle.s3_payloads.proofs.whole.WholeReader.finish_at.Goals as goal

pub returns : goal.returns
returns c =
    let kept = ap (λ (s : WholeState). s.bytes) c.self.view_is in
    rw (c.finish.ensures, kept) (finish_ok c.args.self.stage c.args.self c.end_at.new.self c.end_at.result c.end_at.ensures c.in_ok-end_at.was)
