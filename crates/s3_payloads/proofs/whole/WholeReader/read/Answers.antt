use Rattle.std.proofs.Common.{inr}
use Rattle.s3_payloads.proofs.WholeLemmas.{read_part}
use Rattle.s3_payloads.proofs.whole.WholeReader.read.Goals as goal

pub returns-in-Ok : goal.returns-in-Ok
returns-in-Ok c =
    inr (read_part c.args.self.now c.take_front.new.self c.leave.new.self c.args.piece.now c.stage_at-stage.result c.in-Ok.len c.leave.result
    c.take_front.ensures.within
    (c.in-Ok.ensures.taken)
    c.leave.ensures.stage
    c.stage_at-stage.ensures.told
    c.in-Ok.ensures.len
    c.leave.ensures.answer)
