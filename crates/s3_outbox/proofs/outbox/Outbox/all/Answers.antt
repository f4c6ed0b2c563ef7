use Rattle.std.proofs.Common.{◌∙◌, ◌<◌, length, ap, sym, arith}
use Rattle.std.proofs.lemmas.Result.{IfOk-from_err}
use Rattle.s3_outbox.specs.Outbox.{Sending}
use Rattle.s3_outbox.specs.Pending.{waiting}
use Rattle.s3_outbox.proofs.AllLemmas.{all_copied, none_out, some_out, on_err}
use Rattle.s3_outbox.proofs.outbox.Outbox.all.Goals as goal

-- where all is sent, nothing is copied
pub returns-then-is_empty : goal.returns-then-is_empty
returns-then-is_empty c =
    let none = c.out.ensures.empty (none_out _ _ c.is_empty.ensures c.if-is_empty.true) in
    record { value = c.new.ensures.items ∙ sym none; cause = tt }

pub returns : goal.returns
returns c =
    let o = c.self.inside in
    let view = ap (λ (s : Sending). s.unsent) c.self.view_is in
    let value = all_copied (waiting o.replies) o.last.items c.as_slice.result.now c.new-all.result.items _ _ _ o.last_sent view
    c.as_slice.ensures.value c.new-all.ensures.items c.in_ok-copy_to.ensures.value c.in_ok-extend_from_slice.ensures.items in
    record { value = value; cause = tt }

-- memory runs out only where something is unsent
pub returns-in_err-copy_to : goal.returns-in_err-copy_to
returns-in_err-copy_to c =
    let some : 0 < length c.args.self.now.unsent = omega (arith, c.out.ensures.fits, some_out _ _ c.is_empty.ensures c.if-is_empty.false) in
    record { value = IfOk-from_err c.from_residual.result _ c.from_residual.ensures.0; cause = on_err c.from_residual.result some }

pub returns-in_err-extend_from_slice : goal.returns-in_err-extend_from_slice
returns-in_err-extend_from_slice c =
    let some : 0 < length c.args.self.now.unsent = omega (arith, c.out.ensures.fits, some_out _ _ c.is_empty.ensures c.if-is_empty.false) in
    let failed = c.from_residual-in_err-extend_from_slice in
    record { value = IfOk-from_err failed.result _ failed.ensures.0; cause = on_err failed.result some }
