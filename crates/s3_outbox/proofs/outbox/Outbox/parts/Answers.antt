use Rattle.std.proofs.Common.{drop, ap}
use Rattle.s3_outbox.specs.Outbox.{Sending}
use Rattle.s3_outbox.specs.Pending.{waiting}
use Rattle.s3_outbox.proofs.AllLemmas.{last_begins, reply_begins, none_out, some_out, some_waits}
use Rattle.s3_outbox.proofs.outbox.Outbox.parts.Goals as goal

pub returns-then-is_empty : goal.returns-then-is_empty
returns-then-is_empty c =
    let o = c.self.inside in
    let view = ap (λ (s : Sending). s.unsent) c.self.view_is in
    let none = c.out.ensures.empty (none_out _ _ c.is_empty.ensures c.if-is_empty.true) in
    let is = last_begins (waiting o.replies) o.last.items c.as_slice.result.now _ _ o.last_sent view none c.as_slice.ensures.value c.alone.ensures in
    record { beginning = is.beginning; fits = is.fits; empty = is.empty }

pub returns-else-is_empty : goal.returns-else-is_empty
returns-else-is_empty c =
    let o = c.self.inside in
    let view = ap (λ (s : Sending). s.unsent) c.self.view_is in
    let some = some_waits (waiting o.replies) _ c.out.ensures.beginning (some_out _ _ c.is_empty.ensures c.if-is_empty.false) in
    let is = reply_begins (waiting o.replies) (drop o.last_sent o.last.items) _ _ view some c.parts.ensures.beginning c.parts.ensures.empty in
    record { beginning = is.beginning; fits = is.fits; empty = is.empty }
