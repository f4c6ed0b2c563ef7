use Rattle.std.proofs.Common.{◌≡◌, ℕ, ◌+◌, List, ◌++◌, length, drop, ap, arith}
use Rattle.s3_outbox.specs.Outbox.{Sending}
use Rattle.s3_outbox.specs.Pending.{waiting}
use Rattle.s3_outbox.proofs.SentLemmas.{sent_fits, sent_waits}
use Rattle.s3_outbox.proofs.outbox.Outbox.sent.Goals as goal

pub overflow_add-self : goal.overflow_add-self
overflow_add-self c =
    let o = c.self.inside in
    let long : length (waiting o.replies ++ drop o.last_sent o.last.items) ≡ length c.args.self.now.unsent = ap (λ (s : Sending). length s.unsent) c.self.view_is in
    let fits = sent_fits (waiting o.replies) o.last.items o.last_sent c.args.count c.self.invariant.4 (omega (arith, long, c.requires.within)) in
    omega (arith, fits, c.send.ensures.value, c.self.invariant.5)

pub invariant_of-self : goal.invariant_of-self
invariant_of-self c =
    let o = c.self.inside in
    let invariant = c.self.invariant in
    let room = c.send.ensures.room in
    let long : length (waiting o.replies ++ drop o.last_sent o.last.items) ≡ length c.args.self.now.unsent = ap (λ (s : Sending). length s.unsent) c.self.view_is in
    let fits = sent_fits (waiting o.replies) o.last.items o.last_sent c.args.count invariant.4 (omega (arith, long, c.requires.within)) in (
      c.send.ensures.sound,
      λ has. (omega (arith, (invariant.1 has).0, room.0, room.2), omega (arith, (invariant.1 has).1, room.1, room.3)),
      invariant.2,
      λ had. (omega (arith, (invariant.3 had).0, room.0), omega (arith, (invariant.3 had).1, room.1)),
      omega (arith, fits, c.send.ensures.value),
      invariant.5,
      invariant.6,
    )

pub returns : goal.returns
returns c =
    let o = c.self.inside in
    let waits = sent_waits (waiting o.replies) o.last.items o.last_sent c.args.count in
    let unsent : waiting c.send.new.self ++ drop (o.last_sent + c.send.result) o.last.items ≡ drop c.args.count (waiting o.replies ++ drop o.last_sent o.last.items) = rw (c.send.ensures.sent, c.send.ensures.value) waits in
    record { sent = rw (← c.self.view_is) (ap (λ (xs : List ℕ). record { unsent = xs; has_room = o.has_room; had_room = o.had_room; is_ended = o.is_ended }) unsent) }
