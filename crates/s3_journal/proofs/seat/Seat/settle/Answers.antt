use Rattle.std.proofs.Common.{◌≡◌, ◌+◌, ◌⊎◌, ◌∙◌, length, subst, sym, arith}
use mathlib.Core.List.{IsPrefix}
use Rattle.s3_journal.specs.Noted.{Known}
use Rattle.s3_journal.specs.SharedStore.{Seated}
use Rattle.s3_journal.proofs.SeatLemmas.{seat_settles}
use Rattle.s3_journal.proofs.seat.Seat.settle.Goals as goal

pub invariant_of-self : goal.invariant_of-self
invariant_of-self g c =
    let old = c.self.inside in
    let base = g.J.Ground.base in
    let seat : Seated = record { number = old.number; mine = old.calls; seen = old.known.entries; committed = old.committed.value } in
    let answered = c.args.answer.now.number in
    let before = c.if-answer-number.false in
    seat_settles base seat old.front c.again.result c.args.committed.now c.of.result.value old.known.origin answered c.number.result old.share.parts old.share.amount c.self.invariant
    c.of.ensures (subst (λ (s : Seated). answered + 1 ≡ base.store.number + length s.seen) (sym c.self.view_is) c.requires.last) c.number.ensures (omega (arith, before))
    (subst (λ (k : Known). IsPrefix old.known.entries k.entries ⊎ IsPrefix k.entries old.known.entries) c.known.ensures c.meet.ensures)
    (c.again.ensures ∙ c.known-2.ensures)
