use Rattle.std.proofs.Common.{subst, sym}
use mathlib.Core.List.{IsPrefix}
use Rattle.s3_journal.specs.SharedStore.{Seated}
use Rattle.s3_journal.proofs.SeatLemmas.{seat_sees}
use Rattle.s3_journal.proofs.seat.Seat.see.Goals as goal

pub invariant_of-self : goal.invariant_of-self
invariant_of-self g c =
    let old = c.self.inside in
    let seat : Seated = record { number = old.number; mine = old.calls; seen = old.known.entries; committed = old.committed.value } in
    let known = c.args.known in
    let later : IsPrefix seat.seen known.entries = subst (λ (s : Seated). IsPrefix s.seen known.entries) (sym c.self.view_is) c.requires.begins in
    seat_sees g.J.Ground.base seat known.entries old.front old.known.origin known.origin old.share.parts old.share.amount c.self.invariant later c.requires.origin
