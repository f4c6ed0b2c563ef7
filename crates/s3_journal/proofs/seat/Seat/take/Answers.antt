use Rattle.std.proofs.Common.{◌≡◌, ◌++◌, ◌∷◌, [], refl, sym, ap, subst, ◌∙◌}
use mathlib.Core.List.{IsPrefix}
use Rattle.s3_machine.specs.declared.command.Answer.{Answer}
use Rattle.s3_journal.specs.Recorded.{entry_of, recorded}
use Rattle.s3_journal.specs.SharedStore.{Seated}
use Rattle.s3_journal.proofs.SeatLemmas.{seat_takes}
use Rattle.s3_journal.proofs.seat.Seat.take.Goals as goal

pub invariant_of-self : goal.invariant_of-self
invariant_of-self g c =
    let old = c.self.inside in
    let seat : Seated = record { number = old.number; mine = old.calls; seen = old.known.entries; committed = old.committed.value } in
    let turn = c.args.asked.value in
    let answer = c.args.answer.now in
    let known = c.args.known.entries in
    let earlier = c.requires.seen.0 in
    let later : IsPrefix seat.seen earlier = subst (λ (s : Seated). IsPrefix s.seen earlier) (sym c.self.view_is) c.requires.seen.1 in
    let ends : known ≡ earlier ++ recorded seat.number turn answer ∷ [] =
    subst (λ (s : Seated). known ≡ earlier ++ recorded s.number turn answer ∷ []) (sym c.self.view_is) c.requires.seen.2 in
    let adds : c.add.new.self ≡ seat.mine ++ entry_of turn answer ∷ [] = c.add.ensures ∙ ap (λ (a : Answer). seat.mine ++ entry_of turn a ∷ []) c.of.ensures in
    seat_takes g.J.Ground.base seat (recorded seat.number turn answer) earlier known old.front c.add.new.self old.known.origin c.args.known.origin
    old.share.parts c.add-2.new.share.parts old.share.amount c.add-2.new.share.amount
    c.self.invariant refl later ends adds c.requires.origin c.add-2.ensures.parts c.add-2.ensures.amount
