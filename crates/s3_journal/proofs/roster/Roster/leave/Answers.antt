use Rattle.std.proofs.Common.{◌≡◌, ◌<◌, ℕ, List, true, false, cond, eqb, sym, subst}
use mathlib.Core.List.{IsPrefix}
use Rattle.s3_history.specs.Log.{Origin}
use Rattle.s3_journal.specs.Recorded.{Recorded}
use Rattle.s3_journal.specs.SharedStore.{IsSeat}
use Rattle.s3_journal.specs.Roster.{Rostered, is_out}
use Rattle.s3_journal.proofs.GoneLemmas.{added_is, begins_later}
use Rattle.s3_journal.proofs.RosterLemmas.{roster_left}
use Rattle.s3_journal.proofs.roster.Roster.leave.Goals as goal

pub invariant_of-self : goal.invariant_of-self
invariant_of-self g c =
    let old = c.self.inside in
    let roster : Rostered g.row.P.Denot = record { index = old.index; numbers = old.numbers; gone = old.gone.entries; seen = old.known.entries } in
    let seat = c.args.seat in
    let given = c.into_parts-number.result in
    let parts = c.into_parts-number.ensures in
    let report = g.D.Describes.entry c.args.about.now in
    let numbers = c.take.new.self in
    let both = c.learn.new.self in
    let all = c.learn-2.new.self in
    let out : (n : ℕ) → is_out numbers n ≡ cond (eqb n seat.number) false (is_out old.numbers n) =
    subst (λ (k : ℕ). (n : ℕ) → is_out numbers n ≡ cond (eqb n k) false (is_out old.numbers n)) parts.number c.take.ensures.out in
    let was : is_out old.numbers seat.number ≡ true =
    subst (λ (r : Rostered g.row.P.Denot). is_out r.numbers seat.number ≡ true) (sym c.self.view_is) c.requires.out in
    let below : seat.number < old.numbers.next = subst (λ (k : ℕ). k < old.numbers.next) parts.number c.take.ensures.below in
    let is_seat : IsSeat g.J.Ground.base seat g.J.Ground.base.origin given.5 given.3.parts given.3.amount =
    subst (λ (o : Origin). IsSeat g.J.Ground.base seat o given.5 given.3.parts given.3.amount) parts.origin parts.seat in
    let learned : IsPrefix seat.seen all.entries =
    begins_later seat.seen both.entries all.entries (subst (λ (es : List Recorded). IsPrefix es both.entries) parts.known c.learn.ensures.learned) c.learn-2.ensures.learned in
    let settled : IsPrefix given.5.committed all.committed =
    begins_later given.5.committed both.committed all.committed c.learn.ensures.committed c.learn-2.ensures.more_committed in
    let added = added_is old.gone.entries c.note.new.gone.entries given.0 seat.number given.1 seat.mine given.2.entries seat.seen given.4.value seat.committed report
    c.note.ensures parts.number parts.calls parts.known parts.committed in
    roster_left (g.P.Report.fits g.J.Ground.base) g.J.Ground.base roster old.known.origin old.known.committed old.share.parts old.share.amount c.self.invariant
    numbers seat report given.3.parts given.3.amount c.merge.new.self.parts c.merge.new.self.amount c.note.new.gone.entries all.entries all.committed given.5 all.origin
    c.take.ensures.next out c.take.ensures.len was below c.requires.fits is_seat c.learn-2.ensures.kept learned c.learn-2.ensures.committed settled c.learn-2.ensures.origin
    c.merge.ensures.parts c.merge.ensures.amount added

pub returns-clause-learned : goal.returns-clause-learned
returns-clause-learned g c =
    let seat = c.args.seat in
    let both = c.learn.new.self in
    begins_later seat.seen both.entries c.learn-2.new.self.entries
    (subst (λ (es : List Recorded). IsPrefix es both.entries) c.into_parts-number.ensures.known c.learn.ensures.learned) c.learn-2.ensures.learned
