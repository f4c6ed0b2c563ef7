use Rattle.std.proofs.Common.{◌≡◌, ℕ, false, cond, eqb, subst}
use Rattle.s3_history.specs.Log.{Origin}
use Rattle.s3_journal.specs.SharedStore.{IsSeat}
use Rattle.s3_journal.specs.Roster.{Rostered, is_out}
use Rattle.s3_journal.proofs.RosterLemmas.{roster_withdrawn}
use Rattle.s3_journal.proofs.roster.Roster.take_unused.Goals as goal

pub invariant_of-self : goal.invariant_of-self
invariant_of-self g c =
    let old = c.self.inside in
    let roster : Rostered g.row.P.Denot = record { index = old.index; numbers = old.numbers; gone = old.gone.entries; seen = old.known.entries } in
    let seat = c.args.seat in
    let given = c.into_parts-number.result in
    let parts = c.into_parts-number.ensures in
    let numbers = c.take.new.self in
    let out : (n : ℕ) → is_out numbers n ≡ cond (eqb n seat.number) false (is_out old.numbers n) =
    subst (λ (k : ℕ). (n : ℕ) → is_out numbers n ≡ cond (eqb n k) false (is_out old.numbers n)) parts.number c.take.ensures.out in
    let is_seat : IsSeat g.J.Ground.base seat g.J.Ground.base.origin given.5 given.3.parts given.3.amount =
    subst (λ (o : Origin). IsSeat g.J.Ground.base seat o given.5 given.3.parts given.3.amount) parts.origin parts.seat in
    roster_withdrawn (g.P.Report.fits g.J.Ground.base) g.J.Ground.base roster old.known.origin old.known.committed old.share.parts old.share.amount c.self.invariant
    numbers seat given.3.parts given.3.amount c.merge.new.self.parts c.merge.new.self.amount c.learn.new.self.entries c.learn.new.self.committed given.5 c.learn.new.self.origin
    c.take.ensures.next out c.take.ensures.len c.requires.unused is_seat c.learn.ensures.kept c.learn.ensures.committed c.learn.ensures.origin
    c.merge.ensures.parts c.merge.ensures.amount
