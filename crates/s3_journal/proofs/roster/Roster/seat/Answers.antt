use Rattle.std.proofs.Common.{◌<◌, ◌+◌, arith}
use Rattle.s3_journal.specs.Roster.{Rostered, first_of}
use Rattle.s3_journal.proofs.RosterLemmas.{roster_given}
use Rattle.s3_journal.proofs.roster.Roster.seat.Goals as goal

pub invariant_of-self-2 : goal.invariant_of-self-2
invariant_of-self-2 g c =
    let old = c.self.inside in
    let roster : Rostered g.row.P.Denot = record { index = old.index; numbers = old.numbers; gone = old.gone.entries; seen = old.known.entries } in
    let give = c.in_ok-number.ensures in
    let split = c.split_off-share.ensures in
    let last = give.less in
    let same = c.from.ensures in
    let less : old.numbers.next < first_of old.index + 1099511627775 = omega (arith, last, same) in
    roster_given (g.P.Report.fits g.J.Ground.base) g.J.Ground.base roster old.known.origin old.known.committed old.share.parts old.share.amount c.self.invariant
    c.give.new.self c.split_off-share.new.self.parts c.split_off-share.new.self.amount less give.next give.out give.len split.parts_left split.amount_left
