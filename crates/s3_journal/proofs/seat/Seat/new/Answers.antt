use Rattle.std.proofs.Common.{ap, ◌∙◌}
use Rattle.s3_journal.specs.Noted.{Known}
use Rattle.s3_journal.proofs.SeatLemmas.{seat_begins}
use Rattle.s3_journal.proofs.seat.Seat.new.Goals as goal

pub invariant_of-result : goal.invariant_of-result
invariant_of-result g c =
    let origin = c.requires.origin in
    seat_begins g.J.Ground.base c.args.number c.args.calls c.of-committed.result.value c.args.known.entries c.again-front.result c.args.known.origin c.args.share.parts c.args.share.amount
    c.requires.none (c.of-committed.ensures ∙ c.requires.none) origin (ap (λ (k : Known). k.origin) c.again-front.ensures ∙ origin) c.requires.share.0 c.requires.share.1
