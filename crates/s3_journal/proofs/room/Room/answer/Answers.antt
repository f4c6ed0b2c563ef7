use Rattle.s3_journal.proofs.RoomLemmas.{room_answered}
use Rattle.s3_journal.proofs.room.Room.answer.Goals as goal

pub invariant_of-self : goal.invariant_of-self
invariant_of-self g c =
    let old = c.self.inside in
    room_answered g.J.Ground.base g.J.Ledger.parts old.rosters old.recorded_store old.calls.total old.spare.parts old.spare.amount
    c.self.invariant c.answer_turn.new.recorded_store c.number.result c.args.turn c.in-Ok.answer c.take.new.calls.total c.in-Ok.ensures.answered c.take.ensures.total
