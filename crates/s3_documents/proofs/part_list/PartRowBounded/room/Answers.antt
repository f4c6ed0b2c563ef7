use Rattle.std.proofs.Common.{arith}
use Rattle.s3_documents.proofs.XmlRoomLemmas.{part_events_room}
use Rattle.s3_documents.proofs.part_list.PartRowBounded.room.Goals as goal

pub returns-clause-xml : goal.returns-clause-xml
returns-clause-xml c = λ manner.
    omega (arith, part_events_room manner c.args.self.now c.known_of.ensures.bound c.known_of.ensures.small (omega arith))
