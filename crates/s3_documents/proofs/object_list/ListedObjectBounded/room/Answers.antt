use Rattle.std.proofs.Common.{ap, length, arith}
use Rattle.s3_documents.proofs.XmlRoomLemmas.{object_events_room}
use Rattle.s3_documents.proofs.object_list.ListedObjectBounded.room.Goals as goal

pub returns-clause-xml : goal.returns-clause-xml
returns-clause-xml c = λ manner.
    omega (
      arith,
      object_events_room manner c.args.self.now c.known_of.ensures.bound c.known_of.ensures.small,
      c.room_of_object.ensures,
      ap length c.as_bytes.ensures.value,
    )
