use Rattle.std.proofs.Common.{ap, length, arith}
use Rattle.s3_documents.proofs.DeletionLemmas.{deletion_room}
use Rattle.s3_documents.proofs.deletions.room_of_row.Goals as goal

pub returns-in-Object : goal.returns-in-Object
returns-in-Object c = λ is_quiet marker.
    rw (c.in-Object.is)
    (omega (
      arith,
      deletion_room is_quiet c.in-Object.deletion.key c.in-Object.deletion.version marker,
      c.room_of_deleted.ensures,
      ap length c.as_bytes.ensures.value,
    ))
