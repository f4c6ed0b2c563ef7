use Rattle.std.proofs.Common.{subst, length}
use Rattle.s3_documents.specs.Printed.{IsRoomFor}
use Rattle.s3_documents.proofs.DeletionLemmas.{rows_text}
use Rattle.s3_documents.proofs.deletions.DeletionsReserved.of.Goals as goal

pub invariant_of-result : goal.invariant_of-result
invariant_of-result c = record {
  empty = c.in_ok-room.ensures.empty;
  suffices = λ markers.
      let is_quiet = c.args.deletion.is_quiet in
      c.in_ok-room.ensures.room (length (rows_text is_quiet c.args.deletion.objects markers))
      (subst (λ objects. IsRoomFor c.room_of_rows.result (length (rows_text is_quiet objects markers))) c.as_slice.ensures (c.room_of_rows.ensures is_quiet markers));
}
