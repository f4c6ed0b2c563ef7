use Rattle.std.proofs.Common.{arith}
use Rattle.s3_documents.proofs.DeletionLemmas.{rows_room, no_object_left}
use Rattle.s3_documents.proofs.deletions.room_of_rows.Goals as goal

pub loop-object-preserved : goal.loop-object-preserved
loop-object-preserved c = λ is_quiet markers.
    let here =
    rows_room is_quiet c.args.objects.now markers c.loop-object.object-index c.object-item.result c.room_of_row.result (omega arith) c.object-item.is
    (c.room_of_row.ensures is_quiet) in
    omega (arith, here, c.loop-object.invariant is_quiet markers, c.saturating_add-room.ensures)

pub returns : goal.returns
returns c = λ is_quiet markers.
    omega (
      arith,
      no_object_left is_quiet c.args.objects.now markers c.loop-object.object-index (omega arith),
      c.loop-object.invariant is_quiet markers,
    )
