use Rattle.std.proofs.Common.{subst, length}
use Rattle.s3_documents.specs.Printed.{IsRoomFor}
use Rattle.s3_documents.proofs.DeletionLemmas.{rows_text}
use Rattle.s3_documents.proofs.deletions.DeletionsListTold.room.Goals as goal

pub returns-clause-xml : goal.returns-clause-xml
returns-clause-xml c =
    let list = c.args.self.now in
    subst (λ objects. IsRoomFor c.room_of_rows.result (length (rows_text list.deletion.is_quiet objects list.markers))) c.as_slice.ensures
    (c.room_of_rows.ensures list.deletion.is_quiet list.markers)
