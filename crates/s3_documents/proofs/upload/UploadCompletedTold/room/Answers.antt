use Rattle.std.proofs.Common.{subst, length, arith}
use Rattle.s3_documents.specs.Printed.{IsRoomFor}
use Rattle.s3_documents.specs.Xml.{plain, fields_events}
use Rattle.s3_xml.specs.Printed.{markup}
use Rattle.s3_documents.proofs.upload.UploadCompletedTold.room.Goals as goal

pub returns-clause-xml : goal.returns-clause-xml
returns-clause-xml c =
    let told = subst (λ fields. IsRoomFor c.room_of_fields-2.result (length (markup (fields_events plain fields)))) c.elements.ensures (c.room_of_fields-2.ensures.xml plain) in
    omega (arith, told, c.saturating_add.ensures)
