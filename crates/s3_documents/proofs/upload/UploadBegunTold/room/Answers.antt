use Rattle.std.proofs.Common.{subst, length}
use Rattle.s3_documents.specs.Printed.{IsRoomFor}
use Rattle.s3_documents.specs.Xml.{plain, fields_events}
use Rattle.s3_xml.specs.Printed.{markup}
use Rattle.s3_documents.proofs.upload.UploadBegunTold.room.Goals as goal

pub returns-clause-xml : goal.returns-clause-xml
returns-clause-xml c =
    subst (λ fields. IsRoomFor c.room_of_fields.result (length (markup (fields_events plain fields)))) c.begun_told.ensures (c.room_of_fields.ensures.xml plain)
