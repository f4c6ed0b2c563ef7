use Rattle.std.proofs.Common.{subst, length, codes, arith}
use Rattle.s3_documents.specs.Location.{constraint_told}
use Rattle.s3_documents.specs.Printed.{IsRoomFor}
use Rattle.s3_documents.specs.Xml.{plain, fields_events}
use Rattle.s3_xml.specs.Printed.{markup}
use Rattle.s3_documents.proofs.XmlRoomLemmas.{text_alone}
use Rattle.s3_documents.proofs.location.BucketLocationTold.room.Goals as goal

pub returns-clause-xml : goal.returns-clause-xml
returns-clause-xml c =
    let told = subst (λ fields. IsRoomFor c.room_of_fields.result (length (markup (fields_events plain fields)))) c.fields_told.ensures (c.room_of_fields.ensures.xml plain) in
    omega (arith, told, text_alone plain (codes "LocationConstraint") (constraint_told c.args.self.now.region))
