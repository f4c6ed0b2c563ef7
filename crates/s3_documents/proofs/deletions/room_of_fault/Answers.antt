use Rattle.std.proofs.Common.{subst, length, codes, arith}
use Rattle.s3_xml.specs.Printed.{markup}
use Rattle.s3_documents.specs.Deleted.{fault_fields}
use Rattle.s3_documents.specs.Printed.{IsRoomFor}
use Rattle.s3_documents.specs.Xml.{plain, fields_events}
use Rattle.s3_documents.proofs.DeletionLemmas.{element_fits}
use Rattle.s3_documents.proofs.deletions.room_of_fault.Goals as goal

pub returns : goal.returns
returns c =
    let told = subst (λ fields. IsRoomFor c.room_of_fields.result (length (markup (fields_events plain fields)))) c.fault_told.ensures (c.room_of_fields.ensures.xml plain) in
    element_fits (codes "Error") (fault_fields c.args.fault.now) c.saturating_add.result (omega (arith, told, c.saturating_add.ensures, c.room_of_text.ensures))
