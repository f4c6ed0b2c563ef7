-- What a document tells for which room was taken.
use Rattle.s3_deletions.specs.Deletions.{rows_told}
use Rattle.s3_documents.specs.Document.{Document, deletions}
use Rattle.s3_documents.specs.declared.listed.Kept.{Kept}
use Rattle.s3_documents.specs.declared.listed.Kept.TheVariants.{Reserved, Deletions}
use Rattle.s3_documents.specs.declared.listed.Reservation.{Reservation}
use Rattle.s3_documents.specs.declared.listed.Reservation.TheVariants.{Buckets, Objects, Versions, Uploads, Parts, Begun, Completed, Location}

abbrev pub reserved_document : Reservation → Document
reserved_document (Buckets document) = document
reserved_document (Objects document) = document
reserved_document (Versions document) = document
reserved_document (Uploads document) = document
reserved_document (Parts document) = document
reserved_document (Begun document) = document
reserved_document (Completed document) = document
reserved_document (Location document) = document

-- and what one tells that is kept
abbrev pub kept_document : Kept → Document
kept_document (Reserved reservation) = reserved_document reservation.value
kept_document (Deletions reserved) =
    let list = reserved.value.list in
    deletions list.deletion.is_quiet (rows_told list.deletion.objects list.markers)
