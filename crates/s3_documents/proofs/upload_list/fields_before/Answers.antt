use Rattle.std.proofs.Common.{refl, ap, ◌∙◌, codes, option_map}
use Rattle.s3_documents.specs.Tree.{text, encodable, truth}
use Rattle.s3_documents.specs.UploadList.{id_of_upload}
use Rattle.s3_documents.proofs.FieldLemmas.{uploads_told}
use Rattle.s3_documents.proofs.upload_list.fields_before.Goals as goal

pub returns : goal.returns
returns c =
    uploads_told
    (codes "Bucket") (codes "KeyMarker") (codes "UploadIdMarker") (codes "NextKeyMarker") (codes "Prefix") (codes "Delimiter") (codes "NextUploadIdMarker") (codes "MaxUploads") (codes "IsTruncated")
    (ap text c.name_told.ensures) (ap encodable c.text_told.ensures) (ap text c.requires.behind) c.next_leaf.ensures
    (ap encodable c.text_told-2.ensures) c.delimiter_leaf.ensures (c.id_leaf.ensures ∙ ap (option_map id_of_upload) c.requires.next)
    refl (ap truth c.is_truncated.ensures)

pub id_leaf-requires : goal.id_leaf-requires
id_leaf-requires c = c.requires.next_behind
