use Rattle.std.proofs.Common.{refl, ap, ◌∙◌, codes, option_map}
use Rattle.s3_documents.specs.Tree.{text, encodable, truth}
use Rattle.s3_documents.specs.UploadList.{id_of_upload}
use Rattle.s3_documents.proofs.FieldLemmas.{marked_told}
use Rattle.s3_documents.proofs.upload_list.fields_told.Goals as goal

pub returns : goal.returns
returns c =
    marked_told
    (codes "Bucket") (codes "IsTruncated") (codes "KeyMarker") (codes "MaxUploads") (codes "NextKeyMarker") (codes "NextUploadIdMarker") (codes "Prefix") (codes "UploadIdMarker")
    (ap text c.name_told.ensures) (ap truth c.is_truncated.ensures) (ap encodable c.text_told.ensures) refl
    c.next_leaf.ensures (c.id_leaf.ensures ∙ ap (option_map id_of_upload) c.requires.next)
    (ap encodable c.text_told-2.ensures) (ap text c.requires.behind)

pub id_leaf-requires : goal.id_leaf-requires
id_leaf-requires c = c.requires.next_behind
