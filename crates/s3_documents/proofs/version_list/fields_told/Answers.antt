use Rattle.std.proofs.Common.{refl, ap, ◌∙◌, codes, option_map}
use Rattle.s3_documents.specs.Tree.{text, encodable, truth}
use Rattle.s3_documents.specs.VersionList.{id_of_row}
use Rattle.s3_documents.proofs.FieldLemmas.{marked_told}
use Rattle.s3_documents.proofs.version_list.fields_told.Goals as goal

pub returns : goal.returns
returns c =
    marked_told
    (codes "IsTruncated") (codes "KeyMarker") (codes "MaxKeys") (codes "Name") (codes "NextKeyMarker") (codes "NextVersionIdMarker") (codes "Prefix") (codes "VersionIdMarker")
    (ap truth c.is_truncated.ensures) (ap encodable c.text_told.ensures) refl (ap text c.name_told.ensures)
    c.next_leaf.ensures (c.id_leaf.ensures ∙ ap (option_map id_of_row) c.requires.next)
    (ap encodable c.text_told-2.ensures) (ap text c.requires.behind)

pub id_leaf-requires : goal.id_leaf-requires
id_leaf-requires c = c.requires.next_behind
