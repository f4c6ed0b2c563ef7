use Rattle.std.proofs.Common.{refl, ap, ◌∙◌, codes, is_some}
use Rattle.s3_documents.specs.Tree.{text, encodable, number, truth}
use Rattle.s3_documents.proofs.FieldLemmas.{objects_told, some_lent}
use Rattle.s3_documents.proofs.object_list.fields_told.Goals as goal

pub returns : goal.returns
returns c =
    objects_told
    (codes "ContinuationToken") (codes "Delimiter") (codes "IsTruncated") (codes "KeyCount") (codes "MaxKeys") (codes "Name") (codes "NextContinuationToken") (codes "Prefix") (codes "StartAfter")
    (c.digits_told.ensures ∙ c.requires.token) c.delimiter_leaf.ensures (ap truth (c.is_some.ensures ∙ some_lent c.next.result ∙ ap is_some c.next.ensures)) (ap number c.count_of.ensures) refl
    (ap text c.name_told.ensures) (c.digits_told-2.ensures ∙ c.requires.next) (ap encodable c.text_told.ensures) c.start_leaf.ensures
