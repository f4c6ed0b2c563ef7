use Rattle.std.proofs.Common.{ap, ◌∙◌, codes}
use Rattle.s3_documents.specs.Xml.{in_second}
use Rattle.s3_documents.proofs.FieldLemmas.{behind_told}
use Rattle.s3_documents.proofs.object_list.behind.Goals as goal

pub returns : goal.returns
returns c =
    behind_told
    (codes "EncodingType") (codes "KeyCount") (codes "ContinuationToken") (codes "NextContinuationToken") (codes "StartAfter")
    c.encoding_leaf.ensures c.count_leaf.ensures
    (c.token_leaf.ensures ∙ ap (in_second c.args.asked.now.version) c.requires.token)
    (c.token_leaf-2.ensures ∙ ap (in_second c.args.asked.now.version) c.requires.next)
    c.start_after_leaf.ensures
