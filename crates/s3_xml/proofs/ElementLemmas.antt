-- The elements of a document are read back from its text.
use Rattle.std.proofs.Common.{false}
use Rattle.std.proofs.lemmas.Bool.{and_parts}
use Rattle.s3_xml.specs.Characters.{is_text}
use Rattle.s3_xml.specs.Ended.{ended_in, elements_of}
use Rattle.s3_xml.specs.Laws.{is_name, is_namespace, is_plain, has_texts, ElementsAreReadBack}
use Rattle.s3_xml.proofs.CharacterLemmas.{documents_are_texts}
use Rattle.s3_xml.proofs.DocumentLemmas.{read_back}

pub elements_read : ElementsAreReadBack
unfolding elements_of ended_in
elements_read root namespace inner is all plain document =
    let r = and_parts (is_name root) (is_text root) is in
    let n = and_parts (is_namespace namespace) (is_text namespace) all in
    let p = and_parts (is_plain false inner) (has_texts inner) plain in
    rw (documents_are_texts root namespace inner r.1 n.1 p.1, read_back root namespace inner r.0 n.0 p.0 document)
