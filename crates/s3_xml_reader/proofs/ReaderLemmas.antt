-- A document from its front.
use Rattle.std.proofs.Common.{◌≡◌, ℕ, Bool, true, false, List, [], refl, sym, ap, ◌∙◌, Option, Some, None}
use Rattle.s3_xml.specs.Characters.{is_text}
use Rattle.s3_xml.specs.Documents.{document_of, is_document, goes_on}
use Rattle.s3_xml.specs.Ended.{Ended, ended_in, elements_of}
use Rattle.s3_xml.specs.Events.{Event}
use Rattle.s3_xml.specs.Grammar.{behind_mark, behind_declaration, events_of}
use Rattle.s3_xml.specs.Option.{◌>>=◌, ◌>>◌, where_so}
use Rattle.s3_xml_reader.specs.Place.{start, to_end}
use Rattle.s3_xml_reader.proofs.StepLemmas.{end_is, end_is_not, to_end_some}

-- the elements of what stands behind a declaration
abbrev elements_behind : Option (List ℕ) → Option (List Ended)
elements_behind rest =
    (rest >>= λ rest. (events_of rest >>= λ events. (where_so (is_document events) >> Some events))) >>= λ events. Some (ended_in [] None events)

elements_are : (bytes : List ℕ) → elements_of bytes ≡ (where_so (is_text bytes) >> elements_behind (behind_declaration (behind_mark bytes)))
unfolding elements_of document_of
elements_are bytes = refl

one_judgement : (so : Bool) (events : List Event) → ((where_so so >> Some events) >>= λ events. Some (ended_in [] None events)) ≡ (where_so so >> Some (ended_in [] None events))
one_judgement true events = refl
one_judgement false events = refl

judgement : (events : Option (List Event)) → ((events >>= λ events. (where_so (is_document events) >> Some events)) >>= λ events. Some (ended_in [] None events)) ≡ (events >>= λ events. (where_so (goes_on true [] events) >> Some (ended_in [] None events)))
judgement None = refl
judgement (Some events) = one_judgement (is_document events) events

-- nothing is read of what is no text
pub opened_not : (bytes : List ℕ) → is_text bytes ≡ false → elements_of bytes ≡ None
opened_not bytes is = elements_are bytes ∙ ap (λ so. where_so so >> elements_behind (behind_declaration (behind_mark bytes))) is

-- nor where a declaration doesn't end
pub opened_nowhere : (bytes : List ℕ) → is_text bytes ≡ true → behind_declaration (behind_mark bytes) ≡ None → elements_of bytes ≡ None
opened_nowhere bytes is none =
    elements_are bytes ∙ ap (λ so. where_so so >> elements_behind (behind_declaration (behind_mark bytes))) is ∙ ap elements_behind none

-- the elements of a document are those that are to end behind its declaration
pub opened_is : (bytes rest : List ℕ) → is_text bytes ≡ true → behind_declaration (behind_mark bytes) ≡ Some rest → to_end start rest ≡ elements_of bytes
unfolding to_end
opened_is bytes rest is some =
    sym (elements_are bytes ∙ ap (λ so. where_so so >> elements_behind (behind_declaration (behind_mark bytes))) is
    ∙ ap elements_behind some ∙ judgement (events_of rest))

pub ruleset opened = (opened_not, opened_nowhere, opened_is)

pub ruleset reads = (end_is, end_is_not, to_end_some)
