use Rattle.std.proofs.Common.{sym, ap, ◌∙◌}
use Rattle.std.specs.Prelude.{option_map}
use Rattle.s3_xml_reader.specs.Place.{as_ended}
use Rattle.s3_request_documents.specs.CompletionTold.{completion_of, answered}
use Rattle.s3_request_documents.proofs.RowLemmas.{told_by, told_first, told_more}
use Rattle.s3_request_documents.proofs.completion_xml.all_told.Goals as goal

pub loop-told-init : goal.loop-told-init
loop-told-init c =
    ap (λ told. option_map (λ elements. answered (told_by told elements)) c.in_ok-reader.reader.elements) c.nothing_told-told.ensures
    ∙ told_first c.in_ok-reader.reader.elements
    ∙ ap (option_map completion_of) c.in_ok-reader.ensures

pub loop-told-preserved : goal.loop-told-preserved
loop-told-preserved c =
    ap (λ told. option_map (λ elements. answered (told_by told elements)) c.next.new.self.elements) c.in_ok-told.ensures
    ∙ sym (told_more c.loop-told.told (as_ended c.in-Some.element) c.next.new.self.elements)
    ∙ ap (option_map (λ elements. answered (told_by c.loop-told.told elements))) (sym (rw c.in-Some.is at c.in_ok-element.ensures.next))
    ∙ c.loop-told.invariant
