use Rattle.std.proofs.Common.{sym, ap, ◌∙◌}
use Rattle.std.specs.Prelude.{option_map}
use Rattle.s3_xml_reader.specs.Place.{as_ended}
use Rattle.s3_request_documents.proofs.FieldLemmas.{told_by, told_more}
use Rattle.s3_request_documents.proofs.root_field.all_told.Goals as goal

pub loop-told-preserved : goal.loop-told-preserved
loop-told-preserved c =
    ap (λ told. option_map (told_by c.args.root.now c.args.name.now told) c.next.new.self.elements) c.told_with-told.ensures
    ∙ sym (told_more c.args.root.now c.args.name.now c.loop-told.told (as_ended c.in-Some.element) c.next.new.self.elements)
    ∙ ap (option_map (told_by c.args.root.now c.args.name.now c.loop-told.told)) (sym (rw c.in-Some.is at c.in_ok-element.ensures.next))
    ∙ c.loop-told.invariant
