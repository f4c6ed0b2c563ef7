use Rattle.std.proofs.Common.{sym, ap, ◌∙◌, rules}
use Rattle.s3_xml_reader.specs.Place.{as_ended}
use Rattle.s3_request_documents.specs.DeletionTold.{nothing_told}
use Rattle.s3_request_documents.proofs.DeletionLemmas.{read_from, told_first, told_more, asked_refused}
use Rattle.s3_request_documents.proofs.deletion.all_told.Goals as goal

pub loop-told-init : goal.loop-told-init
loop-told-init c =
    ap (λ told. read_from told c.in_ok-reader.reader.elements) c.nothing_told-told.ensures
    ∙ ap (read_from nothing_told) c.in_ok-reader.ensures
    ∙ told_first c.args.body.now

pub loop-told-preserved : goal.loop-told-preserved
loop-told-preserved c =
    sym (told_more c.loop-told.told (as_ended c.in-Some.element) c.in_ok-told.told c.next.new.self.elements c.in_ok-told.ensures.told)
    ∙ ap (read_from c.loop-told.told) (sym (rw c.in-Some.is at c.in_ok-element.ensures.next))
    ∙ c.loop-told.invariant

pub returns-in_err-told-clause-malformed : goal.returns-in_err-told-clause-malformed
returns-in_err-told-clause-malformed c =
    let refused = asked_refused c.args.body.now c.loop-told.told (as_ended c.in-Some.element) c.loop-told.reader.elements c.next.new.self.elements c.loop-told.invariant (rw c.in-Some.is at c.in_ok-element.ensures.next) in
    search (rules, refused)
