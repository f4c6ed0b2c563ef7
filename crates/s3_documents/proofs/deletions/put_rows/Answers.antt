use Rattle.std.proofs.Common.{ap, sym, ◌∙◌, ◌++◌, append-nil}
use Rattle.std.proofs.lemmas.Slice.Zip.{either_empty_from_Zip}
use Rattle.std.specs.Iterator.Adapters.{zip_first, zip_second}
use Rattle.std.specs.Slice.Iter.{iter_rest}
use Rattle.s3_documents.proofs.DeletionLemmas.{none_left}
use Rattle.s3_documents.proofs.deletions.put_rows.Goals as goal

pub returns-clause-told : goal.returns-clause-told
returns-clause-told c =
    let front = c.loop-object.writer.bytes in
    let objects = iter_rest (zip_first c.loop-object.object-iterator) in
    let markers = iter_rest (zip_second c.loop-object.object-iterator) in
    let spent = either_empty_from_Zip c.loop-object.object-iterator c.next.new.self _ c.in-None.is c.next.ensures.steps in
    sym (append-nil front) ∙ ap (λ e. front ++ e) (sym (none_left c.args.is_quiet objects markers spent)) ∙ c.loop-object.invariant.0
