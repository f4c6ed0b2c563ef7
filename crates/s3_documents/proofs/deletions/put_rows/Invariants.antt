use Rattle.std.proofs.Common.{◌≡◌, ◌≤◌, ◌+◌, ◌++◌, length}
use Rattle.std.specs.Iterator.Adapters.{zip_first, zip_second}
use Rattle.std.specs.Slice.Iter.{iter_rest}
use Rattle.s3_documents.proofs.DeletionLemmas.{rows_text}
use Rattle.s3_documents.proofs.deletions.put_rows.Given as goal

-- what is printed, with the rows that are left, is all; and the room that is left suffices for these where it did for all
abbrev pub invariant-loop-object : goal.invariant-loop-object
invariant-loop-object l =
    let objects = iter_rest (zip_first l.object-iterator) in
    let markers = iter_rest (zip_second l.object-iterator) in
    (l.writer.bytes ++ rows_text l.is_quiet objects markers ≡ l.initial.writer.bytes ++ rows_text l.is_quiet l.objects l.markers)
    × (l.initial.writer.spare + length (rows_text l.is_quiet objects markers) ≤ l.writer.spare + length (rows_text l.is_quiet l.objects l.markers))
