use Rattle.std.proofs.Common.{◌≡◌, take}
use Rattle.s3_rows.specs.Columns.{Tables}
use Rattle.s3_stored_rows.specs.Changes.{after_all}
use Rattle.s3_stored_rows.proofs.copying.copied_changes.Given as goal

abbrev pub invariant-loop-change : goal.invariant-loop-change
invariant-loop-change l = record { same : (t : Tables) → after_all l.copies.items t ≡ after_all (take l.change-index l.changes) t }
