use Rattle.std.proofs.Common.{take}
use Rattle.s3_rows.specs.Columns.{Tables}
use Rattle.s3_stored_rows.specs.Changes.{after_all}
use Rattle.s3_row_steps.specs.Steps.{HaveSmallIds}
use Rattle.s3_table_records.proofs.dropping.ids_stay_small.Given as goal

-- the ids stay small by the changes so far
abbrev pub invariant-loop-change : goal.invariant-loop-change
invariant-loop-change l = (t : Tables) → HaveSmallIds t → HaveSmallIds (after_all (take l.change-index l.changes) t)
