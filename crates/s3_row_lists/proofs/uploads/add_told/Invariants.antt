use Rattle.std.proofs.Common.{◌≡◌, ◌++◌, map, take}
use Rattle.s3_rows.specs.ListLaws.{upload_listed}
use Rattle.s3_stored_rows.specs.Changes.{upload_columns}
use Rattle.s3_stored_rows.specs.declared.rows.StoredUpload.{StoredUpload}
use Rattle.s3_row_lists.proofs.uploads.add_told.Given as goal

-- those so far are told
abbrev pub invariant-loop-row : goal.invariant-loop-row
invariant-loop-row l = l.told.items ≡ l.fn.told.items ++ map (λ (u : StoredUpload). upload_listed (upload_columns u)) (take l.row-index l.found)
