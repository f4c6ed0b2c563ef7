-- An upload with the rows of its parts.
use Rattle.std.specs.Prelude.{◌≡◌, List, Some, map, filter}
use Rattle.sqlite_keyed.specs.Lists.{sort_by}
use Rattle.s3_rows.specs.Columns.{UploadColumns, PartColumns, Tables}
use Rattle.s3_rows.specs.Finding.{is_sent_to, by_part}
use Rattle.s3_stored_rows.specs.Changes.{upload_columns, part_columns}
use Rattle.s3_stored_rows.specs.Queries.{upload_of_id}
use Rattle.s3_row_changes.specs.declared.uploads.UploadRows.{UploadRows}

-- the rows of the parts that were sent to the upload of a row, by number
abbrev pub parts_sent : Tables → UploadColumns → List PartColumns
parts_sent t u = sort_by by_part (filter (is_sent_to u.row) t.parts)

-- these are the rows of an upload that is there, and of its parts
pub record AreRowsOf (t : Tables) (u : UploadRows) : Type 0 where
  pub found : upload_of_id u.upload.bucket.items u.upload.key.items u.upload.id t ≡ Some (upload_columns u.upload)
  pub parts : map part_columns u.parts.items ≡ parts_sent t (upload_columns u.upload)
