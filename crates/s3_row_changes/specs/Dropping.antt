-- The changes that take rows out by their rowids.
use Rattle.std.specs.Prelude.{ℤ, List, [], ◌∷◌, ◌++◌, map, Option, None, Some}
use Rattle.std.specs.Option.{option_to_list}
use Rattle.s3_stored_rows.specs.declared.change.Change.{Change}
use Rattle.s3_stored_rows.specs.declared.change.Change.TheVariants.{DropRow}
use Rattle.s3_stored_rows.specs.declared.rows.StoredPart.{StoredPart}
use Rattle.s3_stored_rows.specs.declared.rows.TableName.{TableName}
use Rattle.s3_stored_rows.specs.declared.rows.TableName.TheVariants.{Uploads, Parts}
use Rattle.s3_row_changes.specs.declared.uploads.UploadRows.{UploadRows}

-- the row of this rowid, if there is one
abbrev pub drops_row : TableName → Option ℤ → List Change
drops_row table gone = map (λ row. DropRow table row) (option_to_list gone)

-- the rows of parts
abbrev pub drops_parts : List StoredPart → List Change
drops_parts parts = map (λ (part : StoredPart). DropRow Parts part.row) parts

-- the row of an upload, after those of its parts
abbrev pub drops_upload : UploadRows → List Change
drops_upload u = drops_parts u.parts.items ++ DropRow Uploads u.upload.row ∷ []

abbrev pub drops_any_upload : Option UploadRows → List Change
drops_any_upload None = []
drops_any_upload (Some u) = drops_upload u
