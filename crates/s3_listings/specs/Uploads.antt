-- The list of the uploads in a bucket that aren't completed (Amazon S3 API Reference, ListMultipartUploads).
use Rattle.std.specs.Prelude.{ℕ, Bool, nat_eq, List, filter, Option, Some, None}
use Rattle.std.specs.List.{starts_with}
use Rattle.s3_records.specs.Catalogue.{Catalogue}
use Rattle.s3_records.specs.OpenUploads.{uploads_from}
use Rattle.s3_records.specs.declared.rows.Start.TheVariants.{Behind}
use Rattle.s3_records.specs.declared.rows.UploadRow.{UploadRow}
use Rattle.s3_records.specs.declared.rows.UploadStart.{UploadStart}
use Rattle.s3_records.specs.declared.rows.UploadStart.TheVariants.{At, BehindUpload}
use Rattle.s3_listings.specs.declared.asked.UploadsAsked.{UploadsAsked}
use Rattle.s3_listings.specs.Pages.{Page, page_of}
use Rattle.s3_listings.specs.Rolled.{RowsTold, items_asked, rows_told}
use Rattle.s3_listings.specs.declared.row_page.RowItem.{RowItem}

-- where the list goes on: behind a key, or behind an upload of it, which is there or not
abbrev pub marked : List ℕ → Option ℕ → UploadStart
marked key None = At (Behind key)
marked key (Some id) = BehindUpload key id

-- the key is asked for
abbrev pub is_asked : UploadsAsked → UploadRow → Bool
is_asked asked row = starts_with nat_eq row.key asked.prefix

-- the rows of all uploads that are asked for
abbrev pub upload_rows_asked : {B : Type 0} → UploadsAsked → Catalogue B → List ℕ → List UploadRow
upload_rows_asked asked c name = filter (is_asked asked) (uploads_from c name (marked asked.key_marker asked.id_marker))

-- all items that are asked for
abbrev pub uploads_asked : {B : Type 0} → UploadsAsked → Catalogue B → List ℕ → List (RowItem UploadRow)
uploads_asked asked c name =
    items_asked (λ (row : UploadRow). row.key) asked.prefix asked.delimiter asked.key_marker (upload_rows_asked asked c name)

-- the page of them
abbrev pub uploads_page : {B : Type 0} → UploadsAsked → Catalogue B → List ℕ → Page (RowItem UploadRow)
uploads_page asked c name = page_of asked.max_uploads (uploads_asked asked c name)

-- what it tells
unfoldable pub uploads_told : {B : Type 0} → UploadsAsked → Catalogue B → List ℕ → RowsTold UploadRow
uploads_told asked c name = rows_told (uploads_page asked c name)
