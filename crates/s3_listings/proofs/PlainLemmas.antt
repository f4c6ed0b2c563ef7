-- Lists of versions and uploads without a delimiter.
use Rattle.std.proofs.Common.{◌≡◌, ap, ◌∙◌, ℕ, List, length}
use Rattle.s3_records.specs.declared.rows.UploadRow.{UploadRow}
use Rattle.s3_records.specs.declared.rows.VersionRow.{VersionRow}
use Rattle.s3_listings.specs.Laws.{PlainUploadsAreRows, PlainVersionsAreRows}
use Rattle.s3_listings.specs.Pages.{page_of}
use Rattle.s3_listings.specs.Rolled.{rows_told}
use Rattle.s3_listings.specs.Uploads.{upload_rows_asked, uploads_told}
use Rattle.s3_listings.specs.Versions.{version_rows_asked, versions_told}
use Rattle.s3_listings.specs.declared.row_page.RowItem.{RowItem}
use Rattle.s3_listings.proofs.RolledLemmas.{no_delimiter, plain_page}

pub plain_versions_are_rows : {B : Type 0} → PlainVersionsAreRows B
unfolding versions_told
plain_versions_are_rows asked c name empty =
    ap (λ (items : List (RowItem VersionRow)). rows_told (page_of asked.max_keys items))
    (no_delimiter (λ (row : VersionRow). row.key) asked.prefix asked.delimiter asked.key_marker (version_rows_asked asked c name) (ap length empty))
    ∙ plain_page asked.max_keys (version_rows_asked asked c name)

pub plain_uploads_are_rows : {B : Type 0} → PlainUploadsAreRows B
unfolding uploads_told
plain_uploads_are_rows asked c name empty =
    ap (λ (items : List (RowItem UploadRow)). rows_told (page_of asked.max_uploads items))
    (no_delimiter (λ (row : UploadRow). row.key) asked.prefix asked.delimiter asked.key_marker (upload_rows_asked asked c name) (ap length empty))
    ∙ plain_page asked.max_uploads (upload_rows_asked asked c name)
