-- The open uploads of a bucket, which were begun and aren't completed (Amazon S3 API Reference, CreateMultipartUpload,
-- CompleteMultipartUpload and ListMultipartUploads): where each stands, and the rows in which lists tell them, by key in the
-- order of bytes and of one key by id.
use Rattle.std.specs.Prelude.{ℕ, Bool, nat_lt, if◌then◌else◌, List, [], filter, map as each, Option, Some, None, option_map, Result, Err}
use Rattle.std.specs.List.{flat_map}
use Rattle.std.specs.Ordering.{is_lt}
use Rattle.std.specs.FinMap as map
use Rattle.std.specs.Str.{bytes_eq}
use Rattle.s3_text.specs.Order.{byte_order}
use Rattle.s3_terms.specs.declared.code.Code.{Code}
use Rattle.s3_terms.specs.declared.code.Code.TheVariants.{NoSuchUpload}
use Rattle.s3_versions.specs.declared.version.Data.{Data}
use Rattle.s3_uploads.specs.declared.upload.Upload.{Upload}
use Rattle.s3_uploads.specs.declared.listed.ListedPart.{ListedPart}
use Rattle.s3_uploads.specs.Parts.{PartList}
use Rattle.s3_uploads.specs.Completion.{completed, joined_body, parts_listed}
use Rattle.s3_records.specs.Catalogue.{KeyUploads, Uploads, Bucket, Catalogue}
use Rattle.s3_records.specs.Rows.{is_from}
use Rattle.s3_records.specs.declared.rows.UploadRow.{UploadRow}
use Rattle.s3_records.specs.declared.rows.UploadStart.{UploadStart}
use Rattle.s3_records.specs.declared.rows.UploadStart.TheVariants.{At, BehindUpload}

-- the uploads that were found to a key: a key that is not there has none
abbrev pub found_uploads : {B : Type 0} → Option (KeyUploads B) → KeyUploads B
found_uploads None = map.empty
found_uploads (Some under) = under

-- the uploads to a key
abbrev pub uploads_under : {B : Type 0} → Uploads B → List ℕ → KeyUploads B
uploads_under uploads key = found_uploads (map.get uploads key)

-- the one of them that has an id
abbrev pub upload_under : {B : Type 0} → Uploads B → List ℕ → ℕ → Option (Upload B)
upload_under uploads key id = map.get (uploads_under uploads key) id

-- the same, in a bucket that is there or not
abbrev pub upload_in : {B : Type 0} → Option (Bucket B) → List ℕ → ℕ → Option (Upload B)
upload_in None key id = None
upload_in (Some b) key id = upload_under b.uploads key id

-- the upload at a place: in a bucket, to a key, with an id
abbrev pub upload_at : {B : Type 0} → Catalogue B → List ℕ → List ℕ → ℕ → Option (Upload B)
upload_at c name key id = upload_in (map.get c name) key id

-- the parts that were sent to an upload; none where there is no such upload
abbrev pub parts_sent : {B : Type 0} → Option (Upload B) → PartList B
parts_sent None = []
parts_sent (Some u) = u.parts

abbrev pub parts_at : {B : Type 0} → Catalogue B → List ℕ → List ℕ → ℕ → PartList B
parts_at c name key id = parts_sent (upload_at c name key id)

-- the bytes of those parts that are listed, one part behind another, where the upload is there
abbrev pub bytes_listed : List ListedPart → Option (Upload (List ℕ)) → Option (List ℕ)
bytes_listed listed upload = option_map (λ (u : Upload (List ℕ)). joined_body (parts_listed listed u.parts)) upload

-- what the completion of an upload stores, or the first refusal
abbrev pub completed_at : ℕ → List ListedPart → Option (Upload (List ℕ)) → Result (Data (List ℕ)) Code
completed_at least listed None = Err NoSuchUpload
completed_at least listed (Some u) = completed least listed u

-- what a list tells of an upload
abbrev pub upload_row : {B : Type 0} → List ℕ → ℕ × Upload B → UploadRow
upload_row key e = record { key = key; id = e.0; moment = e.1.moment }

-- and of all to one key
abbrev pub upload_rows_of : {B : Type 0} → List ℕ × KeyUploads B → List UploadRow
upload_rows_of e = each (upload_row e.0) (map.entries e.1)

-- and of all in a bucket, which is there or not
abbrev pub upload_rows_in : {B : Type 0} → Option (Bucket B) → List UploadRow
upload_rows_in None = []
upload_rows_in (Some b) = flat_map upload_rows_of (map.entries b.uploads)

abbrev pub upload_rows : {B : Type 0} → Catalogue B → List ℕ → List UploadRow
upload_rows c name = upload_rows_in (map.get c name)

-- an upload stands where a list begins, or behind that
abbrev pub is_upload_from : UploadStart → UploadRow → Bool
is_upload_from (At start) row = is_from start row.key
is_upload_from (BehindUpload key id) row =
    if bytes_eq row.key key then nat_lt id row.id else is_lt (byte_order key row.key)

-- the uploads from a place on
abbrev pub uploads_from : {B : Type 0} → Catalogue B → List ℕ → UploadStart → List UploadRow
uploads_from c name start = filter (is_upload_from start) (upload_rows c name)
