-- Rows of uploads and of parts that are put in and taken out are changes of an upload.
use Rattle.std.specs.Prelude.{◌≡◌, ℕ, pos, false, unsigned_abs, IsTrue, List, [], find, Some}
use Rattle.sqlite_keyed.specs.Keyed.{has_key}
use Rattle.s3_versions.specs.declared.version.Content.TheVariants.{Stored}
use Rattle.s3_versions.specs.declared.version.Data.{Data}
use Rattle.s3_versions.specs.Rules.{made, VersionPut}
use Rattle.s3_uploads.specs.declared.upload.Upload.{Upload}
use Rattle.s3_records.specs.Catalogue.{has_bucket, versioning_of}
use Rattle.s3_records.specs.Changes.{UploadAdded, PartPut, UploadDropped, UploadCompleted}
use Rattle.s3_rows.specs.Columns.{VersionColumns, UploadColumns, PartColumns, Tables}
use Rattle.s3_rows.specs.Encoding.{Encoding}
use Rattle.s3_rows.specs.Finding.{is_upload}
use Rattle.s3_rows.specs.Meaning.{version_of, part_of, catalogue_of}
use Rattle.s3_rows.specs.Soundness.{upload_row, part_row, is_upload_row, is_part_row, AreSound}
use Rattle.s3_rows.specs.TableChanges.{version_put, upload_dropped, upload_put, parts_left, part_put}
use Rattle.s3_rows.specs.VersionLaws.{Makes, MayStand}

-- the upload that a row begins: without parts
abbrev pub upload_begun : Encoding → UploadColumns → Upload (List ℕ)
upload_begun e row =
    record {
      moment = unsigned_abs row.moment;
      content_type = e.content_type_in row.kept;
      metadata = e.metadata_in row.kept;
      parts = [];
    }

-- to put in the row of an upload, with a rowid that no upload has, is to begin it
abbrev pub RowsBeginUploads : Type 0
RowsBeginUploads =
    (e : Encoding) (t : Tables) (row : UploadColumns) → AreSound t → IsTrue (is_upload_row row) → has_key upload_row t.uploads row.row ≡ false
    → IsTrue (has_bucket (catalogue_of e t) row.bucket)
    → Makes e t (upload_put row t) row.bucket (UploadAdded row.key (unsigned_abs row.id) (upload_begun e row))

-- to take out the row of an upload, and those of its parts, is to drop it
abbrev pub RowsDropUploads : Type 0
RowsDropUploads =
    (e : Encoding) (t : Tables) (bucket key : List ℕ) (id : ℕ) → AreSound t
    → Makes e t (upload_dropped bucket key (pos id) t) bucket (UploadDropped key id)

-- to put in the row of a part of an upload that is there is to put the part
abbrev pub RowsPutParts : Type 0
RowsPutParts =
    (e : Encoding) (t : Tables) (bucket key : List ℕ) (id : ℕ) (u : UploadColumns) (row : PartColumns) → AreSound t
    → find (is_upload bucket key (pos id)) t.uploads ≡ Some u → row.upload ≡ u.row
    → IsTrue (is_part_row row) → has_key part_row (parts_left row t) row.row ≡ false
    → Makes e t (part_put row t) bucket (PartPut key id (unsigned_abs row.part) (part_of e row))

-- to do both, to put a version and to take out an upload, is to complete the upload
abbrev pub RowsCompleteUploads : Type 0
RowsCompleteUploads =
    (e : Encoding) (t : Tables) (row : VersionColumns) (n m : ℕ) (stored : Data (List ℕ)) (id : ℕ) → AreSound t → MayStand e t row n
    → version_of e row ≡ made (versioning_of (catalogue_of e t) row.bucket) n m (Stored stored)
    → Makes e t (upload_dropped row.bucket row.key (pos id) (version_put row t)) row.bucket (UploadCompleted row.key id (VersionPut n m stored))
