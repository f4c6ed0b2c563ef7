-- Which rows may stand beside others.
use Rattle.std.specs.Prelude.{ℤ, pos, negsuc, int_lt, not, ◌&&◌, ◌||◌, Bool, false, List, find, Option, Some, None}
use Rattle.std.specs.Ordering.{int_eq}
use Rattle.sqlite_keyed.specs.Keyed.{has_key}
use Rattle.s3_rows.specs.Columns.{BucketColumns, VersionColumns, UploadColumns, PartColumns, Tables}
use Rattle.s3_rows.specs.Finding.{is_named}
use Rattle.s3_rows.specs.Soundness.{bucket_row, version_row, upload_row, part_row, is_bucket_row, is_version_row, is_upload_row, is_part_row, has_bucket_row}
use Rattle.s3_found_rows.specs.Order.{IsFilled}

-- a bucket, if there is one, may have a version: any where its versioning was set, and else one whose id is that of `null`
abbrev pub may_have : Option BucketColumns → VersionColumns → Bool
may_have None v = false
may_have (Some b) v = not (int_eq b.mode (pos 0)) || int_eq v.id (negsuc 0)

-- a version: its integers are in range, its bucket is there and may have it, and its number is below that of the next entry
abbrev pub version_fits : ℤ → List BucketColumns → VersionColumns → Bool
version_fits number bs v = is_version_row v && (may_have (find (is_named v.bucket) bs) v && int_lt v.number number)

-- an upload: its integers are in range, its bucket is there, and its id is below the number of the next entry
abbrev pub upload_fits : ℤ → List BucketColumns → UploadColumns → Bool
upload_fits number bs u = is_upload_row u && (has_bucket_row bs u.bucket && int_lt u.id number)

-- a part: its integers are in range, and its upload is there
abbrev pub part_fits : List UploadColumns → PartColumns → Bool
part_fits us p = is_part_row p && has_key upload_row us p.upload

-- the rows of all tables of records may stand, where this is the number of the next entry, and no rowid is above this one
pub record AreFilled (last number : ℤ) (t : Tables) : Type 0 where
  pub buckets : IsFilled bucket_row last is_bucket_row t.buckets
  pub versions : IsFilled version_row last (version_fits number t.buckets) t.versions
  pub uploads : IsFilled upload_row last (upload_fits number t.buckets) t.uploads
  pub parts : IsFilled part_row last (part_fits t.uploads) t.parts
