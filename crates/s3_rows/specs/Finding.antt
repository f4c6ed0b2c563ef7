-- Which rows a statement names: each test is that of a WHERE, and each order that of an ORDER BY.
use Rattle.std.specs.Prelude.{ℕ, ℤ, pos, negsuc, ◌&&◌, Bool, List}
use Rattle.std.specs.declared.cmp.Ordering.{Ordering}
use Rattle.std.specs.Ordering.{int_cmp, int_eq, is_eq}
use Rattle.s3_text.specs.Order.{byte_order}
use Rattle.s3_names.specs.declared.ids.VersionId.{VersionId}
use Rattle.s3_names.specs.declared.ids.VersionId.TheVariants.{Null, Numbered}
use Rattle.s3_rows.specs.Columns.{BucketColumns, VersionColumns, UploadColumns, PartColumns}

-- two texts are the same
abbrev pub same_text : List ℕ → List ℕ → Bool
same_text a b = is_eq (byte_order a b)

-- a bucket has a name
abbrev pub is_named : List ℕ → BucketColumns → Bool
is_named name b = same_text b.name name

-- a version stands in a bucket, and under a key of it
abbrev pub is_in : List ℕ → VersionColumns → Bool
is_in bucket v = same_text v.bucket bucket

abbrev pub is_under_key : List ℕ → VersionColumns → Bool
is_under_key key v = same_text v.key key

abbrev pub is_at : List ℕ → List ℕ → VersionColumns → Bool
is_at bucket key v = is_in bucket v && is_under_key key v

-- what stands in the column for an id: -1 for `null`, else the number
abbrev pub id_column : VersionId → ℤ
id_column Null = negsuc 0
id_column (Numbered n) = pos n

abbrev pub has_id : ℤ → VersionColumns → Bool
has_id id v = int_eq v.id id

-- a version stands at a place: under a key of a bucket, with an id
abbrev pub is_version : List ℕ → List ℕ → ℤ → VersionColumns → Bool
is_version bucket key id v = is_at bucket key v && has_id id v

-- the versions under a key, newest first
abbrev pub newest_first : VersionColumns → VersionColumns → Ordering
newest_first a b = int_cmp b.number a.number

-- an upload is one in a bucket, and to a key of it
abbrev pub is_upload_in : List ℕ → UploadColumns → Bool
is_upload_in bucket u = same_text u.bucket bucket

abbrev pub is_upload_key : List ℕ → UploadColumns → Bool
is_upload_key key u = same_text u.key key

abbrev pub is_upload_to : List ℕ → List ℕ → UploadColumns → Bool
is_upload_to bucket key u = is_upload_in bucket u && is_upload_key key u

abbrev pub has_upload_id : ℤ → UploadColumns → Bool
has_upload_id id u = int_eq u.id id

-- an upload stands at a place: to a key of a bucket, with an id
abbrev pub is_upload : List ℕ → List ℕ → ℤ → UploadColumns → Bool
is_upload bucket key id u = is_upload_to bucket key u && has_upload_id id u

-- a part was sent to the upload of a row, and has a number there
abbrev pub is_sent_to : ℤ → PartColumns → Bool
is_sent_to upload p = int_eq p.upload upload

abbrev pub is_part : ℤ → ℤ → PartColumns → Bool
is_part upload part p = is_sent_to upload p && int_eq p.part part

-- the parts of an upload by number
abbrev pub by_part : PartColumns → PartColumns → Ordering
by_part a b = int_cmp a.part b.part
