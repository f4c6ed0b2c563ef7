-- Which rows a question finds, and in which order. No answer depends on the order in which rows were put in: of several rows the
-- order that is named leaves no two alike.
use Rattle.std.specs.Prelude.{ℕ, ℤ, ◌&&◌, Bool, List, Option, find, filter, int_lt, slice_get}
use Rattle.std.specs.List.{list_any}
use Rattle.std.specs.Ordering.{is_lt, is_le}
use Rattle.sqlite_keyed.specs.Lists.{sort_by}
use Rattle.s3_text.specs.Order.{byte_order}
use Rattle.s3_rows.specs.Columns.{BucketColumns, VersionColumns, UploadColumns, PartColumns, Tables}
use Rattle.s3_rows.specs.Finding.{is_named, is_in, is_at, is_version, newest_first, is_upload_in, is_upload_to, is_upload, is_sent_to, is_part, by_part}
use Rattle.s3_rows.specs.ReadingLaws.{by_name}
use Rattle.s3_rows.specs.ListLaws.{by_id, by_key_and_id}
use Rattle.s3_rows.specs.VersionListLaws.{by_key_and_number}

-- a key stands from another one on, or behind it
abbrev pub is_key_from : List ℕ → List ℕ → Bool
is_key_from first key = is_le (byte_order first key)

abbrev pub is_key_behind : List ℕ → List ℕ → Bool
is_key_behind last key = is_lt (byte_order last key)

-- ---- buckets

-- the bucket of a name
abbrev pub bucket_named : List ℕ → Tables → Option BucketColumns
bucket_named name t = find (is_named name) t.buckets

-- all, by name in the order of bytes
abbrev pub buckets_by_name : Tables → List BucketColumns
buckets_by_name t = sort_by by_name t.buckets

-- ---- versions

-- the newest version under a key
abbrev pub newest_version : List ℕ → List ℕ → Tables → Option VersionColumns
newest_version bucket key t = slice_get (sort_by newest_first (filter (is_at bucket key) t.versions)) 0

-- the version of an id under a key
abbrev pub version_of_id : List ℕ → List ℕ → ℤ → Tables → Option VersionColumns
version_of_id bucket key id t = find (is_version bucket key id) t.versions

-- those under a key whose numbers are below one, newest first
abbrev pub is_below : List ℕ → List ℕ → ℤ → VersionColumns → Bool
is_below bucket key number v = is_at bucket key v && int_lt v.number number

abbrev pub versions_below : List ℕ → List ℕ → ℤ → Tables → List VersionColumns
versions_below bucket key number t = sort_by newest_first (filter (is_below bucket key number) t.versions)

-- those of a bucket from a key on, and behind it, by key in the order of bytes and newest first under one key
abbrev pub versions_from : List ℕ → List ℕ → Tables → List VersionColumns
versions_from bucket key t = sort_by by_key_and_number (filter (λ v. is_in bucket v && is_key_from key v.key) t.versions)

abbrev pub versions_behind : List ℕ → List ℕ → Tables → List VersionColumns
versions_behind bucket key t = sort_by by_key_and_number (filter (λ v. is_in bucket v && is_key_behind key v.key) t.versions)

-- whether a bucket has any
abbrev pub has_versions : List ℕ → Tables → Bool
has_versions bucket t = list_any (is_in bucket) t.versions

-- ---- uploads

-- the upload of an id to a key
abbrev pub upload_of_id : List ℕ → List ℕ → ℤ → Tables → Option UploadColumns
upload_of_id bucket key id t = find (is_upload bucket key id) t.uploads

-- those of a bucket from a key on, and behind it, by key in the order of bytes and by id; and those to a key whose ids are above one
abbrev pub uploads_from : List ℕ → List ℕ → Tables → List UploadColumns
uploads_from bucket key t = sort_by by_key_and_id (filter (λ u. is_upload_in bucket u && is_key_from key u.key) t.uploads)

abbrev pub uploads_behind : List ℕ → List ℕ → Tables → List UploadColumns
uploads_behind bucket key t = sort_by by_key_and_id (filter (λ u. is_upload_in bucket u && is_key_behind key u.key) t.uploads)

abbrev pub uploads_above : List ℕ → List ℕ → ℤ → Tables → List UploadColumns
uploads_above bucket key id t = sort_by by_id (filter (λ u. is_upload_to bucket key u && int_lt id u.id) t.uploads)

-- whether a bucket has any
abbrev pub has_uploads : List ℕ → Tables → Bool
has_uploads bucket t = list_any (is_upload_in bucket) t.uploads

-- ---- parts

-- the part of a number of the upload in a row
abbrev pub part_of_number : ℤ → ℤ → Tables → Option PartColumns
part_of_number upload part t = find (is_part upload part) t.parts

-- those of an upload whose numbers are above one, by number
abbrev pub parts_above : ℤ → ℤ → Tables → List PartColumns
parts_above upload part t = sort_by by_part (filter (λ p. is_sent_to upload p && int_lt part p.part) t.parts)
