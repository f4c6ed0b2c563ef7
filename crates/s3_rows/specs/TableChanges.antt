-- What changes of records do to tables, as rows that are put in and taken out.
use Rattle.std.specs.Prelude.{ℕ, ℤ, Bool, List, filter}
use Rattle.std.specs.List.{list_any}
use Rattle.sqlite_keyed.specs.Keyed.{insert_by}
use Rattle.sqlite_keyed.specs.Lists.{delete_where}
use Rattle.s3_rows.specs.Columns.{BucketColumns, VersionColumns, UploadColumns, PartColumns, Tables}
use Rattle.s3_rows.specs.Finding.{is_named, is_version, is_upload, is_sent_to, is_part}
use Rattle.s3_rows.specs.Soundness.{bucket_row, version_row, upload_row, part_row}

-- the row of a bucket is put in, or that of a name is taken out; where it is replaced, both
abbrev pub bucket_added : BucketColumns → Tables → Tables
bucket_added row t = record t { buckets = insert_by bucket_row t.buckets row }

abbrev pub bucket_dropped : List ℕ → Tables → Tables
bucket_dropped name t = record t { buckets = delete_where (is_named name) t.buckets }

abbrev pub bucket_replaced : BucketColumns → Tables → Tables
bucket_replaced row t = bucket_added row (bucket_dropped row.name t)

-- the row of the version of an id is taken out
abbrev pub version_dropped : List ℕ → List ℕ → ℤ → Tables → Tables
version_dropped bucket key id t = record t { versions = delete_where (is_version bucket key id) t.versions }

-- the row of a version is put in, in the place of the one that has its id
abbrev pub version_put : VersionColumns → Tables → Tables
version_put row t = record t { versions = insert_by version_row (delete_where (is_version row.bucket row.key row.id) t.versions) row }

-- a part was sent to one of several uploads
abbrev pub is_sent_to_any : List UploadColumns → PartColumns → Bool
is_sent_to_any us p = list_any (λ u. is_sent_to u.row p) us

-- the row of the upload of an id is taken out, with those of its parts
abbrev pub upload_dropped : List ℕ → List ℕ → ℤ → Tables → Tables
upload_dropped bucket key id t =
    record t {
      uploads = delete_where (is_upload bucket key id) t.uploads;
      parts = delete_where (is_sent_to_any (filter (is_upload bucket key id) t.uploads)) t.parts;
    }

-- the row of an upload is put in, in the place of the one that has its id
abbrev pub upload_added : UploadColumns → Tables → Tables
upload_added row t = record t { uploads = insert_by upload_row t.uploads row }

abbrev pub upload_put : UploadColumns → Tables → Tables
upload_put row t = upload_added row (upload_dropped row.bucket row.key row.id t)

-- the row of a part is put in, in the place of the one that has its number
abbrev pub parts_left : PartColumns → Tables → List PartColumns
parts_left row t = delete_where (is_part row.upload row.part) t.parts

abbrev pub part_put : PartColumns → Tables → Tables
part_put row t = record t { parts = insert_by part_row (parts_left row t) row }
