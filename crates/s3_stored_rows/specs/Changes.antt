-- The changes of the tables.
use Rattle.std.specs.Prelude.{ℤ, List, fold}
use Rattle.sqlite_keyed.specs.Keyed.{insert_by}
use Rattle.sqlite_keyed.specs.Lists.{without_key}
use Rattle.s3_rows.specs.Columns.{BucketColumns, VersionColumns, UploadColumns, PartColumns, StoreColumns, Tables}
use Rattle.s3_stored_rows.specs.declared.rows.StoredBucket.{StoredBucket}
use Rattle.s3_stored_rows.specs.declared.rows.StoredVersion.{StoredVersion}
use Rattle.s3_stored_rows.specs.declared.rows.StoredUpload.{StoredUpload}
use Rattle.s3_stored_rows.specs.declared.rows.StoredPart.{StoredPart}
use Rattle.s3_stored_rows.specs.declared.rows.StoreNumbers.{StoreNumbers}
use Rattle.s3_stored_rows.specs.declared.rows.TableName.{TableName}
use Rattle.s3_stored_rows.specs.declared.rows.TableName.TheVariants.{Buckets, Versions, Uploads, Parts, Store}
use Rattle.s3_stored_rows.specs.declared.change.Change.{Change}
use Rattle.s3_stored_rows.specs.declared.change.Change.TheVariants.{AddBucket, AddVersion, AddUpload, AddPart, AddStore, DropRow}
use Rattle.s3_rows.specs.Soundness.{bucket_row, version_row, upload_row, part_row}

-- the rowid of the row of the store
abbrev pub store_row : StoreColumns → ℤ
store_row s = s.row

-- ---- a row's columns

abbrev pub bucket_columns : StoredBucket → BucketColumns
bucket_columns r = record { row = r.row; name = r.name.items; made = r.made; mode = r.mode }

abbrev pub version_columns : StoredVersion → VersionColumns
version_columns r = record { row = r.row; bucket = r.bucket.items; key = r.key.items; number = r.number; id = r.id; moment = r.moment; marker = r.marker; tag = r.tag.items; kept = r.kept.items; size = r.size; bodies = r.bodies.items }

abbrev pub upload_columns : StoredUpload → UploadColumns
upload_columns r = record { row = r.row; bucket = r.bucket.items; key = r.key.items; id = r.id; moment = r.moment; kept = r.kept.items }

abbrev pub part_columns : StoredPart → PartColumns
part_columns r = record { row = r.row; upload = r.upload; part = r.part; digest = r.digest.items; moment = r.moment; size = r.size; bodies = r.bodies.items }

abbrev pub store_columns : StoreNumbers → StoreColumns
store_columns r = record { row = r.row; form = r.form; number = r.number }

-- ---- the tables with one row more, in the order of the rowids, or without one

abbrev pub with_bucket : BucketColumns → Tables → Tables
with_bucket x t = record t { buckets = insert_by bucket_row t.buckets x }

abbrev pub with_version : VersionColumns → Tables → Tables
with_version x t = record t { versions = insert_by version_row t.versions x }

abbrev pub with_upload : UploadColumns → Tables → Tables
with_upload x t = record t { uploads = insert_by upload_row t.uploads x }

abbrev pub with_part : PartColumns → Tables → Tables
with_part x t = record t { parts = insert_by part_row t.parts x }

abbrev pub with_store : StoreColumns → Tables → Tables
with_store x t = record t { store = insert_by store_row t.store x }

abbrev pub without_row : TableName → ℤ → Tables → Tables
without_row Buckets row t = record t { buckets = without_key bucket_row t.buckets row }
without_row Versions row t = record t { versions = without_key version_row t.versions row }
without_row Uploads row t = record t { uploads = without_key upload_row t.uploads row }
without_row Parts row t = record t { parts = without_key part_row t.parts row }
without_row Store row t = record t { store = without_key store_row t.store row }

-- what a change makes of the tables
abbrev pub changed_by : Change → Tables → Tables
changed_by (AddBucket b) t = with_bucket (bucket_columns b) t
changed_by (AddVersion v) t = with_version (version_columns v) t
changed_by (AddUpload u) t = with_upload (upload_columns u) t
changed_by (AddPart p) t = with_part (part_columns p) t
changed_by (AddStore s) t = with_store (store_columns s) t
changed_by (DropRow table row) t = without_row table row t

-- the tables after these changes, one after another
abbrev pub after_all : List Change → Tables → Tables
after_all changes t = fold (λ now change. changed_by change now) t changes
