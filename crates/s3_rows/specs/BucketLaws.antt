-- Rows of buckets that are put in and taken out are changes of a bucket.
use Rattle.std.specs.Prelude.{◌≡◌, ℕ, false, not, ◌&&◌, unsigned_abs, IsTrue, List, [], Some, option_map}
use Rattle.std.specs.FinMap as map
use Rattle.std.specs.List.{list_any}
use Rattle.sqlite_keyed.specs.Keyed.{has_key}
use Rattle.s3_versions.specs.declared.version.VersioningStatus.{VersioningStatus}
use Rattle.s3_versions.specs.declared.version.Versioning.TheVariants.{Unversioned}
use Rattle.s3_versions.specs.Rules.{versioning_set}
use Rattle.s3_records.specs.Catalogue.{Bucket, has_bucket, is_empty_bucket, opening}
use Rattle.s3_records.specs.Changes.{BucketAdded, BucketDropped, VersioningSet}
use Rattle.s3_rows.specs.Columns.{BucketColumns, Tables, no_rows}
use Rattle.s3_rows.specs.Encoding.{Encoding}
use Rattle.s3_rows.specs.Finding.{is_in, is_upload_in}
use Rattle.s3_rows.specs.Meaning.{catalogue_of}
use Rattle.s3_rows.specs.Soundness.{bucket_row, is_bucket_row, has_bucket_row, AreSound}
use Rattle.s3_rows.specs.TableChanges.{bucket_added, bucket_dropped, bucket_replaced}
use Rattle.s3_rows.specs.VersionLaws.{Makes}

-- to put in the row of an unversioned bucket, where there is none of its name, is to make the bucket
abbrev pub RowsAddBuckets : Type 0
RowsAddBuckets =
    (e : Encoding) (t : Tables) (row : BucketColumns) → AreSound t
    → IsTrue (is_bucket_row row) → has_key bucket_row t.buckets row.row ≡ false → has_bucket (catalogue_of e t) row.name ≡ false
    → e.versioning_in row.mode ≡ Unversioned
    → Makes e t (bucket_added row t) row.name (BucketAdded (unsigned_abs row.made))

-- to take out the row of a bucket in which nothing is is to drop the bucket
abbrev pub RowsDropBuckets : Type 0
RowsDropBuckets =
    (e : Encoding) (t : Tables) (name : List ℕ) → AreSound t
    → IsTrue (has_bucket (catalogue_of e t) name) → IsTrue (is_empty_bucket (catalogue_of e t) name)
    → Makes e t (bucket_dropped name t) name BucketDropped

-- to replace the row of a bucket by one that was made at the same moment is to set its versioning
abbrev pub RowsSetVersioning : Type 0
RowsSetVersioning =
    (e : Encoding) (t : Tables) (row : BucketColumns) (status : VersioningStatus) → AreSound t
    → IsTrue (is_bucket_row row) → has_key bucket_row (bucket_dropped row.name t).buckets row.row ≡ false
    → option_map (λ (b : Bucket (List ℕ)). b.made) (map.get (catalogue_of e t) row.name) ≡ Some (unsigned_abs row.made)
    → e.versioning_in row.mode ≡ versioning_set status
    → Makes e t (bucket_replaced row t) row.name (VersioningSet status)

-- a bucket is there where its row is, and it is empty where no row of a version and none of an upload stands in it
abbrev pub RowsTellBuckets : Type 0
RowsTellBuckets = (e : Encoding) (t : Tables) (name : List ℕ) → has_bucket (catalogue_of e t) name ≡ has_bucket_row t.buckets name

abbrev pub RowsTellEmptiness : Type 0
RowsTellEmptiness =
    (e : Encoding) (t : Tables) (name : List ℕ) → AreSound t
    → is_empty_bucket (catalogue_of e t) name ≡ (not (list_any (is_in name) t.versions) && not (list_any (is_upload_in name) t.uploads))

-- tables with nothing in them are sound, and are the catalogue without buckets
abbrev pub RowsOpen : Type 0
RowsOpen = (e : Encoding) → AreSound no_rows × (catalogue_of e no_rows ≡ opening [])
