-- What tables mean as a catalogue, in which the numbers of its bodies stand for the bytes of a version or a part.
use Rattle.std.specs.Prelude.{ℕ, ℤ, pos, negsuc, unsigned_abs, if◌then◌else◌, List, map as each, filter}
use Rattle.std.specs.FinMap as map
use Rattle.std.specs.Ordering.{int_eq, nat_cmp}
use Rattle.sqlite_keyed.specs.Lists.{sort_by}
use Rattle.s3_text.specs.Order.{byte_order}
use Rattle.s3_versions.specs.declared.version.Content.{Content}
use Rattle.s3_versions.specs.declared.version.Content.TheVariants.{DeleteMarker, Stored}
use Rattle.s3_versions.specs.declared.version.Data.{Data}
use Rattle.s3_versions.specs.declared.version.Version.{Version}
use Rattle.s3_uploads.specs.declared.part.Part.{Part}
use Rattle.s3_uploads.specs.declared.upload.Upload.{Upload}
use Rattle.s3_uploads.specs.Parts.{PartList}
use Rattle.s3_records.specs.Catalogue.{Keys, KeyUploads, Uploads, Bucket, Catalogue}
use Rattle.s3_rows.specs.Columns.{BucketColumns, VersionColumns, UploadColumns, PartColumns, Tables}
use Rattle.s3_rows.specs.Encoding.{Encoding}
use Rattle.s3_rows.specs.Finding.{is_in, is_at, newest_first, is_upload_in, is_upload_to, is_sent_to}
use Rattle.std.specs.declared.cmp.Ordering.{Ordering}

-- the map of what stands for each of several rows under its key; where two rows have one key, the first counts
abbrev pub collected : {X K V : Type 0} (R : K → K → Ordering) → (X → K) → (X → V) → List X → map.FinMap R V
collected R key value xs = map.from_entries (each (λ x. (key x, value x)) xs)

module _ (e : Encoding) where
  -- what a put stored
  abbrev pub data_of : VersionColumns → Data (List ℕ)
  data_of v =
      record {
        tag = v.tag;
        size = unsigned_abs v.size;
        content_type = e.content_type_in v.kept;
        metadata = e.metadata_in v.kept;
        body = e.numbers_in v.bodies;
      }

  -- a delete marker where the column says so, else what was stored
  abbrev pub content_of : VersionColumns → Content (List ℕ)
  content_of v = if int_eq v.marker (pos 1) then DeleteMarker else Stored (data_of v)

  -- a version, whose id is `null` where the column of the id is -1
  abbrev pub version_of : VersionColumns → Version (List ℕ)
  version_of v =
      record {
        moment = unsigned_abs v.moment;
        content = content_of v;
        is_null = int_eq v.id (negsuc 0);
        number = unsigned_abs v.number;
      }

  -- the rows of the versions under a key, newest first
  abbrev pub rows_at : List VersionColumns → List ℕ → List ℕ → List VersionColumns
  rows_at vs bucket key = sort_by newest_first (filter (is_at bucket key) vs)

  -- the versions under a key, newest first
  unfoldable pub versions_under : List VersionColumns → List ℕ → List ℕ → List (Version (List ℕ))
  versions_under vs bucket key = each version_of (rows_at vs bucket key)

  -- the keys of a bucket
  unfoldable pub keys_in : List VersionColumns → List ℕ → Keys (List ℕ)
  keys_in vs bucket = collected byte_order (λ v. v.key) (λ v. versions_under vs bucket v.key) (filter (is_in bucket) vs)

  -- a part
  abbrev pub part_of : PartColumns → Part (List ℕ)
  part_of p = record { digest = p.digest; moment = unsigned_abs p.moment; size = unsigned_abs p.size; body = e.numbers_in p.bodies }

  -- the parts that were sent to the upload of a row, by number
  unfoldable pub parts_of : List PartColumns → ℤ → PartList (List ℕ)
  parts_of ps upload = map.entries (collected nat_cmp (λ p. unsigned_abs p.part) part_of (filter (is_sent_to upload) ps))

  -- an upload
  abbrev pub upload_of : List PartColumns → UploadColumns → Upload (List ℕ)
  upload_of ps u =
      record {
        moment = unsigned_abs u.moment;
        content_type = e.content_type_in u.kept;
        metadata = e.metadata_in u.kept;
        parts = parts_of ps u.row;
      }

  -- the uploads to a key, by id
  unfoldable pub uploads_to : List UploadColumns → List PartColumns → List ℕ → List ℕ → KeyUploads (List ℕ)
  uploads_to us ps bucket key = collected nat_cmp (λ u. unsigned_abs u.id) (upload_of ps) (filter (is_upload_to bucket key) us)

  -- the uploads to the keys of a bucket
  unfoldable pub uploads_in : List UploadColumns → List PartColumns → List ℕ → Uploads (List ℕ)
  uploads_in us ps bucket = collected byte_order (λ u. u.key) (λ u. uploads_to us ps bucket u.key) (filter (is_upload_in bucket) us)

  -- a bucket
  abbrev pub bucket_of : Tables → BucketColumns → Bucket (List ℕ)
  bucket_of t b =
      record {
        made = unsigned_abs b.made;
        versioning = e.versioning_in b.mode;
        keys = keys_in t.versions b.name;
        uploads = uploads_in t.uploads t.parts b.name;
      }

  -- the catalogue that tables are
  unfoldable pub catalogue_of : Tables → Catalogue (List ℕ)
  catalogue_of t = collected byte_order (λ b. b.name) (bucket_of t) t.buckets
