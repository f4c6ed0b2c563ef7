-- What queries tell is what the catalogue has.
use Rattle.std.specs.Prelude.{◌≡◌, ℕ, pos, unsigned_abs, List, map as each, filter, find, Some, None, option_map, slice_get}
use Rattle.std.specs.declared.cmp.Ordering.{Ordering}
use Rattle.sqlite_keyed.specs.Lists.{sort_by}
use Rattle.s3_text.specs.Order.{byte_order}
use Rattle.s3_names.specs.declared.ids.VersionId.{VersionId}
use Rattle.s3_versions.specs.Rules.{asked_for}
use Rattle.s3_uploads.specs.declared.part.Part.{Part}
use Rattle.s3_records.specs.Catalogue.{facts_in, listed_buckets, versions_of}
use Rattle.s3_records.specs.OpenUploads.{upload_at, parts_at}
use Rattle.s3_records.specs.declared.records.BucketFacts.{BucketFacts}
use Rattle.s3_records.specs.declared.records.ListedBucket.{ListedBucket}
use Rattle.s3_rows.specs.Columns.{BucketColumns, UploadColumns, PartColumns, Tables}
use Rattle.s3_rows.specs.Encoding.{Encoding}
use Rattle.s3_rows.specs.Finding.{is_named, is_at, id_column, is_version, newest_first, is_upload, is_sent_to, by_part}
use Rattle.s3_rows.specs.Meaning.{version_of, part_of, upload_of, catalogue_of}
use Rattle.s3_rows.specs.Soundness.{AreSound}

-- what a row tells of a bucket
abbrev pub row_facts : Encoding → BucketColumns → BucketFacts
row_facts e b = record { made = unsigned_abs b.made; versioning = e.versioning_in b.mode }

abbrev pub row_listed : BucketColumns → ListedBucket
row_listed b = record { name = b.name; made = unsigned_abs b.made }

-- the buckets by name
abbrev pub by_name : BucketColumns → BucketColumns → Ordering
by_name a b = byte_order a.name b.name

-- what is told of a bucket is what its row tells
abbrev pub RowsTellFacts : Type 0
RowsTellFacts = (e : Encoding) (t : Tables) (name : List ℕ) → facts_in (catalogue_of e t) name ≡ option_map (row_facts e) (find (is_named name) t.buckets)

-- the list of all buckets is that of their rows by name
abbrev pub RowsListBuckets : Type 0
RowsListBuckets = (e : Encoding) (t : Tables) → AreSound t → listed_buckets (catalogue_of e t) ≡ each row_listed (sort_by by_name t.buckets)

-- the versions under a key are those of its rows, newest first
abbrev pub RowsTellVersions : Type 0
RowsTellVersions =
    (e : Encoding) (t : Tables) (bucket key : List ℕ) → AreSound t
    → versions_of (catalogue_of e t) bucket key ≡ each (version_of e) (sort_by newest_first (filter (is_at bucket key) t.versions))

-- the current version is that of the newest row
abbrev pub RowsTellCurrent : Type 0
RowsTellCurrent =
    (e : Encoding) (t : Tables) (bucket key : List ℕ) → AreSound t
    → asked_for None (versions_of (catalogue_of e t) bucket key)
    ≡ option_map (version_of e) (slice_get (sort_by newest_first (filter (is_at bucket key) t.versions)) 0)

-- the version of an id is that of the row with the id
abbrev pub RowsTellVersion : Type 0
RowsTellVersion =
    (e : Encoding) (t : Tables) (bucket key : List ℕ) (id : VersionId) → AreSound t
    → asked_for (Some id) (versions_of (catalogue_of e t) bucket key) ≡ option_map (version_of e) (find (is_version bucket key (id_column id)) t.versions)

-- the upload at a place is that of its row
abbrev pub RowsTellUpload : Type 0
RowsTellUpload =
    (e : Encoding) (t : Tables) (bucket key : List ℕ) (id : ℕ) → AreSound t
    → upload_at (catalogue_of e t) bucket key id ≡ option_map (upload_of e t.parts) (find (is_upload bucket key (pos id)) t.uploads)

-- a part with its number
abbrev pub numbered_part : Encoding → PartColumns → ℕ × Part (List ℕ)
numbered_part e p = (unsigned_abs p.part, part_of e p)

-- the parts of an upload are those of its rows, by number
abbrev pub RowsTellParts : Type 0
RowsTellParts =
    (e : Encoding) (t : Tables) (bucket key : List ℕ) (id : ℕ) (u : UploadColumns) → AreSound t → find (is_upload bucket key (pos id)) t.uploads ≡ Some u
    → parts_at (catalogue_of e t) bucket key id ≡ each (numbered_part e) (sort_by by_part (filter (is_sent_to u.row) t.parts))
