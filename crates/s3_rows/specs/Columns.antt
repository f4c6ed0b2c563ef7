-- The tables in which a catalogue is kept: the columns of their rows, by what SQLite stores in them, integers and blobs. `row`
-- is the rowid.
use Rattle.std.specs.Prelude.{ℕ, ℤ, List, []}

-- a bucket: when it was made, and its versioning as a number
pub record BucketColumns : Type 0 where
  pub row : ℤ
  pub name : List ℕ
  pub made : ℤ
  pub mode : ℤ

-- a version: under which key of which bucket it stands, the number of the entry that made it, the id under which it is asked
-- for, when it was made, whether it is a delete marker, its tag, its media type and metadata, how many bytes it has, and the
-- numbers of the bodies in which these are
pub record VersionColumns : Type 0 where
  pub row : ℤ
  pub bucket : List ℕ
  pub key : List ℕ
  pub number : ℤ
  pub id : ℤ
  pub moment : ℤ
  pub marker : ℤ
  pub tag : List ℕ
  pub kept : List ℕ
  pub size : ℤ
  pub bodies : List ℕ

-- an open upload: to which key of which bucket, its id, when it was begun, and the media type and metadata that it was begun with
pub record UploadColumns : Type 0 where
  pub row : ℤ
  pub bucket : List ℕ
  pub key : List ℕ
  pub id : ℤ
  pub moment : ℤ
  pub kept : List ℕ

-- a part: the row of its upload, its number, its digest, when it was put, how many bytes it has, and the bodies in which these are
pub record PartColumns : Type 0 where
  pub row : ℤ
  pub upload : ℤ
  pub part : ℤ
  pub digest : List ℕ
  pub moment : ℤ
  pub size : ℤ
  pub bodies : List ℕ

-- the store itself: the form of its tables, and the number of the next entry
pub record StoreColumns : Type 0 where
  pub row : ℤ
  pub form : ℤ
  pub number : ℤ

-- all tables, each in the order of its rowids
pub record Tables : Type 0 where
  pub buckets : List BucketColumns
  pub versions : List VersionColumns
  pub uploads : List UploadColumns
  pub parts : List PartColumns
  pub store : List StoreColumns

-- with nothing in them
abbrev pub no_rows : Tables
no_rows = record { buckets = []; versions = []; uploads = []; parts = []; store = [] }
