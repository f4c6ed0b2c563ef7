-- Lists that begin at a place: they tell what stands there and behind it, and are an end of the whole list (Amazon S3 API
-- Reference, ListObjectsV2, ListObjectVersions and ListMultipartUploads).
use Rattle.std.specs.Prelude.{◌≡◌, ◌≢◌, ◌↔◌, ◌⊎◌, ◌<◌, ℕ, List, ◌∷◌, ◌++◌, Option, Some, None}
use Rattle.std.specs.List.{Contains}
use Rattle.std.specs.declared.cmp.Ordering.TheVariants.{Less}
use Rattle.s3_text.specs.Order.{byte_order}
use Rattle.s3_names.specs.declared.ids.VersionId.{VersionId}
use Rattle.s3_versions.specs.declared.version.Version.{Version}
use Rattle.s3_records.specs.Catalogue.{Catalogue}
use Rattle.s3_records.specs.OpenUploads.{upload_rows, uploads_from}
use Rattle.s3_records.specs.Places.{version_at}
use Rattle.s3_records.specs.Rows.{key_rows, keys_from, version_rows, versions_from}
use Rattle.s3_records.specs.declared.rows.KeyRow.{KeyRow}
use Rattle.s3_records.specs.declared.rows.Start.{Start}
use Rattle.s3_records.specs.declared.rows.Start.TheVariants.{First, From, Behind}
use Rattle.s3_records.specs.declared.rows.UploadRow.{UploadRow}
use Rattle.s3_records.specs.declared.rows.UploadStart.{UploadStart}
use Rattle.s3_records.specs.declared.rows.UploadStart.TheVariants as upload_start
use Rattle.s3_records.specs.declared.rows.VersionRow.{VersionRow}
use Rattle.s3_records.specs.declared.rows.VersionStart.{VersionStart}
use Rattle.s3_records.specs.declared.rows.VersionStart.TheVariants.{At, BehindVersion}
use Rattle.s3_catalogue_laws.specs.Orderly.{IsOrderly}

-- a key stands where a list begins, or behind that, in the order of bytes
abbrev pub StandsFrom : Start → List ℕ → Type 0
StandsFrom First key = Unit {0}
StandsFrom (From first) key = byte_order key first ≢ Less
StandsFrom (Behind last) key = byte_order last key ≡ Less

-- a list is the end of a whole one
abbrev pub IsEndOf : {X : Type 0} → List X → List X → Type 0
IsEndOf {X} whole rest = (front : List X) × (whole ≡ front ++ rest)

-- ---- keys

-- a list of keys from a place tells the keys that stand there or behind it, and no other
abbrev pub KeysStandFrom : Type 0 → Type 0
KeysStandFrom B =
    (c : Catalogue B) (name : List ℕ) (start : Start) (row : KeyRow)
    → Contains (keys_from c name start) row ↔ (Contains (key_rows c name) row × StandsFrom start row.key)

-- and is an end of the whole list
abbrev pub KeysAreEnds : Type 0 → Type 0
KeysAreEnds B = (c : Catalogue B) (name : List ℕ) (start : Start) → IsEndOf (key_rows c name) (keys_from c name start)

-- ---- versions

-- there are two versions, and the second is older than the first
abbrev pub IsOlder : {B : Type 0} → Option (Version B) → Option (Version B) → Type 0
IsOlder (Some v) (Some w) = w.number < v.number
IsOlder (Some v) None = ⊥
IsOlder None found = ⊥

-- a row stands behind the version of an id under a key: that of a higher key, and of this key that of an older version, where
-- there is one of the id
abbrev pub StandsBehind : {B : Type 0} → Catalogue B → List ℕ → List ℕ → VersionId → VersionRow → Type 0
StandsBehind c name key id row =
    (byte_order key row.key ≡ Less) ⊎ ((row.key ≡ key) × IsOlder (version_at c name key id) (version_at c name key row.id))

-- in the list of all versions each row stands behind those before it
abbrev pub VersionsAreOrdered : Type 0 → Type 0
VersionsAreOrdered B =
    (c : Catalogue B) (name : List ℕ) (front rest : List VersionRow) (row next : VersionRow) → IsOrderly c
    → version_rows c name ≡ front ++ row ∷ rest → Contains rest next → StandsBehind c name row.key row.id next

-- a list from a key on tells the versions of the keys that stand there or behind it, and no other
abbrev pub VersionsStandFrom : Type 0 → Type 0
VersionsStandFrom B =
    (c : Catalogue B) (name : List ℕ) (start : Start) (row : VersionRow)
    → Contains (versions_from c name (At start)) row ↔ (Contains (version_rows c name) row × StandsFrom start row.key)

-- one that goes on behind a version tells those that stand behind it, and no other
abbrev pub VersionsStandBehind : Type 0 → Type 0
VersionsStandBehind B =
    (c : Catalogue B) (name key : List ℕ) (id : VersionId) (row : VersionRow) → IsOrderly c
    → Contains (versions_from c name (BehindVersion key id)) row ↔ (Contains (version_rows c name) row × StandsBehind c name key id row)

-- and both are ends of the whole list
abbrev pub VersionsAreEnds : Type 0 → Type 0
VersionsAreEnds B = (c : Catalogue B) (name : List ℕ) (start : VersionStart) → IsEndOf (version_rows c name) (versions_from c name start)

-- ---- uploads

-- a row stands behind the upload of an id to a key: that to a higher key, and to this key that of a higher id
abbrev pub UploadStandsBehind : List ℕ → ℕ → UploadRow → Type 0
UploadStandsBehind key id row = (byte_order key row.key ≡ Less) ⊎ ((row.key ≡ key) × (id < row.id))

-- in the list of all uploads each row stands behind those before it
abbrev pub UploadsAreOrdered : Type 0 → Type 0
UploadsAreOrdered B =
    (c : Catalogue B) (name : List ℕ) (front rest : List UploadRow) (row next : UploadRow)
    → upload_rows c name ≡ front ++ row ∷ rest → Contains rest next → UploadStandsBehind row.key row.id next

-- a list from a key on tells the uploads to the keys that stand there or behind it, and no other
abbrev pub UploadsStandFrom : Type 0 → Type 0
UploadsStandFrom B =
    (c : Catalogue B) (name : List ℕ) (start : Start) (row : UploadRow)
    → Contains (uploads_from c name (upload_start.At start)) row ↔ (Contains (upload_rows c name) row × StandsFrom start row.key)

-- one that goes on behind an upload, whether that is there or not, tells those that stand behind it, and no other
abbrev pub UploadsStandBehind : Type 0 → Type 0
UploadsStandBehind B =
    (c : Catalogue B) (name key : List ℕ) (id : ℕ) (row : UploadRow)
    → Contains (uploads_from c name (upload_start.BehindUpload key id)) row ↔ (Contains (upload_rows c name) row × UploadStandsBehind key id row)

-- and both are ends of the whole list
abbrev pub UploadsAreEnds : Type 0 → Type 0
UploadsAreEnds B = (c : Catalogue B) (name : List ℕ) (start : UploadStart) → IsEndOf (upload_rows c name) (uploads_from c name start)
