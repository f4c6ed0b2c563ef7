-- Which records a server may go on with, so that whatever is done from there on keeps the rules of versions and of uploads
-- (`docs/PROTOCOL.md`, "Versions" and "Uploads").
use Rattle.std.specs.Prelude.{◌≡◌, ◌<◌, ℕ, false, IsTrue, List, [], is_some}
use Rattle.s3_names.specs.declared.ids.VersionId.TheVariants.{Null}
use Rattle.s3_versions.specs.declared.version.Versioning.TheVariants.{Unversioned}
use Rattle.s3_versions.specs.Rules.{without}
use Rattle.s3_uploads.specs.Parts.{rises, numbers_of}
use Rattle.s3_records.specs.Catalogue.{Catalogue, has_bucket, versions_of, versioning_of}
use Rattle.s3_records.specs.Changes.{BucketAdded, changed}
use Rattle.s3_records.specs.Laws.{AreCatalogued, AreFilled}
use Rattle.s3_records.specs.OpenUploads.{upload_at, parts_at}
use Rattle.s3_records.specs.Places.{AreBelow}

-- a number is above the ids of all uploads that are open
abbrev pub UploadsAreBelow : {B : Type 0} → ℕ → Catalogue B → Type 0
UploadsAreBelow n c = (name key : List ℕ) (id : ℕ) → IsTrue (is_some (upload_at c name key id)) → id < n

-- the numbers of the parts of each upload rise
abbrev pub PartsRise : {B : Type 0} → Catalogue B → Type 0
PartsRise c = (name key : List ℕ) (id : ℕ) → IsTrue (rises (numbers_of (parts_at c name key id)))

-- in a bucket whose versioning was never set no version has another id than `null`
abbrev pub UnversionedAreNull : {B : Type 0} → Catalogue B → Type 0
UnversionedAreNull c = (name key : List ℕ) → versioning_of c name ≡ Unversioned → without Null (versions_of c name key) ≡ []

-- A catalogue is sound for entries from number n on: n is above the numbers of all versions and above the ids of all uploads that
-- are open; each key's versions are in their order, and are `null` where versioning was never set; the numbers of each upload's
-- parts rise; and no key is there that has nothing.
pub record IsSoundCatalogue {B : Type 0} (c : Catalogue B) (n : ℕ) : Type 0 where
  pub versions : AreBelow n c
  pub uploads : UploadsAreBelow n c
  pub ordered : AreCatalogued c
  pub null : UnversionedAreNull c
  pub parts : PartsRise c
  pub filled : AreFilled c

-- it is so with one bucket more
abbrev pub NewBucketsStaySound : Type 0 → Type 0
NewBucketsStaySound B =
    (c : Catalogue B) (name : List ℕ) (t n : ℕ)
    → has_bucket c name ≡ false → IsSoundCatalogue c n → IsSoundCatalogue (changed c name (BucketAdded t)) n
