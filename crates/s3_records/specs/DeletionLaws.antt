-- What several deletions of one entry keep, and what they leave.
use Rattle.std.specs.Prelude.{◌≡◌, ◌≢◌, ◌⊎◌, ◌<◌, ℕ, ◌+◌, IsTrue, List, [], Option, Some, None}
use Rattle.std.specs.List.{list_all, Contains}
use Rattle.s3_names.specs.declared.ids.VersionId.{VersionId}
use Rattle.s3_names.specs.declared.ids.VersionId.TheVariants.{Null}
use Rattle.s3_versions.specs.declared.version.Version.{Version}
use Rattle.s3_versions.specs.declared.version.Versioning.{Versioning}
use Rattle.s3_versions.specs.declared.version.Versioning.TheVariants.{Unversioned}
use Rattle.s3_versions.specs.Rules.{new_id, asked_for}
use Rattle.s3_versions.specs.Laws.{marker_made}
use Rattle.s3_deletions.specs.declared.named.NamedObject.{NamedObject}
use Rattle.s3_deletions.specs.declared.named.NamedObject.TheVariants.{Object}
use Rattle.s3_records.specs.Catalogue.{Catalogue, has_bucket, facts_in, versions_of, versioning_of}
use Rattle.s3_records.specs.Deletions.{all_deleted}
use Rattle.s3_records.specs.Laws.{AreCatalogued, AreFilled}
use Rattle.s3_records.specs.Places.{version_at, SameUploads, AreBelow}

-- one of the objects names this version of a key, or the key and no version
abbrev pub Names : List NamedObject → List ℕ → Option VersionId → Type 0
Names objects key version = Contains objects (Object (record { key = key; version = version }))

-- a number that is above those of all versions, and above that of the entry, is above them after it
abbrev pub DeletionsStayBelow : Type 0 → Type 0
DeletionsStayBelow B =
    (m : ℕ) (c : Catalogue B) (name : List ℕ) (n t : ℕ) (objects : List NamedObject)
    → AreBelow m c → n < m → AreBelow m (all_deleted c name n t objects)

-- so where that of the entry is above those of all versions, the next one is above them after it
abbrev pub NextStaysBelow : Type 0 → Type 0
NextStaysBelow B =
    (c : Catalogue B) (name : List ℕ) (n t : ℕ) (objects : List NamedObject)
    → AreBelow n c → AreBelow (n + 1) (all_deleted c name n t objects)

-- then under each key stand versions of one key, too
abbrev pub DeletionsStayInOrder : Type 0 → Type 0
DeletionsStayInOrder B =
    (c : Catalogue B) (name : List ℕ) (n t : ℕ) (objects : List NamedObject)
    → AreCatalogued c → AreBelow n c → AreCatalogued (all_deleted c name n t objects)

-- and no key is there without
abbrev pub DeletionsStayFilled : Type 0 → Type 0
DeletionsStayFilled B =
    (c : Catalogue B) (name : List ℕ) (n t : ℕ) (objects : List NamedObject) → AreFilled c → AreFilled (all_deleted c name n t objects)

-- entry n makes something of this id under a key: the key is named without a version, and this is the id of what the entry makes
abbrev pub MakesAt : Versioning → ℕ → List NamedObject → List ℕ → VersionId → Type 0
MakesAt b n objects key id = Names objects key None × (id ≡ new_id b n)

-- what stands at a place now is what stood there, or nothing, or the delete marker of the entry, if it makes one there
abbrev pub IsLeft : {B : Type 0} → Versioning → ℕ → ℕ → List NamedObject → List ℕ → VersionId → Option (Version B) → Option (Version B) → Type 0
IsLeft b n t objects key id before now =
    (now ≡ before) ⊎ ((now ≡ None) ⊎ (MakesAt b n objects key id × (now ≡ marker_made b n t)))

-- the places after the deletions of entry n in a bucket: every other bucket, every key that isn't named, and every id under a
-- named key that isn't named, and isn't that of what the entry makes there, has what it had
pub record PlacesAreLeft {B : Type 0} (c d : Catalogue B) (name : List ℕ) (n t : ℕ) (objects : List NamedObject) : Type 0 where
  pub other_buckets : (bucket key : List ℕ) → bucket ≢ name → versions_of d bucket key ≡ versions_of c bucket key
  pub other_keys : (key : List ℕ) → ((version : Option VersionId) → ¬ Names objects key version) → versions_of d name key ≡ versions_of c name key
  pub other_ids : (key : List ℕ) (id : VersionId) → ¬ Names objects key (Some id) → ¬ MakesAt (versioning_of c name) n objects key id
      → version_at d name key id ≡ version_at c name key id
  pub each : (key : List ℕ) (id : VersionId)
      → IsLeft (versioning_of c name) n t objects key id (version_at c name key id) (version_at d name key id)

abbrev pub DeletionsAreByPlace : Type 0 → Type 0
DeletionsAreByPlace B =
    (c : Catalogue B) (name : List ℕ) (n t : ℕ) (objects : List NamedObject) → IsTrue (has_bucket c name)
    → PlacesAreLeft c (all_deleted c name n t objects) name n t objects

-- every upload stays, and every bucket with its moment and its versioning
pub record RestIsLeft {B : Type 0} (c d : Catalogue B) : Type 0 where
  pub uploads : SameUploads c d
  pub there : (bucket : List ℕ) → has_bucket d bucket ≡ has_bucket c bucket
  pub facts : (bucket : List ℕ) → facts_in d bucket ≡ facts_in c bucket
  pub versioning : (bucket : List ℕ) → versioning_of d bucket ≡ versioning_of c bucket

abbrev pub DeletionsKeepTheRest : Type 0 → Type 0
DeletionsKeepTheRest B =
    (c : Catalogue B) (name : List ℕ) (n t : ℕ) (objects : List NamedObject) → IsTrue (has_bucket c name)
    → RestIsLeft c (all_deleted c name n t objects)

-- a key is named without a version, and not its version `null`
abbrev pub IsDeleted : List NamedObject → List ℕ → Type 0
IsDeleted objects key = Names objects key None × ¬ Names objects key (Some Null)

-- what is named is gone: the version of each id, unless the entry makes a delete marker of that id, and each key that is named
-- without one. It has the delete marker of a DeleteObject, which is the current version, and in an unversioned bucket nothing.
pub record NamedIsGone {B : Type 0} (c d : Catalogue B) (name : List ℕ) (n t : ℕ) (objects : List NamedObject) : Type 0 where
  pub ids : (key : List ℕ) (id : VersionId) → Names objects key (Some id)
      → (MakesAt (versioning_of c name) n objects key id → versioning_of c name ≡ Unversioned) → version_at d name key id ≡ None
  pub keys : (key : List ℕ) → IsDeleted objects key → version_at d name key (new_id (versioning_of c name) n) ≡ marker_made (versioning_of c name) n t
  pub hidden : (key : List ℕ) → IsDeleted objects key → versioning_of c name ≢ Unversioned
      → asked_for None (versions_of d name key) ≡ marker_made (versioning_of c name) n t
  pub empty : (key : List ℕ) → Names objects key None → versioning_of c name ≡ Unversioned
      → IsTrue (list_all (λ v. v.is_null) (versions_of c name key)) → versions_of d name key ≡ []

abbrev pub DeletionsDelete : Type 0 → Type 0
DeletionsDelete B =
    (c : Catalogue B) (name : List ℕ) (n t : ℕ) (objects : List NamedObject) → IsTrue (has_bucket c name) → AreBelow n c
    → NamedIsGone c (all_deleted c name n t objects) name n t objects
