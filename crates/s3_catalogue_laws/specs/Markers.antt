-- Delete markers: what they hide, and that it comes back where they are deleted (Amazon S3 User Guide, "Working with delete
-- markers").
use Rattle.std.specs.Prelude.{◌≡◌, ℕ, true, not, IsTrue, List, filter, Some, None, Err}
use Rattle.s3_terms.specs.declared.code.Code.TheVariants.{NoSuchKey, MethodNotAllowed}
use Rattle.s3_names.specs.declared.ids.VersionId.{VersionId}
use Rattle.s3_names.specs.declared.ids.VersionId.TheVariants.{Null, Numbered}
use Rattle.s3_versions.specs.declared.version.Version.{Version}
use Rattle.s3_versions.specs.declared.version.Versioning.TheVariants.{Enabled, Suspended}
use Rattle.s3_versions.specs.Rules.{pick, is_new_number, KeyDeleted}
use Rattle.s3_records.specs.Catalogue.{Catalogue, has_bucket, versions_of, versioning_of}
use Rattle.s3_records.specs.Changes.{KeyChanged, changed}
use Rattle.s3_catalogue_laws.specs.Undeletions.{after_drop}

-- the catalogue after a key was deleted without an id, by entry n at moment t
abbrev pub after_deletion : {B : Type 0} → Catalogue B → List ℕ → List ℕ → ℕ → ℕ → Catalogue B
after_deletion c name key n t = changed c name (KeyChanged key (KeyDeleted n t))

-- a delete marker of this id hides a key: a read without an id is refused as if the key weren't there, and one by the id as not
-- allowed, and both tell of it; and where it is deleted by its id these versions are there
pub record IsMarked {B : Type 0} (c : Catalogue B) (name key : List ℕ) (id : VersionId) (behind : List (Version B)) : Type 0 where
  pub hidden : pick None (versions_of c name key) ≡ Err (record { code = NoSuchKey; is_delete_marker = true })
  pub by_id : pick (Some id) (versions_of c name key) ≡ Err (record { code = MethodNotAllowed; is_delete_marker = true })
  pub undone : versions_of (after_drop c name key id) name key ≡ behind

-- where versioning is enabled the marker has the entry's number, and all versions come back
abbrev pub EnabledMarkersAreUndone : Type 0 → Type 0
EnabledMarkersAreUndone B =
    (c : Catalogue B) (name key : List ℕ) (n t : ℕ)
    → IsTrue (has_bucket c name) → versioning_of c name ≡ Enabled → IsTrue (is_new_number n (versions_of c name key))
    → IsMarked (after_deletion c name key n t) name key (Numbered n) (versions_of c name key)

-- where it is suspended the marker is `null`, and all versions but the one that was `null` come back
abbrev pub SuspendedMarkersAreUndone : Type 0 → Type 0
SuspendedMarkersAreUndone B =
    (c : Catalogue B) (name key : List ℕ) (n t : ℕ) → IsTrue (has_bucket c name) → versioning_of c name ≡ Suspended
    → IsMarked (after_deletion c name key n t) name key Null (filter (λ v. not v.is_null) (versions_of c name key))
