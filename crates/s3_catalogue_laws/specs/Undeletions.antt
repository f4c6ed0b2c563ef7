-- What comes back where a version is deleted by its id (Amazon S3 User Guide, "Deleting object versions from a versioning-enabled
-- bucket").
use Rattle.std.specs.Prelude.{◌≡◌, ◌≢◌, ℕ, true, false, List, [], ◌∷◌, Some, None, Ok, Err}
use Rattle.std.specs.List.{Contains}
use Rattle.s3_terms.specs.declared.code.Code.TheVariants.{NoSuchKey}
use Rattle.s3_names.specs.declared.ids.VersionId.{VersionId}
use Rattle.s3_versions.specs.declared.version.Data.{Data}
use Rattle.s3_versions.specs.declared.version.Version.{Version}
use Rattle.s3_versions.specs.Rules.{id_of, stored, asked_for, pick, VersionDropped}
use Rattle.s3_records.specs.Catalogue.{Catalogue, versions_of}
use Rattle.s3_records.specs.Changes.{KeyChanged, changed}
use Rattle.s3_records.specs.Rows.{key_rows, version_rows}
use Rattle.s3_records.specs.declared.rows.KeyRow.{KeyRow}
use Rattle.s3_records.specs.declared.rows.VersionRow.{VersionRow}
use Rattle.s3_catalogue_laws.specs.Orderly.{IsOrderly}

-- the catalogue after the version of an id under a key was deleted
abbrev pub after_drop : {B : Type 0} → Catalogue B → List ℕ → List ℕ → VersionId → Catalogue B
after_drop c name key id = changed c name (KeyChanged key (VersionDropped id))

-- a version is what a read of a key without an id finds: the versions under the key are it and these; where it is no delete marker
-- the read gives it, and where it is one the read is refused as if the key weren't there
pub record IsFound {B : Type 0} (c : Catalogue B) (name key : List ℕ) (w : Version B) (others : List (Version B)) : Type 0 where
  pub versions : versions_of c name key ≡ w ∷ others
  pub current : asked_for None (versions_of c name key) ≡ Some w
  pub read : (kept : Data B) → stored w ≡ Some kept → pick None (versions_of c name key) ≡ Ok (w, kept)
  pub hidden : stored w ≡ None → pick None (versions_of c name key) ≡ Err (record { code = NoSuchKey; is_delete_marker = true })

-- where the current version of a key is deleted by its id, the one behind it is found
abbrev pub DropsUncover : Type 0 → Type 0
DropsUncover B =
    (c : Catalogue B) (name key : List ℕ) (v w : Version B) (others : List (Version B)) → IsOrderly c
    → versions_of c name key ≡ v ∷ w ∷ others → IsFound (after_drop c name key (id_of v)) name key w others

-- and where another version of the key is deleted by its id, the current one stays
abbrev pub OtherDropsKeepCurrent : Type 0 → Type 0
OtherDropsKeepCurrent B =
    (c : Catalogue B) (name key : List ℕ) (id : VersionId) (v : Version B) (others : List (Version B)) → versions_of c name key ≡ v ∷ others
    → id ≢ id_of v → asked_for None (versions_of (after_drop c name key id) name key) ≡ Some v

-- a key isn't there: it has no version, a read of it finds none, and no list tells it
pub record IsAbsent {B : Type 0} (c : Catalogue B) (name key : List ℕ) : Type 0 where
  pub versions : versions_of c name key ≡ []
  pub read : pick None (versions_of c name key) ≡ Err (record { code = NoSuchKey; is_delete_marker = false })
  pub keys : (row : KeyRow) → Contains (key_rows c name) row → row.key ≢ key
  pub rows : (row : VersionRow) → Contains (version_rows c name) row → row.key ≢ key

-- it is so where its only version was deleted
abbrev pub LastDropsEmpty : Type 0 → Type 0
LastDropsEmpty B =
    (c : Catalogue B) (name key : List ℕ) (v : Version B) → IsOrderly c
    → versions_of c name key ≡ v ∷ [] → IsAbsent (after_drop c name key (id_of v)) name key
