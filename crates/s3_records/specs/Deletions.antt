-- Several deletions in one bucket, by one entry (Amazon S3 API Reference, DeleteObjects).
use Rattle.std.specs.Prelude.{ℕ, Bool, false, not, if◌then◌else◌, List, [], ◌∷◌, Option, None, is_some}
use Rattle.std.specs.List.{list_any}
use Rattle.std.specs.Str.{bytes_eq}
use Rattle.s3_names.specs.declared.ids.VersionId.{VersionId}
use Rattle.s3_versions.specs.declared.version.Versioning.{Versioning}
use Rattle.s3_versions.specs.declared.version.Versioning.TheVariants.{Unversioned, Enabled, Suspended}
use Rattle.s3_versions.specs.Rules.{after_change}
use Rattle.s3_deletions.specs.Deletions.{acts, change_named, marker_told}
use Rattle.s3_deletions.specs.declared.named.KeyDeletion.{KeyDeletion}
use Rattle.s3_deletions.specs.declared.named.NamedObject.{NamedObject}
use Rattle.s3_deletions.specs.declared.named.NamedObject.TheVariants.{Object, Fault}
use Rattle.s3_records.specs.Catalogue.{Keys, Bucket, Catalogue, versions_at, versions_of, versioning_of}
use Rattle.s3_records.specs.Changes.{KeyChanged, with_versions, changed}

-- the catalogue after one of them, by entry n at moment t
abbrev pub key_deleted : {B : Type 0} → Catalogue B → List ℕ → ℕ → ℕ → KeyDeletion → Catalogue B
key_deleted c name n t d =
    if acts n d.version (versions_of c name d.key) then changed c name (KeyChanged d.key (change_named n t d.version)) else c

abbrev pub deleted : {B : Type 0} → Catalogue B → List ℕ → ℕ → ℕ → NamedObject → Catalogue B
deleted c name n t (Object d) = key_deleted c name n t d
deleted c name n t (Fault fault) = c

-- after all of them, in their order
abbrev pub all_deleted : {B : Type 0} → Catalogue B → List ℕ → ℕ → ℕ → List NamedObject → Catalogue B
all_deleted c name n t [] = c
all_deleted c name n t (object ∷ objects) = all_deleted (deleted c name n t object) name n t objects

-- the id of the delete marker that one of them makes, or that is gone by it
abbrev pub marker_of : {B : Type 0} → Catalogue B → List ℕ → ℕ → NamedObject → Option VersionId
marker_of c name n (Object d) = marker_told (versioning_of c name) n d.version (versions_of c name d.key)
marker_of c name n (Fault fault) = None

-- the same of each, as those before it leave the catalogue
abbrev pub markers_of : {B : Type 0} → Catalogue B → List ℕ → ℕ → ℕ → List NamedObject → List (Option VersionId)
markers_of c name n t [] = []
markers_of c name n t (object ∷ objects) = marker_of c name n object ∷ markers_of (deleted c name n t object) name n t objects

-- ---- the same in the keys of one bucket, which has this versioning

-- the keys after one of them
abbrev pub key_deleted_in : {B : Type 0} → Versioning → ℕ → ℕ → Keys B → KeyDeletion → Keys B
key_deleted_in b n t keys d =
    if acts n d.version (versions_at keys d.key)
    then with_versions keys d.key (after_change b (change_named n t d.version) (versions_at keys d.key)) else keys

abbrev pub deleted_in : {B : Type 0} → Versioning → ℕ → ℕ → Keys B → NamedObject → Keys B
deleted_in b n t keys (Object d) = key_deleted_in b n t keys d
deleted_in b n t keys (Fault fault) = keys

-- after all of them, in their order
abbrev pub all_deleted_in : {B : Type 0} → Versioning → ℕ → ℕ → Keys B → List NamedObject → Keys B
all_deleted_in b n t keys [] = keys
all_deleted_in b n t keys (object ∷ objects) = all_deleted_in b n t (deleted_in b n t keys object) objects

-- the bucket after all of them, by entry n at moment t
abbrev pub bucket_deleted : {B : Type 0} → ℕ → ℕ → List NamedObject → Bucket B → Bucket B
bucket_deleted n t objects b = record b { keys = all_deleted_in b.versioning n t b.keys objects }

-- the ids of the delete markers
abbrev pub marker_in : {B : Type 0} → Versioning → ℕ → Keys B → NamedObject → Option VersionId
marker_in b n keys (Object d) = marker_told b n d.version (versions_at keys d.key)
marker_in b n keys (Fault fault) = None

abbrev pub markers_in : {B : Type 0} → Versioning → ℕ → ℕ → Keys B → List NamedObject → List (Option VersionId)
markers_in b n t keys [] = []
markers_in b n t keys (object ∷ objects) = marker_in b n keys object ∷ markers_in b n t (deleted_in b n t keys object) objects

-- a key is that of an object
abbrev pub is_key_of : List ℕ → NamedObject → Bool
is_key_of key (Object d) = bytes_eq d.key key
is_key_of key (Fault fault) = false

-- or of one of several
abbrev pub is_key_of_any : List ℕ → List NamedObject → Bool
is_key_of_any key objects = list_any (is_key_of key) objects

-- an object names a key and no version
abbrev pub names_no_version : NamedObject → Bool
names_no_version (Object d) = not (is_some d.version)
names_no_version (Fault fault) = false

-- its deletion may make a delete marker, for which there has to be room
abbrev pub may_mark : Versioning → NamedObject → Bool
may_mark Unversioned object = false
may_mark Enabled object = names_no_version object
may_mark Suspended object = names_no_version object
