-- What users rely on, of all lists of versions and all puts and deletes (Amazon S3 User Guide, "Using
-- versioning in S3 buckets").
use Rattle.std.specs.Prelude.{◌≡◌, ◌<◌, ◌≤◌, ◌+◌, ◌≢◌, ℕ, true, IsTrue, List, length, filter, find, sum_by, Option, Some, None, IfSome, Ok, Err, unwrap_or, option_map}
use Rattle.s3_terms.specs.declared.code.Code.TheVariants.{NoSuchKey}
use Rattle.s3_names.specs.declared.ids.VersionId.{VersionId}
use Rattle.s3_names.specs.declared.ids.VersionId.TheVariants.{Null, Numbered}
use Rattle.s3_versions.specs.declared.version.Content.TheVariants.{DeleteMarker, Stored}
use Rattle.s3_versions.specs.declared.version.Data.{Data}
use Rattle.s3_versions.specs.declared.version.Version.{Version}
use Rattle.s3_versions.specs.declared.version.Versioning.{Versioning}
use Rattle.s3_versions.specs.declared.version.Versioning.TheVariants.{Unversioned, Enabled, Suspended}
use Rattle.s3_versions.specs.Rules.{id_of, is_under, current, asked_for, pick, without, made, new_id, KeyChange, VersionPut, KeyDeleted, VersionDropped, after_delete, after_change, are_versions, is_new_number}

-- at most one version has an id
abbrev pub OneUnderEachId : Type 0 → Type 0
OneUnderEachId B =
    (vs : List (Version B)) (id : VersionId) → IsTrue (are_versions vs) → length (filter (is_under id) vs) ≤ 1

-- a version is under its own id, and under no other
abbrev pub IdsAreTold : Type 0 → Type 0
IdsAreTold B =
    ((v : Version B) → IsTrue (is_under (id_of v) v)) × ((id : VersionId) (v : Version B) → IsTrue (is_under id v) → id_of v ≡ id)

-- the number of the entry that makes a change, unless a version is named
abbrev pub number_of : {B : Type 0} → KeyChange B → Option ℕ
number_of (VersionPut n t stored) = Some n
number_of (KeyDeleted n t) = Some n
number_of (VersionDropped id) = None

-- what a change leaves are versions of one key again, if its number is above those of the versions there
abbrev pub ChangesLeaveVersions : Type 0 → Type 0
ChangesLeaveVersions B =
    (b : Versioning) (what : KeyChange B) (vs : List (Version B))
    → IsTrue (are_versions vs) → IfSome (number_of what) (λ n. IsTrue (is_new_number n vs))
    → IsTrue (are_versions (after_change b what vs))

-- a number above those of a key's versions and that of a change is above those of the versions after it
abbrev pub NumbersStayNew : Type 0 → Type 0
NumbersStayNew B =
    (m : ℕ) (b : Versioning) (what : KeyChange B) (vs : List (Version B))
    → IsTrue (is_new_number m vs) → IfSome (number_of what) (λ n. n < m) → IsTrue (is_new_number m (after_change b what vs))

-- and so is every later one
abbrev pub LaterIsNew : Type 0 → Type 0
LaterIsNew B = (n m : ℕ) (vs : List (Version B)) → n ≤ m → IsTrue (is_new_number n vs) → IsTrue (is_new_number m vs)

-- what was put is current, and a read that names no version gets it
abbrev pub PutsAreCurrent : Type 0 → Type 0
PutsAreCurrent B =
    (b : Versioning) (n t : ℕ) (stored : Data B) (vs : List (Version B))
    → (current (after_change b (VersionPut n t stored) vs) ≡ Some (made b n t (Stored stored)))
    × (pick None (after_change b (VersionPut n t stored) vs) ≡ Ok (made b n t (Stored stored), stored))

-- after a delete that makes a marker, a read that names no version is told of it
abbrev pub MarkersHide : Type 0 → Type 0
MarkersHide B =
    (n t : ℕ) (vs : List (Version B))
    → (pick None (after_delete Enabled n t vs) ≡ Err (record { code = NoSuchKey; is_delete_marker = true }))
    × (pick None (after_delete Suspended n t vs) ≡ Err (record { code = NoSuchKey; is_delete_marker = true }))

-- where versioning is enabled, a put and a delete leave what is under each id but the new one
abbrev pub EnabledTakesNothing : Type 0 → Type 0
EnabledTakesNothing B =
    (n t : ℕ) (stored : Data B) (vs : List (Version B)) (id : VersionId) → id ≢ Numbered n
    → (asked_for (Some id) (after_change Enabled (VersionPut n t stored) vs) ≡ asked_for (Some id) vs)
    × (asked_for (Some id) (after_delete Enabled n t vs) ≡ asked_for (Some id) vs)

-- elsewhere they leave what is under each id but `null`
abbrev pub OnlyNullGoes : Type 0 → Type 0
OnlyNullGoes B =
    (b : Versioning) (n t : ℕ) (stored : Data B) (vs : List (Version B)) (id : VersionId) → b ≢ Enabled → id ≢ Null
    → (asked_for (Some id) (after_change b (VersionPut n t stored) vs) ≡ asked_for (Some id) vs)
    × (asked_for (Some id) (after_delete b n t vs) ≡ asked_for (Some id) vs)

-- what stays and what goes are what was there, whatever is counted of a version
abbrev pub SumOfWhatGoes : Type 0 → Type 0
SumOfWhatGoes B =
    (f : Version B → ℕ) (vs : List (Version B)) (id : VersionId) → IsTrue (are_versions vs)
    → sum_by f (without id vs) + unwrap_or (option_map f (find (is_under id) vs)) 0 ≡ sum_by f vs

-- of some versions and others: under one id stands this, and under each other id what stood there
pub record OneIdChanges {B : Type 0} (id : VersionId) (now : Option (Version B)) (before after : List (Version B)) : Type 0 where
  pub here : asked_for (Some id) after ≡ now
  pub elsewhere : (other : VersionId) → other ≢ id → asked_for (Some other) after ≡ asked_for (Some other) before

-- the delete marker that a DELETE makes which names no version, where it makes one
abbrev pub marker_made : {B : Type 0} → Versioning → ℕ → ℕ → Option (Version B)
marker_made Unversioned n t = None
marker_made Enabled n t = Some (made Enabled n t DeleteMarker)
marker_made Suspended n t = Some (made Suspended n t DeleteMarker)

-- the id whose version a change makes, replaces or removes
abbrev pub id_changed : {B : Type 0} → Versioning → KeyChange B → VersionId
id_changed b (VersionPut n t stored) = new_id b n
id_changed b (KeyDeleted n t) = new_id b n
id_changed b (VersionDropped id) = id

-- what stands under it after the change, if something does
abbrev pub version_made : {B : Type 0} → Versioning → KeyChange B → Option (Version B)
version_made b (VersionPut n t stored) = Some (made b n t (Stored stored))
version_made b (KeyDeleted n t) = marker_made b n t
version_made b (VersionDropped id) = None

-- that is all that a change does
abbrev pub ChangesAreUnderOneId : Type 0 → Type 0
ChangesAreUnderOneId B =
    (b : Versioning) (what : KeyChange B) (vs : List (Version B))
    → OneIdChanges (id_changed b what) (version_made b what) vs (after_change b what vs)
