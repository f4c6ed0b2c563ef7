-- What a DeleteObjects does to the versions of the keys that it names (Amazon S3 API Reference, DeleteObjects): each is deleted
-- as DeleteObject does, in the order of the document. All are done by one entry, whose number is the id of the delete markers
-- that it makes, and that id is told once of a key: so of deletions that name one key and no version the first one counts, as
-- long as what it made stands, and none takes away the version of that id. `null` is such an id in no bucket: what is made under
-- it may be named by a later object, and goes.
use Rattle.std.specs.Prelude.{ℕ, Bool, true, false, not, ◌==◌, if◌then◌else◌, List, [], ◌∷◌, find, option_map, Option, Some, None}
use Rattle.std.specs.List.{list_any}
use Rattle.std.specs.Option.{unwrap_or}
use Rattle.s3_names.specs.declared.ids.VersionId.{VersionId}
use Rattle.s3_names.specs.declared.ids.VersionId.TheVariants.{Null, Numbered}
use Rattle.s3_versions.specs.declared.version.Version.{Version}
use Rattle.s3_versions.specs.declared.version.Versioning.{Versioning}
use Rattle.s3_versions.specs.declared.version.Versioning.TheVariants.{Unversioned, Enabled, Suspended}
use Rattle.s3_versions.specs.Rules.{is_under, is_delete_marker, new_id, KeyChange, KeyDeleted, VersionDropped}
use Rattle.s3_deletions.specs.declared.named.NamedObject.{NamedObject}
use Rattle.s3_deletions.specs.declared.named.NamedObject.TheVariants.{Object, Fault}
use Rattle.s3_deletions.specs.declared.told.DeletionRow.{DeletionRow}
use Rattle.s3_deletions.specs.declared.told.DeletionRow.TheVariants as rows

-- the id is that of what entry n makes
abbrev pub is_own : ℕ → VersionId → Bool
is_own n Null = false
is_own n (Numbered m) = m == n

-- entry n made one of these versions
abbrev pub has_made : {B : Type 0} → ℕ → List (Version B) → Bool
has_made {B} n vs = list_any (λ (v : Version B). v.number == n) vs

-- the version of an id is a delete marker
abbrev pub is_marker_under : {B : Type 0} → VersionId → List (Version B) → Bool
is_marker_under {B} id vs = unwrap_or (option_map is_delete_marker (find (is_under id) vs)) false

-- a deletion by entry n that names this version, or none, changes the versions under its key
abbrev pub acts : {B : Type 0} → ℕ → Option VersionId → List (Version B) → Bool
acts n None vs = not (has_made n vs)
acts n (Some id) vs = not (is_own n id)

-- which change it is, at moment t: that of a DeleteObject
abbrev pub change_named : {B : Type 0} → ℕ → ℕ → Option VersionId → KeyChange B
change_named n t None = KeyDeleted n t
change_named n t (Some id) = VersionDropped id

-- the id of the delete marker that a DeleteObject makes, if it makes one, or that is gone by it
abbrev pub marker_made_as : Versioning → ℕ → Option VersionId
marker_made_as Unversioned n = None
marker_made_as Enabled n = Some (new_id Enabled n)
marker_made_as Suspended n = Some (new_id Suspended n)

abbrev pub marker_by : {B : Type 0} → Versioning → ℕ → Option VersionId → List (Version B) → Option VersionId
marker_by b n None vs = marker_made_as b n
marker_by b n (Some id) vs = if is_marker_under id vs then Some id else None

-- the id that is told of a delete marker
abbrev pub marker_told : {B : Type 0} → Versioning → ℕ → Option VersionId → List (Version B) → Option VersionId
marker_told b n version vs = if acts n version vs then marker_by b n version vs else None

-- what is told of an object
abbrev pub row_told : NamedObject → Option VersionId → DeletionRow
row_told (Object d) marker = rows.Deleted d.key d.version marker
row_told (Fault fault) marker = rows.Fault fault

-- what is told of all, by the markers that are told of each
abbrev pub rows_told : List NamedObject → List (Option VersionId) → List DeletionRow
rows_told (object ∷ objects) (marker ∷ markers) = row_told object marker ∷ rows_told objects markers
rows_told objects markers = []
