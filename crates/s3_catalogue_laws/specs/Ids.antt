-- Ids, each of which is given once: of a key's versions, and of the uploads to it (Amazon S3 User Guide, "Retaining multiple
-- versions of objects with S3 Versioning"; Amazon S3 API Reference, CreateMultipartUpload and DeleteObject).
use Rattle.std.specs.Prelude.{◌≡◌, ◌≢◌, ◌≤◌, ◌<◌, ◌⊎◌, ℕ, true, IsTrue, List, [], ◌∷◌, ◌++◌, Option, Some, None, is_some, IfSome, Err, option_map}
use Rattle.std.specs.List.{All, Contains}
use Rattle.s3_terms.specs.declared.code.Code.TheVariants.{MethodNotAllowed}
use Rattle.s3_names.specs.declared.ids.VersionId.{VersionId}
use Rattle.s3_names.specs.declared.ids.VersionId.TheVariants.{Numbered}
use Rattle.s3_versions.specs.Metadata.{Entry}
use Rattle.s3_versions.specs.Rules.{pick, is_new_number}
use Rattle.s3_uploads.specs.declared.upload.Upload.{Upload}
use Rattle.s3_deletions.specs.Deletions.{marker_told}
use Rattle.s3_records.specs.Catalogue.{Catalogue, has_bucket, versions_of, versioning_of}
use Rattle.s3_records.specs.Changes.{Change, UploadAdded, changed}
use Rattle.s3_records.specs.OpenUploads.{upload_at, upload_rows}
use Rattle.s3_records.specs.Places.{version_at, may_come, number_in, AreBelow}
use Rattle.s3_records.specs.Rows.{version_rows}
use Rattle.s3_records.specs.declared.rows.UploadRow.{UploadRow}
use Rattle.s3_records.specs.declared.rows.VersionRow.{VersionRow}
use Rattle.s3_catalogue_laws.specs.Markers.{after_deletion}
use Rattle.s3_catalogue_laws.specs.Orderly.{IsOrderly}
use Rattle.s3_catalogue_laws.specs.Runs.{NumberedChange, after_run}
use Rattle.s3_catalogue_laws.specs.Undeletions.{after_drop}

-- ---- in one list

-- two rows of a list of versions that tell of one key tell two ids
abbrev pub VersionsAreToldOnce : Type 0 → Type 0
VersionsAreToldOnce B =
    (c : Catalogue B) (name : List ℕ) (front rest : List VersionRow) (row next : VersionRow) → IsOrderly c
    → version_rows c name ≡ front ++ row ∷ rest → Contains rest next → next.key ≡ row.key → next.id ≢ row.id

-- and so do two of a list of uploads
abbrev pub UploadsAreToldOnce : Type 0 → Type 0
UploadsAreToldOnce B =
    (c : Catalogue B) (name : List ℕ) (front rest : List UploadRow) (row next : UploadRow)
    → upload_rows c name ≡ front ++ row ∷ rest → Contains rest next → next.key ≡ row.key → next.id ≢ row.id

-- ---- over a run of changes

-- the id of the upload that a change begins
abbrev pub upload_id_in : {B : Type 0} → Change B → Option ℕ
upload_id_in (UploadAdded key id u) = Some id
upload_id_in other = None

-- what a numbered change makes has the number of its entry
pub record IsNumbered {B : Type 0} (step : NumberedChange B) : Type 0 where
  pub version : IfSome (number_in step.change) (λ n. n ≡ step.number)
  pub upload : IfSome (upload_id_in step.change) (λ id. id ≡ step.number)

-- a run comes to a catalogue: each change may come where it does, and the numbers of the entries don't fall, from this one on;
-- several changes may be of one entry
abbrev pub Comes : {B : Type 0} → ℕ → Catalogue B → List (NumberedChange B) → Type 0
Comes m c [] = Unit {0}
Comes m c (step ∷ run) =
    IsTrue (may_come c step.bucket step.change) × IsNumbered step × (m ≤ step.number)
    × Comes step.number (changed c step.bucket step.change) run

-- a number is above those of all its entries
abbrev pub IsAbove : {B : Type 0} → ℕ → List (NumberedChange B) → Type 0
IsAbove {B} m run = All (λ (step : NumberedChange B). step.number < m) run

-- from a moment on an id of an earlier entry names the version that it names, or none: never another, and none where it names none
abbrev pub OldIdsNameOneVersion : Type 0 → Type 0
OldIdsNameOneVersion B =
    (c : Catalogue B) (m : ℕ) (run : List (NumberedChange B)) → Comes m c run → (name key : List ℕ) (n : ℕ) → n < m
    → (version_at (after_run c run) name key (Numbered n) ≡ version_at c name key (Numbered n))
    ⊎ (version_at (after_run c run) name key (Numbered n) ≡ None)

-- and that of a later entry than those of all versions names none
abbrev pub NewIdsNameNone : Type 0 → Type 0
NewIdsNameNone B =
    (c : Catalogue B) (m n : ℕ) (name key : List ℕ) → AreBelow m c → m ≤ n → version_at c name key (Numbered n) ≡ None

-- a number that is above those of all versions, and of the entries of a run, is above those of all versions after it
abbrev pub RunsStayBelow : Type 0 → Type 0
RunsStayBelow B =
    (c : Catalogue B) (m k : ℕ) (run : List (NumberedChange B)) → AreBelow k c → Comes m c run → IsAbove k run
    → AreBelow k (after_run c run)

-- what is told of an upload where it is begun; a part that is put changes none of it
pub record Begun : Type 0 where
  pub moment : ℕ
  pub content_type : List ℕ
  pub metadata : List Entry

abbrev pub begun_of : {B : Type 0} → Upload B → Begun
begun_of u = record { moment = u.moment; content_type = u.content_type; metadata = u.metadata }

-- of the upload at a place
abbrev pub begun_at : {B : Type 0} → Catalogue B → List ℕ → List ℕ → ℕ → Option Begun
begun_at c name key id = option_map begun_of (upload_at c name key id)

-- an id of an earlier entry names the upload that it names, as it was begun, or none: never another, and none where it names none
abbrev pub OldIdsNameOneUpload : Type 0 → Type 0
OldIdsNameOneUpload B =
    (c : Catalogue B) (m : ℕ) (run : List (NumberedChange B)) → Comes m c run → (name key : List ℕ) (id : ℕ) → id < m
    → (begun_at (after_run c run) name key id ≡ begun_at c name key id) ⊎ (upload_at (after_run c run) name key id ≡ None)

-- a number is above the ids of all open uploads
abbrev pub UploadsAreBelow : {B : Type 0} → ℕ → Catalogue B → Type 0
UploadsAreBelow m c = (name key : List ℕ) (id : ℕ) → IsTrue (is_some (upload_at c name key id)) → id < m

-- and the id of a later entry than those of all open uploads names none
abbrev pub NewIdsNameNoUpload : Type 0 → Type 0
NewIdsNameNoUpload B =
    (c : Catalogue B) (m id : ℕ) (name key : List ℕ) → UploadsAreBelow m c → m ≤ id → upload_at c name key id ≡ None

-- a number that is above those of all open uploads, and of the entries of a run, is above those of all open uploads after it
abbrev pub UploadsStayBelow : Type 0 → Type 0
UploadsStayBelow B =
    (c : Catalogue B) (m k : ℕ) (run : List (NumberedChange B)) → UploadsAreBelow k c → Comes m c run → IsAbove k run
    → UploadsAreBelow k (after_run c run)

-- ---- the id of a delete marker that is told

-- a read by it is refused as not allowed, and where it is deleted nothing stands under it
pub record IsMarker {B : Type 0} (c : Catalogue B) (name key : List ℕ) (id : VersionId) : Type 0 where
  pub refused : pick (Some id) (versions_of c name key) ≡ Err (record { code = MethodNotAllowed; is_delete_marker = true })
  pub goes : version_at (after_drop c name key id) name key id ≡ None

abbrev pub ToldIdsAreOfMarkers : Type 0 → Type 0
ToldIdsAreOfMarkers B =
    (c : Catalogue B) (name key : List ℕ) (n t : ℕ) (id : VersionId) → IsTrue (has_bucket c name)
    → IsTrue (is_new_number n (versions_of c name key))
    → marker_told (versioning_of c name) n None (versions_of c name key) ≡ Some id → IsMarker (after_deletion c name key n t) name key id
