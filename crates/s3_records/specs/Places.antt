-- Where a version and an upload stand: in a bucket, under a key, with an id. What each change does there, and to the numbers
-- of the entries that made the versions.
use Rattle.std.specs.Prelude.{◌≡◌, ◌≢◌, ◌<◌, ◌≤◌, ℕ, Bool, true, not, IsTrue, List, Option, Some, None, option_map, IfSome}
use Rattle.s3_names.specs.declared.ids.VersionId.{VersionId}
use Rattle.s3_versions.specs.declared.version.Version.{Version}
use Rattle.s3_versions.specs.Rules.{asked_for, is_new_number}
use Rattle.s3_versions.specs.Laws.{number_of, id_changed, version_made}
use Rattle.s3_records.specs.Catalogue.{Catalogue, opening, has_bucket, versions_of, versioning_of, is_empty_bucket}
use Rattle.s3_uploads.specs.declared.upload.Upload.{Upload}
use Rattle.s3_uploads.specs.Uploads.{with_part}
use Rattle.s3_records.specs.OpenUploads.{upload_at}
use Rattle.s3_records.specs.Changes.{Change, BucketAdded, BucketDropped, VersioningSet, KeyChanged, UploadAdded, PartPut, UploadDropped, UploadCompleted, changed}

-- the version at a place
abbrev pub version_at : {B : Type 0} → Catalogue B → List ℕ → List ℕ → VersionId → Option (Version B)
version_at c name key id = asked_for (Some id) (versions_of c name key)

-- every key has the versions that it had
abbrev pub SameVersions : {B : Type 0} → Catalogue B → Catalogue B → Type 0
SameVersions c d = (name key : List ℕ) → versions_of d name key ≡ versions_of c name key

-- at one place stands this now, and at every other what stood there
pub record OnePlaceChanges {B : Type 0} (c d : Catalogue B) (name key : List ℕ) (id : VersionId) (now : Option (Version B)) : Type 0 where
  pub here : version_at d name key id ≡ now
  pub other_ids : (other : VersionId) → other ≢ id → version_at d name key other ≡ version_at c name key other
  pub other_keys : (bucket k : List ℕ) → ¬ ((bucket ≡ name) × (k ≡ key)) → versions_of d bucket k ≡ versions_of c bucket k

-- a change may come: a bucket is made where there is none of its name, dropped where nothing is in it, and a key or an
-- upload changes in one that is there
abbrev pub may_come : {B : Type 0} → Catalogue B → List ℕ → Change B → Bool
may_come c name (BucketAdded t) = not (has_bucket c name)
may_come c name BucketDropped = is_empty_bucket c name
may_come c name (VersioningSet status) = true
may_come c name (KeyChanged key what) = has_bucket c name
may_come c name (UploadAdded key id u) = has_bucket c name
may_come c name (PartPut key id n part) = has_bucket c name
may_come c name (UploadDropped key id) = has_bucket c name
may_come c name (UploadCompleted key id what) = has_bucket c name

-- what is at the places after it: a change of a key, and a completion, changes one of them, and every other change none
abbrev pub PlacesAfter : {B : Type 0} → Catalogue B → List ℕ → Change B → Catalogue B → Type 0
PlacesAfter c name (KeyChanged key what) d =
    OnePlaceChanges c d name key (id_changed (versioning_of c name) what) (version_made (versioning_of c name) what)
PlacesAfter c name (UploadCompleted key id what) d =
    OnePlaceChanges c d name key (id_changed (versioning_of c name) what) (version_made (versioning_of c name) what)
PlacesAfter c name other d = SameVersions c d

abbrev pub ChangesAreByPlace : Type 0 → Type 0
ChangesAreByPlace B =
    (c : Catalogue B) (name : List ℕ) (change : Change B)
    → IsTrue (may_come c name change) → PlacesAfter c name change (changed c name change)

-- every upload is as it was
abbrev pub SameUploads : {B : Type 0} → Catalogue B → Catalogue B → Type 0
SameUploads c d = (name key : List ℕ) (id : ℕ) → upload_at d name key id ≡ upload_at c name key id

-- at one place stands this upload now, or none, and every other is as it was
pub record OneUploadChanges {B : Type 0} (c d : Catalogue B) (name key : List ℕ) (id : ℕ) (now : Option (Upload B)) : Type 0 where
  pub here : upload_at d name key id ≡ now
  pub others : (bucket k : List ℕ) (i : ℕ) → ¬ ((bucket ≡ name) × ((k ≡ key) × (i ≡ id))) → upload_at d bucket k i ≡ upload_at c bucket k i

-- the uploads after a change: one of an upload changes that alone, and every other change none
abbrev pub UploadsAfter : {B : Type 0} → Catalogue B → List ℕ → Change B → Catalogue B → Type 0
UploadsAfter c name (UploadAdded key id u) d = OneUploadChanges c d name key id (Some u)
UploadsAfter c name (PartPut key id n part) d =
    OneUploadChanges c d name key id (option_map (with_part n part) (upload_at c name key id))
UploadsAfter c name (UploadDropped key id) d = OneUploadChanges c d name key id None
UploadsAfter c name (UploadCompleted key id what) d = OneUploadChanges c d name key id None
UploadsAfter c name other d = SameUploads c d

abbrev pub ChangesAreByUpload : Type 0 → Type 0
ChangesAreByUpload B =
    (c : Catalogue B) (name : List ℕ) (change : Change B)
    → IsTrue (may_come c name change) → UploadsAfter c name change (changed c name change)

-- the number of the entry that makes a change, where it is one of a key, or a completion, and names no version
abbrev pub number_in : {B : Type 0} → Change B → Option ℕ
number_in (KeyChanged key what) = number_of what
number_in (UploadCompleted key id what) = number_of what
number_in other = None

-- a number is above those of the entries that made a version
abbrev pub AreBelow : {B : Type 0} → ℕ → Catalogue B → Type 0
AreBelow n c = (name key : List ℕ) → IsTrue (is_new_number n (versions_of c name key))

-- it is above them after a change, too, if it is above the number of that
abbrev pub NumbersStayBelow : Type 0 → Type 0
NumbersStayBelow B =
    (m : ℕ) (c : Catalogue B) (name : List ℕ) (change : Change B)
    → AreBelow m c → IfSome (number_in change) (λ n. n < m) → AreBelow m (changed c name change)

-- so is each later number, and at the opening every number
abbrev pub LaterIsBelow : Type 0 → Type 0
LaterIsBelow B = (n m : ℕ) (c : Catalogue B) → n ≤ m → AreBelow n c → AreBelow m c

abbrev pub OpeningIsBelow : Type 0 → Type 0
OpeningIsBelow B = (n : ℕ) (names : List (List ℕ)) → AreBelow {B = B} n (opening names)
