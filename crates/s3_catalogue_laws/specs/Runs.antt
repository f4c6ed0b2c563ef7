-- Runs of changes, and what stays of a bucket over one: it is there from the change that makes it to one that makes or drops a
-- bucket of its name, with the versioning that was set last (Amazon S3 API Reference, CreateBucket, DeleteBucket, ListBuckets and
-- PutBucketVersioning).
use Rattle.std.specs.Prelude.{◌≡◌, ◌≢◌, ℕ, Bool, true, false, IsTrue, List, [], ◌∷◌, None}
use Rattle.std.specs.List.{All}
use Rattle.s3_versions.specs.declared.version.VersioningStatus.{VersioningStatus}
use Rattle.s3_versions.specs.Rules.{versioning_set}
use Rattle.s3_records.specs.Catalogue.{Catalogue, has_bucket, versions_of, versioning_of}
use Rattle.s3_records.specs.Changes.{Change, BucketAdded, BucketDropped, VersioningSet, changed}
use Rattle.s3_records.specs.OpenUploads.{upload_at}
use Rattle.s3_records.specs.Places.{may_come}
use Rattle.s3_catalogue_laws.specs.Buckets.{IsListed, IsGone}

-- a change of the bucket of a name, by the entry of a number
pub record NumberedChange (B : Type 0) : Type 0 where
  pub number : ℕ
  pub bucket : List ℕ
  pub change : Change B

-- the catalogue after several, in their order
abbrev pub after_run : {B : Type 0} → Catalogue B → List (NumberedChange B) → Catalogue B
after_run c [] = c
after_run c (step ∷ run) = after_run (changed c step.bucket step.change) run

-- a change makes a bucket or drops it
abbrev pub makes_or_drops : {B : Type 0} → Change B → Bool
makes_or_drops (BucketAdded t) = true
makes_or_drops BucketDropped = true
makes_or_drops other = false

-- or sets its versioning
abbrev pub sets_versioning : {B : Type 0} → Change B → Bool
sets_versioning (VersioningSet status) = true
sets_versioning other = false

-- no change of a run makes the bucket of a name or drops it
abbrev pub LeavesBucket : {B : Type 0} → List ℕ → List (NumberedChange B) → Type 0
LeavesBucket {B} name run = All (λ (step : NumberedChange B). step.bucket ≡ name → makes_or_drops step.change ≡ false) run

-- nor sets its versioning
abbrev pub LeavesVersioning : {B : Type 0} → List ℕ → List (NumberedChange B) → Type 0
LeavesVersioning {B} name run = All (λ (step : NumberedChange B). step.bucket ≡ name → sets_versioning step.change ≡ false) run

-- a bucket that was made is there, and listed with its moment, until a change makes or drops a bucket of its name
pub record IsThere {B : Type 0} (c : Catalogue B) (name : List ℕ) (t : ℕ) : Type 0 where
  pub there : IsTrue (has_bucket c name)
  pub listed : IsListed c name t

abbrev pub MadeBucketsStay : Type 0 → Type 0
MadeBucketsStay B =
    (c : Catalogue B) (name : List ℕ) (t : ℕ) (run : List (NumberedChange B)) → LeavesBucket name run
    → IsThere (after_run (changed c name (BucketAdded t)) run) name t

-- one that was dropped is gone until a change makes or drops a bucket of its name
abbrev pub DroppedBucketsStayGone : Type 0 → Type 0
DroppedBucketsStayGone B =
    (c : Catalogue B) (name : List ℕ) (run : List (NumberedChange B)) → LeavesBucket name run
    → IsGone (after_run (changed c name BucketDropped) run) name

-- the versioning that was set stays until a change sets it, or makes or drops the bucket
abbrev pub SetVersioningStays : Type 0 → Type 0
SetVersioningStays B =
    (c : Catalogue B) (name : List ℕ) (status : VersioningStatus) (run : List (NumberedChange B)) → IsTrue (has_bucket c name)
    → LeavesBucket name run → LeavesVersioning name run
    → versioning_of (after_run (changed c name (VersioningSet status)) run) name ≡ versioning_set status

-- the bucket of a name may not be dropped while a version, a delete marker or an open upload stands in it
pub record IsKept {B : Type 0} (c : Catalogue B) (name : List ℕ) : Type 0 where
  pub versions : (key : List ℕ) → versions_of c name key ≢ [] → may_come c name BucketDropped ≡ false
  pub uploads : (key : List ℕ) (id : ℕ) → upload_at c name key id ≢ None → may_come c name BucketDropped ≡ false

abbrev pub FilledBucketsAreKept : Type 0 → Type 0
FilledBucketsAreKept B = (c : Catalogue B) (name : List ℕ) → IsKept c name
