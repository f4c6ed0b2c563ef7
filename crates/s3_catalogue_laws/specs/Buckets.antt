-- What the list of all buckets tells, and what is told of one (Amazon S3 API Reference, ListBuckets, CreateBucket, DeleteBucket,
-- HeadBucket and GetBucketVersioning).
use Rattle.std.specs.Prelude.{◌≡◌, ◌≢◌, ◌↔◌, ℕ, false, IsTrue, List, [], map as each, Option, Some, None, option_map}
use Rattle.std.specs.List.{Contains}
use Rattle.s3_text.specs.Order.{rises}
use Rattle.s3_versions.specs.declared.version.Versioning.TheVariants.{Unversioned, Enabled, Suspended}
use Rattle.s3_versions.specs.declared.version.VersioningStatus.TheVariants as status
use Rattle.s3_versions.specs.Rules.{versioning_set}
use Rattle.s3_records.specs.Catalogue.{Catalogue, opening, has_bucket, facts_in, listed_buckets, versions_of, versioning_of, is_empty_bucket}
use Rattle.s3_records.specs.Changes.{Change, BucketAdded, BucketDropped, VersioningSet, changed}
use Rattle.s3_records.specs.declared.records.BucketFacts.{BucketFacts}

-- a bucket of this name is listed, made at this moment
abbrev pub IsListed : {B : Type 0} → Catalogue B → List ℕ → ℕ → Type 0
IsListed c name t = Contains (listed_buckets c) (record { name = name; made = t })

-- exactly where it is there, and was made then
abbrev pub BucketsAreListed : Type 0 → Type 0
BucketsAreListed B =
    (c : Catalogue B) (name : List ℕ) (t : ℕ) → IsListed c name t ↔ (option_map (λ (facts : BucketFacts). facts.made) (facts_in c name) ≡ Some t)

-- so a bucket is there exactly where it is listed
abbrev pub ListedBucketsAreThere : Type 0 → Type 0
ListedBucketsAreThere B = (c : Catalogue B) (name : List ℕ) → IsTrue (has_bucket c name) ↔ ((t : ℕ) × IsListed c name t)

-- and it stands in the list once, since the names rise there
abbrev pub NamesRise : Type 0 → Type 0
NamesRise B = (c : Catalogue B) → IsTrue (rises (each (λ row. row.name) (listed_buckets c)))

-- a catalogue opens with the named buckets, made at moment 0
abbrev pub OpeningIsListed : Type 0 → Type 0
OpeningIsListed B =
    (names : List (List ℕ)) (name : List ℕ) (t : ℕ) → IsListed {B = B} (opening names) name t ↔ (Contains names name × (t ≡ 0))

-- a bucket is new: it is there, and listed with its moment, has nothing in it, and is unversioned
pub record IsNewBucket {B : Type 0} (c : Catalogue B) (name : List ℕ) (t : ℕ) : Type 0 where
  pub there : IsTrue (has_bucket c name)
  pub listed : IsListed c name t
  pub empty : IsTrue (is_empty_bucket c name)
  pub no_versions : (key : List ℕ) → versions_of c name key ≡ []
  pub unversioned : versioning_of c name ≡ Unversioned

-- it is so after it was made
abbrev pub MadeBucketsAreNew : Type 0 → Type 0
MadeBucketsAreNew B = (c : Catalogue B) (name : List ℕ) (t : ℕ) → IsNewBucket (changed c name (BucketAdded t)) name t

-- a bucket is gone: it isn't there, and isn't listed
pub record IsGone {B : Type 0} (c : Catalogue B) (name : List ℕ) : Type 0 where
  pub there : has_bucket c name ≡ false
  pub listed : (t : ℕ) → ¬ IsListed c name t

-- it is so after it was dropped
abbrev pub DroppedBucketsAreGone : Type 0 → Type 0
DroppedBucketsAreGone B = (c : Catalogue B) (name : List ℕ) → IsGone (changed c name BucketDropped) name

-- a bucket is there, is listed and has its versioning as before
pub record IsAsBefore {B : Type 0} (c d : Catalogue B) (name : List ℕ) : Type 0 where
  pub there : has_bucket d name ≡ has_bucket c name
  pub listed : (t : ℕ) → IsListed d name t ↔ IsListed c name t
  pub versioning : versioning_of d name ≡ versioning_of c name

-- where another bucket changes it is so
abbrev pub OtherBucketsStay : Type 0 → Type 0
OtherBucketsStay B =
    (c : Catalogue B) (name : List ℕ) (change : Change B) (other : List ℕ) → other ≢ name → IsAsBefore c (changed c name change) other

-- what is told of a bucket after a change of it: when it was made, by the change that made it, and the versioning that was set
-- last; what changes within it is not told
abbrev pub facts_after : {B : Type 0} → Change B → Option BucketFacts → Option BucketFacts
facts_after (BucketAdded t) facts = Some (record { made = t; versioning = Unversioned })
facts_after BucketDropped facts = None
facts_after (VersioningSet what) facts = option_map (λ (old : BucketFacts). record old { versioning = versioning_set what }) facts
facts_after within facts = facts

abbrev pub ChangesAreTold : Type 0 → Type 0
ChangesAreTold B = (c : Catalogue B) (name : List ℕ) (change : Change B) → facts_in (changed c name change) name ≡ facts_after change (facts_in c name)

-- the versioning that was set is a bucket's
pub record SwitchIsTold {B : Type 0} (c : Catalogue B) (name : List ℕ) : Type 0 where
  pub enabled : versioning_of (changed c name (VersioningSet status.Enabled)) name ≡ Enabled
  pub suspended : versioning_of (changed c name (VersioningSet status.Suspended)) name ≡ Suspended

abbrev pub SwitchesAreTold : Type 0 → Type 0
SwitchesAreTold B = (c : Catalogue B) (name : List ℕ) → IsTrue (has_bucket c name) → SwitchIsTold c name

-- and what is told of a bucket is its versioning
abbrev pub VersioningIsTold : Type 0 → Type 0
VersioningIsTold B =
    (c : Catalogue B) (name : List ℕ) (facts : BucketFacts) → facts_in c name ≡ Some facts → versioning_of c name ≡ facts.versioning
