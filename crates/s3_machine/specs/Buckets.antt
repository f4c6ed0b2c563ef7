-- What becomes of a bucket: it isn't dropped while something is in it, its versioning is told as it was set, and so is the region
-- that it is in (Amazon S3 API Reference, CreateBucket, HeadBucket, DeleteBucket, PutBucketVersioning and GetBucketVersioning).
use Rattle.std.specs.Prelude.{◌≡◌, ◌≢◌, ◌⊎◌, ℕ, true, false, IsTrue, List, [], ◌∷◌, ◌++◌, if◌then◌else◌, Option, Some, None}
use Rattle.std.specs.List.{AllByRecursion}
use Rattle.s3_terms.specs.declared.code.Code.TheVariants.{BucketNotEmpty, NoSuchBucket}
use Rattle.s3_versions.specs.declared.version.Versioning.TheVariants.{Unversioned}
use Rattle.s3_versions.specs.declared.version.VersioningStatus.{VersioningStatus}
use Rattle.s3_versions.specs.Rules.{versioning_set}
use Rattle.s3_records.specs.Catalogue.{has_bucket, versions_of}
use Rattle.s3_records.specs.OpenUploads.{upload_at}
use Rattle.s3_machine.specs.declared.command.BucketCommand.TheVariants as bucket_commands
use Rattle.s3_machine.specs.declared.command.Command.{Command}
use Rattle.s3_machine.specs.declared.command.Command.TheVariants as commands
use Rattle.s3_machine.specs.declared.command.Outcome.TheVariants as outcomes
use Rattle.s3_machine.specs.declared.rules.Rules.{Rules}
use Rattle.s3_machine.specs.Effects.{succeeds}
use Rattle.s3_machine.specs.History.{Entry, after}
use Rattle.s3_machine.specs.Step.{State}

-- the bucket that a command makes
abbrev pub makes_bucket : Command → Option (List ℕ)
makes_bucket (commands.Bucket name bucket_commands.Create) = Some name
makes_bucket other = None

-- the bucket that a command drops
abbrev pub drops_bucket : Command → Option (List ℕ)
drops_bucket (commands.Bucket name bucket_commands.Delete) = Some name
drops_bucket other = None

-- the bucket whose versioning a command sets, and to what
abbrev pub sets_versioning : Command → Option (List ℕ × VersioningStatus)
sets_versioning (commands.Bucket name (bucket_commands.PutVersioning status)) = Some (name, status)
sets_versioning other = None

-- the bucket whose versioning a command asks for
abbrev pub asks_versioning : Command → Option (List ℕ)
asks_versioning (commands.Bucket name bucket_commands.GetVersioning) = Some name
asks_versioning other = None

-- the bucket that a command looks for
abbrev pub finds_bucket : Command → Option (List ℕ)
finds_bucket (commands.Bucket name bucket_commands.Head) = Some name
finds_bucket other = None

-- something is in the bucket: a version or a delete marker under some key, or an upload that is open
abbrev pub HasSomething : State → List ℕ → Type 0
HasSomething s name =
    ((key : List ℕ) × (versions_of s name key ≢ [])) ⊎ ((key : List ℕ) × (id : ℕ) × (upload_at s name key id ≢ None))

-- nothing is
abbrev pub HasNothing : State → List ℕ → Type 0
HasNothing s name =
    ((key : List ℕ) → versions_of s name key ≡ []) × ((key : List ℕ) (id : ℕ) → upload_at s name key id ≡ None)

-- the entry makes the bucket, drops it or sets its versioning, and succeeds
pub record Switches (name : List ℕ) (e : Entry) : Type 0 where
  pub asks : (makes_bucket e.command ≡ Some name) ⊎ ((drops_bucket e.command ≡ Some name)
      ⊎ ((status : VersioningStatus) × (sets_versioning e.command ≡ Some (name, status))))
  pub accepted : succeeds e.answer.outcome ≡ true

-- no entry does
abbrev pub LeavesVersioning : List ℕ → List Entry → Type 0
LeavesVersioning name entries = AllByRecursion (λ e. ¬ Switches name e) entries

-- The laws, of a history that begins at a state.
module _ (rules : Rules) (s : State) (entries : List Entry) where
  -- A bucket with something in it isn't dropped: that is refused, and leaves all as it was.
  abbrev pub FullBucketsStay : Type 0
  FullBucketsStay =
      (before later : List Entry) (drop : Entry) (name : List ℕ)
      → entries ≡ before ++ drop ∷ later
      → drops_bucket drop.command ≡ Some name
      → HasSomething (after rules s before) name
      → (drop.answer.outcome ≡ outcomes.Refused BucketNotEmpty false)
      × (after rules s (before ++ drop ∷ []) ≡ after rules s before)

  -- From a sound base one that is there and in which nothing is, is: behind the entry it isn't there.
  abbrev pub EmptyBucketsAreDropped : Type 0
  EmptyBucketsAreDropped =
      (before later : List Entry) (drop : Entry) (name : List ℕ)
      → entries ≡ before ++ drop ∷ later
      → drops_bucket drop.command ≡ Some name
      → IsTrue (has_bucket (after rules s before) name)
      → HasNothing (after rules s before) name
      → (succeeds drop.answer.outcome ≡ true) × (has_bucket (after rules s (before ++ drop ∷ [])) name ≡ false)

  -- Who asks for a bucket's versioning is told the status to which an entry set it, until one sets it again, or drops the bucket,
  abbrev pub VersioningIsTold : Type 0
  VersioningIsTold =
      (before between later : List Entry) (set ask : Entry) (name : List ℕ) (status : VersioningStatus)
      → entries ≡ before ++ set ∷ between ++ ask ∷ later
      → sets_versioning set.command ≡ Some (name, status)
      → succeeds set.answer.outcome ≡ true
      → LeavesVersioning name between
      → asks_versioning ask.command ≡ Some name
      → ask.answer.outcome ≡ outcomes.BucketVersioning (versioning_set status)

  -- and that there is none from the entry that makes the bucket on.
  abbrev pub NewBucketsAreUnversioned : Type 0
  NewBucketsAreUnversioned =
      (before between later : List Entry) (make ask : Entry) (name : List ℕ)
      → entries ≡ before ++ make ∷ between ++ ask ∷ later
      → makes_bucket make.command ≡ Some name
      → succeeds make.answer.outcome ≡ true
      → LeavesVersioning name between
      → asks_versioning ask.command ≡ Some name
      → ask.answer.outcome ≡ outcomes.BucketVersioning Unversioned

  -- Who looks for a bucket that is there is told the region of the server's rules, and who looks for another one that it isn't.
  abbrev pub RegionIsTold : Type 0
  RegionIsTold =
      (before later : List Entry) (find : Entry) (name : List ℕ)
      → entries ≡ before ++ find ∷ later
      → finds_bucket find.command ≡ Some name
      → find.answer.outcome
      ≡ if has_bucket (after rules s before) name then outcomes.BucketFound rules.region else outcomes.Refused NoSuchBucket false
