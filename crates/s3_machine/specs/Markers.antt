-- What becomes of a version or a delete marker that is named by its id: a delete marker answers to the id that was told of it, and
-- what is deleted by its id is gone (Amazon S3 User Guide, "Working with delete markers" and "Deleting object versions from a
-- versioning-enabled bucket").
use Rattle.std.specs.Prelude.{◌≡◌, ◌≢◌, ℕ, true, false, IsTrue, List, [], ◌∷◌, ◌++◌, Option, Some, None}
use Rattle.s3_terms.specs.declared.code.Code.TheVariants.{MethodNotAllowed, NoSuchVersion}
use Rattle.s3_names.specs.declared.ids.VersionId.{VersionId}
use Rattle.s3_names.specs.declared.ids.VersionId.TheVariants.{Null}
use Rattle.s3_versions.specs.declared.version.Data.{Data}
use Rattle.s3_records.specs.Catalogue.{has_bucket, versions_of}
use Rattle.s3_records.specs.Places.{version_at}
use Rattle.s3_machine.specs.declared.command.Command.{Command}
use Rattle.s3_machine.specs.declared.command.Command.TheVariants as commands
use Rattle.s3_machine.specs.declared.command.KeyCommand.{KeyCommand}
use Rattle.s3_machine.specs.declared.command.KeyCommand.TheVariants as key_commands
use Rattle.s3_machine.specs.declared.command.Outcome.TheVariants as outcomes
use Rattle.s3_machine.specs.declared.rules.Rules.{Rules}
use Rattle.s3_machine.specs.Step.{State}
use Rattle.s3_machine.specs.Effects.{Address, Read, whole, reads, succeeds}
use Rattle.s3_machine.specs.History.{Entry, after}
use Rattle.s3_machine.specs.Kept.{LeavesKey, SparesVersion, ReadsKey, IsGiven, WouldGive}

-- the address that a command deletes where it names no version, by whichever condition
abbrev pub key_deletes : Address → KeyCommand → Option Address
key_deletes address (key_commands.Delete None) = Some address
key_deletes address (key_commands.DeleteMatching tags) = Some address
key_deletes address other = None

abbrev pub deletes_key : Command → Option Address
deletes_key (commands.Key bucket key asked) = key_deletes (record { bucket = bucket; key = key }) asked
deletes_key other = None

-- the version that a command deletes: its address and its id
abbrev pub key_drops : Address → KeyCommand → Option (Address × VersionId)
key_drops address (key_commands.Delete (Some id)) = Some (address, id)
key_drops address other = None

abbrev pub drops : Command → Option (Address × VersionId)
drops (commands.Key bucket key asked) = key_drops (record { bucket = bucket; key = key }) asked
drops other = None

-- the entry deletes the address, names no version, and is told that it made a delete marker of this id
pub record LeavesMarker (address : Address) (id : VersionId) (e : Entry) : Type 0 where
  pub deletes : deletes_key e.command ≡ Some address
  pub told : e.answer.outcome ≡ outcomes.Deleted (Some id) true

-- the entry is to delete the version of this id
abbrev pub AsksToDrop : Address → VersionId → Entry → Type 0
AsksToDrop address id e = drops e.command ≡ Some (address, id)

-- it does, and succeeds
pub record Drops (address : Address) (id : VersionId) (e : Entry) : Type 0 where
  pub asks : AsksToDrop address id e
  pub accepted : succeeds e.answer.outcome ≡ true

-- the entry reads the version of this id, by whichever conditions
pub record AsksForVersion (address : Address) (id : VersionId) (e : Entry) : Type 0 where
  pub asked : Read
  pub read : reads e.command ≡ Some asked
  pub at : asked.address ≡ address
  pub named : asked.version ≡ Some id

-- The laws, of a history that begins at a state.
module _ (rules : Rules) (s : State) (entries : List Entry) where
  -- A delete marker answers to the id that was told of it: before an entry touches that id, a read by it is answered that this is
  -- not allowed, and that it is a delete marker,
  abbrev pub MarkersAnswerToTheirId : Type 0
  MarkersAnswerToTheirId =
      (before between later : List Entry) (mark read : Entry) (address : Address) (id : VersionId)
      → entries ≡ before ++ mark ∷ between ++ read ∷ later
      → LeavesMarker address id mark
      → SparesVersion address id between → AsksForVersion address id read
      → read.answer.outcome ≡ outcomes.Refused MethodNotAllowed true

  -- and who deletes it by the id is told so, and that it was a delete marker.
  abbrev pub MarkersAreDeletedByTheirId : Type 0
  MarkersAreDeletedByTheirId =
      (before between later : List Entry) (mark drop : Entry) (address : Address) (id : VersionId)
      → entries ≡ before ++ mark ∷ between ++ drop ∷ later
      → LeavesMarker address id mark
      → SparesVersion address id between
      → AsksToDrop address id drop
      → drop.answer.outcome ≡ outcomes.Deleted (Some id) true

  -- What is deleted by its id, a version or a delete marker, is gone until an entry makes one of that id,
  abbrev pub DroppedVersionsAreGone : Type 0
  DroppedVersionsAreGone =
      (before since : List Entry) (drop : Entry) (address : Address) (id : VersionId)
      → entries ≡ before ++ drop ∷ since
      → Drops address id drop
      → SparesVersion address id since
      → version_at (after rules s entries) address.bucket address.key id ≡ None

  -- and while its bucket is there, a read by the id is answered that there is no such version.
  abbrev pub DroppedVersionsAreNotFound : Type 0
  DroppedVersionsAreNotFound =
      (before since later : List Entry) (drop read : Entry) (address : Address) (id : VersionId)
      → entries ≡ before ++ drop ∷ since ++ read ∷ later
      → Drops address id drop
      → SparesVersion address id since
      → AsksForVersion address id read
      → IsTrue (has_bucket (after rules s (before ++ drop ∷ since)) address.bucket)
      → read.answer.outcome ≡ outcomes.Refused NoSuchVersion false

  -- From a sound base a key that was deleted comes back where its delete marker is deleted by the id, if that isn't `null`, and
  -- nothing else changed the versions of the key: these are what they were before the delete.
  abbrev pub UndeletedKeysComeBack : Type 0
  UndeletedKeysComeBack =
      (before between since : List Entry) (mark drop : Entry) (address : Address) (id : VersionId)
      → entries ≡ before ++ mark ∷ between ++ drop ∷ since
      → id ≢ Null → LeavesMarker address id mark
      → LeavesKey address between
      → AsksToDrop address id drop
      → LeavesKey address since
      → versions_of (after rules s entries) address.bucket address.key
      ≡ versions_of (after rules s before) address.bucket address.key

  -- So a read of the key is given again what one before the delete would have been given.
  abbrev pub UndeletedKeysAreGiven : Type 0
  UndeletedKeysAreGiven =
      (before between since later : List Entry) (mark drop read : Entry) (address : Address) (id : VersionId) (what : Data (List ℕ))
      (given : WouldGive (after rules s before) (whole address None) what)
      → entries ≡ before ++ mark ∷ between ++ drop ∷ since ++ read ∷ later
      → id ≢ Null
      → LeavesMarker address id mark
      → LeavesKey address between
      → AsksToDrop address id drop
      → LeavesKey address since
      → ReadsKey address read
      → IsGiven given.found.moment what read
