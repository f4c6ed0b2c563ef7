-- Ids, each of which is told once: those of the versions and delete markers that entries make, and those of the uploads that they
-- begin (Amazon S3 User Guide, "Retaining multiple versions of objects with S3 Versioning"; Amazon S3 API Reference,
-- CreateMultipartUpload).
use Rattle.std.specs.Prelude.{◌≡◌, ◌≢◌, ℕ, List, [], ◌∷◌, ◌++◌, filter_map, Contains, Some, None}
use Rattle.s3_names.specs.declared.ids.VersionId.{VersionId}
use Rattle.s3_names.specs.declared.ids.VersionId.TheVariants.{Null}
use Rattle.s3_records.specs.Places.{version_at}
use Rattle.s3_documents.specs.Document as documents
use Rattle.s3_machine.specs.declared.command.Command.{Command}
use Rattle.s3_machine.specs.declared.command.Command.TheVariants as commands
use Rattle.s3_machine.specs.declared.command.KeyCommand.TheVariants as key_commands
use Rattle.s3_machine.specs.declared.command.Description.{Description}
use Rattle.s3_machine.specs.declared.command.Outcome.{Outcome}
use Rattle.s3_machine.specs.declared.command.Outcome.TheVariants as outcomes
use Rattle.s3_machine.specs.declared.rules.Rules.{Rules}
use Rattle.s3_machine.specs.Step.{State}
use Rattle.s3_machine.specs.Effects.{Address, UploadPlace, open_at, writes, begins, told_ids, marker_in_row}
use Rattle.s3_machine.specs.History.{Entry, after}

-- the ids that a command is told of the versions and delete markers that it made under an address that it writes: a delete that
-- names a version makes none, and of several deletions each row tells of a marker where it names no version
abbrev pub ids_made : Command → Outcome → Address → List VersionId
ids_made (commands.Key bucket key (key_commands.Delete (Some id))) outcome address = []
ids_made (commands.DeleteObjects bucket deletion) (outcomes.Told (documents.deletions is_quiet told_rows)) address =
    filter_map (marker_in_row address.key) told_rows
ids_made other outcome address = told_ids outcome

-- the entry is told that it made a version or a delete marker of this id under the address
pub record MakesVersion (address : Address) (id : VersionId) (e : Entry) : Type 0 where
  pub written : Contains (writes e.command) address
  pub told : Contains (ids_made e.command e.answer.outcome address) id

-- the entry is told that it began an upload of this id to the address
pub record BeginsUpload (address : Address) (id : ℕ) (e : Entry) : Type 0 where
  pub asked : Description
  pub at : begins e.command ≡ Some (address, asked)
  pub told : e.answer.outcome ≡ outcomes.Told (documents.begun address.bucket address.key id)

-- The laws, of a history that begins at a state.
module _ (rules : Rules) (s : State) (entries : List Entry) where
  -- No two entries are told that they made a version or a delete marker of one id, of whichever keys, but for `null`, which is the
  -- id of all that is made where versioning isn't enabled. (That an entry that deletes several objects is told its id once of a key
  -- is `MarkersAreToldOnce`.)
  abbrev pub VersionIdsAreToldOnce : Type 0
  VersionIdsAreToldOnce =
      (before between later : List Entry) (one another : Entry) (first second : Address) (id : VersionId)
      → entries ≡ before ++ one ∷ between ++ another ∷ later
      → id ≢ Null → MakesVersion first id one
      → ¬ MakesVersion second id another

  -- From a sound base such an id is new: no version had it under the key, in the base or behind any of the entries before.
  abbrev pub VersionIdsAreNew : Type 0
  VersionIdsAreNew =
      (before between later : List Entry) (e : Entry) (address : Address) (id : VersionId)
      → entries ≡ before ++ between ++ e ∷ later
      → id ≢ Null → MakesVersion address id e
      → version_at (after rules s before) address.bucket address.key id ≡ None

  -- No two entries are told that they began an upload of one id, to whichever keys.
  abbrev pub UploadIdsAreToldOnce : Type 0
  UploadIdsAreToldOnce =
      (before between later : List Entry) (one another : Entry) (first second : Address) (id : ℕ)
      → entries ≡ before ++ one ∷ between ++ another ∷ later
      → BeginsUpload first id one
      → ¬ BeginsUpload second id another

  -- From a sound base the id is new: no upload of it was open, to whichever key, in the base or behind any of the entries before.
  abbrev pub UploadIdsAreNew : Type 0
  UploadIdsAreNew =
      (before between later : List Entry) (e : Entry) (address : Address) (upload : UploadPlace)
      → entries ≡ before ++ between ++ e ∷ later
      → BeginsUpload address upload.id e
      → open_at (after rules s before) upload ≡ None
