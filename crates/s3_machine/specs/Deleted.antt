-- What becomes of the objects that one entry deletes together (Amazon S3 API Reference, DeleteObjects): a key that is named
-- without a version is gone, a version that is named is gone, for good, and every other stays.
use Rattle.std.specs.Prelude.{◌≡◌, ◌⊎◌, ℕ, Bool, true, IsTrue, List, [], ◌∷◌, ◌++◌, Contains, Option, Some, None}
use Rattle.s3_terms.specs.declared.code.Code.TheVariants.{NoSuchKey}
use Rattle.s3_names.specs.declared.ids.VersionId.{VersionId}
use Rattle.s3_names.specs.declared.ids.VersionId.TheVariants.{Numbered}
use Rattle.s3_versions.specs.Rules.{new_id}
use Rattle.s3_deletions.specs.Deletions.{marker_made_as, rows_told}
use Rattle.s3_deletions.specs.declared.named.Deletion.{Deletion}
use Rattle.s3_deletions.specs.declared.named.NamedObject.TheVariants.{Object}
use Rattle.s3_deletions.specs.declared.told.DeletionRow.{DeletionRow}
use Rattle.s3_deletions.specs.declared.told.DeletionRow.TheVariants as rows
use Rattle.s3_records.specs.Catalogue.{has_bucket, versioning_of}
use Rattle.s3_records.specs.Deletions.{markers_of}
use Rattle.s3_records.specs.Places.{version_at}
use Rattle.s3_documents.specs.Document as documents
use Rattle.s3_machine.specs.declared.command.Outcome.TheVariants as outcomes
use Rattle.s3_machine.specs.declared.rules.Rules.{Rules}
use Rattle.s3_machine.specs.Step.{State, makes_marker}
use Rattle.s3_machine.specs.Effects.{Address, deletes, succeeds}
use Rattle.s3_machine.specs.History.{Entry, after}
use Rattle.s3_machine.specs.Kept.{LeavesKey, AsksForKey}

-- the entry deletes these objects of the bucket together, and succeeds
pub record Deletes (bucket : List ℕ) (deletion : Deletion) (e : Entry) : Type 0 where
  pub asks : deletes e.command ≡ Some (bucket, deletion)
  pub accepted : succeeds e.answer.outcome ≡ true

-- the deletion names this version of the key, or the key without a version
abbrev pub Names : Deletion → List ℕ → Option VersionId → Type 0
Names deletion key version = Contains deletion.objects (Object (record { key = key; version = version }))

-- it names the key without a version, and no version of it
pub record NamesKeyAlone (deletion : Deletion) (key : List ℕ) : Type 0 where
  pub named : Names deletion key None
  pub alone : (id : VersionId) → ¬ Names deletion key (Some id)

-- as entry n in this state it makes a delete marker of this id under the key
pub record MakesMarker (s : State) (n : ℕ) (bucket : List ℕ) (deletion : Deletion) (key : List ℕ) (id : VersionId) : Type 0 where
  pub named : Names deletion key None
  pub made : marker_made_as (versioning_of s bucket) n ≡ Some id

-- as entry n in this state it replaces or takes away the version of this id under the key, if there is one: it names it, or it
-- names the key without a version, and what the entry makes in this bucket has the id
abbrev pub Reaches : State → ℕ → List ℕ → Deletion → List ℕ → VersionId → Type 0
Reaches s n bucket deletion key id =
    Names deletion key (Some id) ⊎ (Names deletion key None × (new_id (versioning_of s bucket) n ≡ id))

-- the row tells of a delete marker of this id under the key
pub record TellsMarker (key : List ℕ) (id : VersionId) (row : DeletionRow) : Type 0 where
  pub version : Option VersionId
  pub is : row ≡ rows.Deleted key version (Some id)

-- The laws, of a history that begins at a state.
module _ (rules : Rules) (s : State) (entries : List Entry) where
  -- From a sound base a key that is named without a version, and no version of which is named, is gone: while its bucket is there,
  -- a read of it is answered that there is no such key, and whether a delete marker hides it, until an entry changes its versions.
  abbrev pub NamedKeysAreGone : Type 0
  NamedKeysAreGone =
      (before between later : List Entry) (e read : Entry) (address : Address) (deletion : Deletion)
      → entries ≡ before ++ e ∷ between ++ read ∷ later
      → Deletes address.bucket deletion e
      → NamesKeyAlone deletion address.key
      → LeavesKey address between
      → AsksForKey address read
      → IsTrue (has_bucket (after rules s (before ++ e ∷ between)) address.bucket)
      → read.answer.outcome ≡ outcomes.Refused NoSuchKey (makes_marker (versioning_of (after rules s before) address.bucket))

  -- Then a version that is named is gone, too, unless the entry makes a delete marker of its id.
  abbrev pub NamedVersionsAreGone : Type 0
  NamedVersionsAreGone =
      (before later : List Entry) (e : Entry) (bucket key : List ℕ) (deletion : Deletion) (id : VersionId)
      → entries ≡ before ++ e ∷ later
      → Deletes bucket deletion e
      → Names deletion key (Some id)
      → ¬ MakesMarker (after rules s before) e.answer.number bucket deletion key id
      → version_at (after rules s (before ++ e ∷ [])) bucket key id ≡ None

  -- Every other version stays.
  abbrev pub OtherVersionsStay : Type 0
  OtherVersionsStay =
      (before later : List Entry) (e : Entry) (bucket : List ℕ) (deletion : Deletion) (address : Address) (id : VersionId)
      → entries ≡ before ++ e ∷ later
      → Deletes bucket deletion e
      → (address.bucket ≡ bucket → ¬ Reaches (after rules s before) e.answer.number bucket deletion address.key id)
      → version_at (after rules s (before ++ e ∷ [])) address.bucket address.key id
      ≡ version_at (after rules s before) address.bucket address.key id

  -- Who deletes objects is told of each, in the order of the document,
  abbrev pub DeletionsAreTold : Type 0
  DeletionsAreTold =
      (before later : List Entry) (e : Entry) (bucket : List ℕ) (deletion : Deletion)
      → entries ≡ before ++ e ∷ later
      → Deletes bucket deletion e
      → e.answer.outcome
      ≡ outcomes.Told (documents.deletions deletion.is_quiet
      (rows_told deletion.objects (markers_of (after rules s before) bucket e.answer.number e.moment deletion.objects)))

  -- and the id that is the number of the entry is told once of a key: of two rows not both tell of a delete marker of it.
  abbrev pub MarkersAreToldOnce : Type 0
  MarkersAreToldOnce =
      (before later : List Entry) (e : Entry) (bucket : List ℕ) (deletion : Deletion) (is_quiet : Bool)
      (front middle rest : List DeletionRow) (one another : DeletionRow) (key : List ℕ)
      → entries ≡ before ++ e ∷ later
      → Deletes bucket deletion e
      → e.answer.outcome ≡ outcomes.Told (documents.deletions is_quiet (front ++ one ∷ middle ++ another ∷ rest))
      → TellsMarker key (Numbered e.answer.number) one
      → ¬ TellsMarker key (Numbered e.answer.number) another
