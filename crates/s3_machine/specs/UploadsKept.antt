-- What the machine keeps of uploads: one is open from the entry that begins it to the one that ends it, the parts that are put
-- to it stand in it and no others do, and what a completion stores are these, which come back as an object.
use Rattle.std.specs.Prelude.{◌≡◌, ◌≢◌, ◌⊎◌, ◌↔◌, ℕ, ◌<◌, true, false, List, [], ◌∷◌, ◌++◌, length, Contains, Option, Some, None}
use Rattle.s3_names.specs.declared.ids.VersionId.{VersionId}
use Rattle.s3_versions.specs.declared.version.Data.{Data}
use Rattle.s3_uploads.specs.Parts.{part_row, part_sent, part_tag}
use Rattle.s3_uploads.specs.declared.listed.ListedPart.{ListedPart}
use Rattle.s3_uploads.specs.declared.part.Part.{Part}
use Rattle.s3_uploads.specs.declared.part.PartRow.{PartRow}
use Rattle.s3_records.specs.Catalogue.{versions_of}
use Rattle.s3_records.specs.OpenUploads.{parts_at}
use Rattle.s3_listings.specs.declared.asked.PartsAsked.{PartsAsked}
use Rattle.s3_listings.specs.declared.asked.UploadsAsked.{UploadsAsked}
use Rattle.s3_listings.specs.Parts.{parts_asked}
use Rattle.s3_listings.specs.Uploads.{upload_rows_asked}
use Rattle.s3_documents.specs.Document as documents
use Rattle.s3_machine.specs.declared.command.Outcome.TheVariants as outcomes
use Rattle.s3_machine.specs.declared.command.CopyRange.{CopyRange}
use Rattle.s3_machine.specs.declared.command.Description.{Description}
use Rattle.s3_machine.specs.declared.rules.Rules.{Rules}
use Rattle.s3_machine.specs.Step.{State, part_copied}
use Rattle.s3_machine.specs.Effects.{Address, UploadPlace, PartPlace, Read, part_in, writes, begins, copies_part, sends, sent, object_of, touched, succeeds}
use Rattle.s3_machine.specs.History.{Entry, after}
use Rattle.s3_machine.specs.Kept.{LeavesKey, SparesVersion, Stores, ReadsKey, ReadsVersion, IsGiven, WouldGive}
use Rattle.s3_machine.specs.Uploads.{Sends, Completes, WasBegun, WasSent, IsOpen, StayedOpen, StayedPart, AreJoined}

-- a list of all uploads of a bucket
abbrev pub all_uploads : UploadsAsked
all_uploads = record { prefix = []; delimiter = []; key_marker = []; id_marker = None; max_uploads = 1000; is_url_encoded = false }

-- the upload is listed as one of this moment, among all of its bucket
abbrev pub IsUploadListed : State → UploadPlace → ℕ → Type 0
IsUploadListed s upload t =
    Contains (upload_rows_asked all_uploads s upload.address.bucket) (record { key = upload.address.key; id = upload.id; moment = t })

-- a list of all parts of an upload
abbrev pub all_parts : PartsAsked
all_parts = record { marker = 0; max_parts = 1000 }

-- the row is one of the parts of the upload, among all
abbrev pub IsPartListed : State → UploadPlace → PartRow → Type 0
IsPartListed s upload row =
    Contains (parts_asked all_parts (parts_at s upload.address.bucket upload.address.key upload.id)) row

-- the row tells of what was put as the upload's part of its number: its moment, its tag and how many bytes it has
pub record TellsOfSent (rules : Rules) (s : State) (entries : List Entry) (upload : UploadPlace) (row : PartRow) : Type 0 where
  pub what : Part (List ℕ)
  pub was : WasSent rules s entries (record { upload = upload; number = row.number }) what
  pub moment : row.moment ≡ what.moment
  pub tag : row.tag ≡ part_tag what
  pub size : row.size ≡ length what.body

-- the row is that of a part that stood in the upload at the beginning and stayed
pub record TellsOfStayed (s : State) (entries : List Entry) (upload : UploadPlace) (row : PartRow) : Type 0 where
  pub what : Part (List ℕ)
  pub stayed : StayedPart s entries (record { upload = upload; number = row.number }) what
  pub is : row ≡ part_row (row.number, what)

-- the entry sends these bytes as the part, and succeeds
pub record SendsBytes (part : PartPlace) (bytes : List ℕ) (e : Entry) : Type 0 where
  pub at : sends e.command ≡ Some part
  pub brings : sent e.command ≡ Some bytes
  pub accepted : succeeds e.answer.outcome ≡ true

-- the entry copies this range of this version to the part, and succeeds
pub record CopiesPart (part : PartPlace) (asked : Read) (range : Option CopyRange) (e : Entry) : Type 0 where
  pub at : sends e.command ≡ Some part
  pub from : copies_part e.command ≡ Some (asked, range)
  pub accepted : succeeds e.answer.outcome ≡ true

-- How an entry comes to put a part in a state. Each operation that puts one has a case: one that sends its bytes puts these,
-- and a copy the range of what its source has.
pub data PartSource (s : State) (e : Entry) (part : PartPlace) (what : Part (List ℕ)) : Type 0 where
  Sent : (bytes : List ℕ) → SendsBytes part bytes e → what ≡ part_sent e.moment bytes → PartSource s e part what
  Copied : (asked : Read) → (range : Option CopyRange) → (source : Data (List ℕ)) → CopiesPart part asked range e
      → WouldGive s asked source → what ≡ part_copied e.moment range source → PartSource s e part what

-- The laws, of a history that begins at a state.
module _ (rules : Rules) (s : State) (entries : List Entry) where
  -- From a sound base an upload is open exactly from the entry that begins it, or from the beginning if it was open there, to one
  -- that ends it, with the moment, the type and the metadata that it was begun with.
  abbrev pub UploadsAreOpenUntilEnded : Type 0
  UploadsAreOpenUntilEnded =
      (upload : UploadPlace) (t : ℕ) (asked : Description)
      → IsOpen (after rules s entries) upload t asked ↔ (WasBegun entries upload t asked ⊎ StayedOpen s entries upload t asked)

  -- A part that was put with success, or stood there at the beginning, stands in its upload until one is put in its place or the
  -- upload ends,
  abbrev pub PartsAreKept : Type 0
  PartsAreKept =
      (part : PartPlace) (what : Part (List ℕ))
      → WasSent rules s entries part what ⊎ StayedPart s entries part what
      → part_in (after rules s entries) part ≡ Some what

  -- and nothing else stands there, from whichever base: each part that does was put, or stood there, and none was put in its
  -- place since.
  abbrev pub OnlySentStands : Type 0
  OnlySentStands =
      (part : PartPlace) (found : Part (List ℕ))
      → part_in (after rules s entries) part ≡ Some found
      → WasSent rules s entries part found ⊎ StayedPart s entries part found

  -- Who begins an upload is told an id, and behind the entry an upload of this id is open with what was asked for,
  abbrev pub BegunIsTold : Type 0
  BegunIsTold =
      (before later : List Entry) (begin : Entry) (address : Address) (asked : Description)
      → entries ≡ before ++ begin ∷ later
      → begins begin.command ≡ Some (address, asked)
      → succeeds begin.answer.outcome ≡ true
      → (id : ℕ) × (begin.answer.outcome ≡ outcomes.Told (documents.begun address.bucket address.key id))
      × IsOpen (after rules s (before ++ begin ∷ [])) (record { address = address; id = id }) begin.moment asked

  -- who sends a part the tag of the part that stands there behind the entry,
  abbrev pub SentIsTold : Type 0
  SentIsTold =
      (before later : List Entry) (send : Entry) (part : PartPlace) (bytes : List ℕ)
      → entries ≡ before ++ send ∷ later
      → SendsBytes part bytes send
      → (what : Part (List ℕ)) × (part_in (after rules s (before ++ send ∷ [])) part ≡ Some what)
      × (send.answer.outcome ≡ outcomes.PartPut (part_tag what))

  -- who copies one its tag, its moment and the id of its source, as a read of that would be told it,
  abbrev pub CopiedPartIsTold : Type 0
  CopiedPartIsTold =
      (before later : List Entry) (copy : Entry) (part : PartPlace) (what : Part (List ℕ)) (asked : Read) (range : Option CopyRange)
      → entries ≡ before ++ copy ∷ later
      → Sends (after rules s before) part what copy
      → copies_part copy.command ≡ Some (asked, range)
      → (source : Data (List ℕ)) × (gives : WouldGive (after rules s before) asked source)
      × (what ≡ part_copied copy.moment range source)
      × (copy.answer.outcome ≡ outcomes.PartCopied (part_tag what) copy.moment gives.found.shown)

  -- and who completes it a tag, in a document, too; it is that of what is stored (`StoredIsTold`).
  abbrev pub CompletedIsTold : Type 0
  CompletedIsTold =
      (before later : List Entry) (complete : Entry) (upload : UploadPlace) (listed : List ListedPart)
      → entries ≡ before ++ complete ∷ later
      → Completes upload listed complete
      → (tag : List ℕ) × (shown : Option VersionId)
      × (complete.answer.outcome
      ≡ outcomes.Completed (documents.completed upload.address.bucket upload.address.key tag) tag shown)

  -- A completion that succeeds stores, as an object under its key, the parts that were put last under each listed number since
  -- the upload was begun, joined in the order in which they are listed, with the type and the metadata that it was begun with.
  abbrev pub CompletionsJoinWhatWasSent : Type 0
  CompletionsJoinWhatWasSent =
      (before later : List Entry) (complete : Entry) (upload : UploadPlace) (listed : List ListedPart)
      → entries ≡ before ++ complete ∷ later
      → Completes upload listed complete
      → (what : Data (List ℕ)) × AreJoined rules s before upload listed what
      × Stores (after rules s before) complete
      (object_of (after rules s before) complete.answer.number complete.moment upload.address what)

  -- It comes back just so, by key,
  abbrev pub CompletionsAreKept : Type 0
  CompletionsAreKept =
      (before between later : List Entry) (complete read : Entry) (upload : UploadPlace) (listed : List ListedPart)
      → entries ≡ before ++ complete ∷ between ++ read ∷ later
      → Completes upload listed complete
      → LeavesKey upload.address between
      → ReadsKey upload.address read
      → (what : Data (List ℕ)) × AreJoined rules s before upload listed what × IsGiven complete.moment what read

  -- and by the version that it is told.
  abbrev pub CompletionVersionsAreKept : Type 0
  CompletionVersionsAreKept =
      (before between later : List Entry) (complete read : Entry) (upload : UploadPlace) (listed : List ListedPart) (id : VersionId)
      → entries ≡ before ++ complete ∷ between ++ read ∷ later
      → Completes upload listed complete
      → touched complete.command complete.answer.outcome upload.address ≡ id ∷ []
      → SparesVersion upload.address id between
      → ReadsVersion upload.address id read
      → (what : Data (List ℕ)) × AreJoined rules s before upload listed what × IsGiven complete.moment what read

  -- From a sound base an upload is listed exactly while it is open: with the moment at which it was begun (no key is empty).
  abbrev pub UploadsAreListedWhileOpen : Type 0
  UploadsAreListedWhileOpen =
      (upload : UploadPlace) (t : ℕ)
      → upload.address.key ≢ []
      → IsUploadListed (after rules s entries) upload t
      ↔ ((asked : Description) × (WasBegun entries upload t asked ⊎ StayedOpen s entries upload t asked))

  -- So is a part while it stands, and nothing else is (no number is 0).
  abbrev pub PartsAreListedWhileStanding : Type 0
  PartsAreListedWhileStanding =
      (upload : UploadPlace) (row : PartRow)
      → 0 < row.number
      → IsPartListed (after rules s entries) upload row
      ↔ (TellsOfSent rules s entries upload row ⊎ TellsOfStayed s entries upload row)

  -- No object shows of an upload before it is completed: what doesn't write under a key leaves its versions.
  abbrev pub OnlyWritesChangeVersions : Type 0
  OnlyWritesChangeVersions =
      (before later : List Entry) (e : Entry) (address : Address)
      → entries ≡ before ++ e ∷ later
      → ¬ Contains (writes e.command) address
      → versions_of (after rules s (before ++ e ∷ [])) address.bucket address.key
      ≡ versions_of (after rules s before) address.bucket address.key

-- A part that is sent has the bytes that were sent, and their MD5 as its digest.
abbrev pub PartsHaveTheirBytes : Type 0
PartsHaveTheirBytes =
    (s : State) (e : Entry) (part : PartPlace) (what : Part (List ℕ)) (bytes : List ℕ)
    → Sends s part what e
    → sent e.command ≡ Some bytes
    → what ≡ part_sent e.moment bytes

-- A part that is copied has the bytes of the range of what a read of its source, by the conditions of the copy, would be given.
abbrev pub CopiedPartsAreOfTheirSource : Type 0
CopiedPartsAreOfTheirSource =
    (s : State) (e : Entry) (part : PartPlace) (what : Part (List ℕ)) (asked : Read) (range : Option CopyRange)
    → Sends s part what e
    → copies_part e.command ≡ Some (asked, range)
    → (source : Data (List ℕ)) × WouldGive s asked source × (what ≡ part_copied e.moment range source)

-- A part that an entry puts has a source.
abbrev pub PartsHaveASource : Type 0
PartsHaveASource = (s : State) (e : Entry) (part : PartPlace) (what : Part (List ℕ)) → Sends s part what e → PartSource s e part what
