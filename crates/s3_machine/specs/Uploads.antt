-- What becomes of an upload in a history: an entry begins it, others put parts to it, and one completes or aborts it.
use Rattle.std.specs.Prelude.{◌≡◌, ◌⊎◌, ℕ, true, false, List, [], ◌∷◌, ◌++◌, length, map as each, Some}
use Rattle.std.specs.List.{AllByRecursion, AllZip, concat}
use Rattle.md5.specs.Md5.{md5}
use Rattle.s3_names.specs.Tags.{joined_text}
use Rattle.s3_versions.specs.declared.version.Data.{Data}
use Rattle.s3_uploads.specs.Parts.{part_tag}
use Rattle.s3_uploads.specs.declared.listed.ListedPart.{ListedPart}
use Rattle.s3_uploads.specs.declared.part.Part.{Part}
use Rattle.s3_uploads.specs.declared.upload.Upload.{Upload}
use Rattle.s3_machine.specs.declared.command.Description.{Description}
use Rattle.s3_machine.specs.declared.rules.Rules.{Rules}
use Rattle.s3_machine.specs.Step.{State}
use Rattle.s3_machine.specs.Effects.{UploadPlace, PartPlace, open_at, part_in, begins, sends, puts_part, completes, ends, succeeds}
use Rattle.s3_machine.specs.History.{Entry, after}

-- the entry begins this upload with these, and succeeds: the upload's id is the entry's number
pub record Begins (upload : UploadPlace) (asked : Description) (e : Entry) : Type 0 where
  pub at : begins e.command ≡ Some (upload.address, asked)
  pub numbered : upload.id ≡ e.answer.number
  pub accepted : succeeds e.answer.outcome ≡ true

-- in this state the entry puts this part, of bytes that it sends or of a version that it copies, and succeeds
pub record Sends (s : State) (part : PartPlace) (what : Part (List ℕ)) (e : Entry) : Type 0 where
  pub at : sends e.command ≡ Some part
  pub puts : puts_part s e.moment e.command ≡ Some what
  pub accepted : succeeds e.answer.outcome ≡ true

-- the entry completes this upload with these parts, and succeeds
pub record Completes (upload : UploadPlace) (listed : List ListedPart) (e : Entry) : Type 0 where
  pub asks : completes e.command ≡ Some (upload, listed)
  pub accepted : succeeds e.answer.outcome ≡ true

-- the entry, if it is to complete or abort the upload, doesn't succeed
abbrev pub KeepsOpen : UploadPlace → Entry → Type 0
KeepsOpen upload e = ends e.command ≡ Some upload → succeeds e.answer.outcome ≡ false

-- no entry that succeeds ends it
abbrev pub StaysOpen : UploadPlace → List Entry → Type 0
StaysOpen upload entries = AllByRecursion (KeepsOpen upload) entries

-- the entry, if it is to put this part, doesn't succeed
abbrev pub KeepsPart : PartPlace → Entry → Type 0
KeepsPart part e = sends e.command ≡ Some part → succeeds e.answer.outcome ≡ false

-- no entry that succeeds replaces it
abbrev pub StaysPart : PartPlace → List Entry → Type 0
StaysPart part entries = AllByRecursion (KeepsPart part) entries

-- the upload was begun with these at moment t by one of the entries, and none behind that one ended it
pub record WasBegun (entries : List Entry) (upload : UploadPlace) (t : ℕ) (asked : Description) : Type 0 where
  pub before : List Entry
  pub begin : Entry
  pub since : List Entry
  pub parts : entries ≡ before ++ begin ∷ since
  pub begins : Begins upload asked begin
  pub moment : begin.moment ≡ t
  pub stays : StaysOpen upload since

-- the part was put so by one of the entries, which begin at a state, and none behind that one replaced it or ended its upload
pub record WasSent (rules : Rules) (s : State) (entries : List Entry) (part : PartPlace) (what : Part (List ℕ)) : Type 0 where
  pub before : List Entry
  pub send : Entry
  pub later : List Entry
  pub parts : entries ≡ before ++ send ∷ later
  pub sends : Sends (after rules s before) part what send
  pub last : StaysPart part later
  pub stays : StaysOpen part.upload later

-- the upload is open in this state, and was begun with these at moment t
pub record IsOpen (s : State) (upload : UploadPlace) (t : ℕ) (asked : Description) : Type 0 where
  pub found : Upload (List ℕ)
  pub there : open_at s upload ≡ Some found
  pub moment : found.moment ≡ t
  pub content_type : found.content_type ≡ asked.content_type
  pub metadata : found.metadata ≡ asked.metadata

-- the upload was open at the beginning with these, begun at moment t, and no entry ended it
pub record StayedOpen (s : State) (entries : List Entry) (upload : UploadPlace) (t : ℕ) (asked : Description) : Type 0 where
  pub at_base : IsOpen s upload t asked
  pub stays : StaysOpen upload entries

-- the part stood in its upload at the beginning, and no entry replaced it or ended its upload
pub record StayedPart (s : State) (entries : List Entry) (part : PartPlace) (what : Part (List ℕ)) : Type 0 where
  pub at_base : part_in s part ≡ Some what
  pub last : StaysPart part entries
  pub stays : StaysOpen part.upload entries

-- this part is the last that the entries put to the upload under a listed number, and the listed tag is its own
pub record IsListedPart (rules : Rules) (s : State) (entries : List Entry) (upload : UploadPlace) (listed : ListedPart) (what : Part (List ℕ)) : Type 0 where
  pub last : WasSent rules s entries (record { upload = upload; number = listed.number }) what
  pub tag : listed.tag ≡ part_tag what

-- so is this one, or it stood in the upload at the beginning
pub record IsListedOrStayed (rules : Rules) (s : State) (entries : List Entry) (upload : UploadPlace) (listed : ListedPart)
    (what : Part (List ℕ)) : Type 0 where
  pub last : WasSent rules s entries (record { upload = upload; number = listed.number }) what
      ⊎ StayedPart s entries (record { upload = upload; number = listed.number }) what
  pub tag : listed.tag ≡ part_tag what

-- the state behind the entry that begins an upload
abbrev pub begun_state : Rules → State → {entries : List Entry} {upload : UploadPlace} {t : ℕ} {asked : Description} → WasBegun entries upload t asked → State
begun_state rules s begun = after rules s (begun.before ++ begun.begin ∷ [])

-- Where the listed parts of an upload are from that was begun with these at moment t: an entry began it, and they were put last
-- under their numbers since; or it was open at the beginning, and they were put last since, or stood in it and stayed.
pub data PartsFrom (rules : Rules) (s : State) (entries : List Entry) (upload : UploadPlace) (listed : List ListedPart) (t : ℕ)
    (asked : Description) (made : List (Part (List ℕ))) : Type 0 where
  FromBegun : (begun : WasBegun entries upload t asked)
      → AllZip (IsListedPart rules (begun_state rules s begun) begun.since upload) listed made
      → PartsFrom rules s entries upload listed t asked made
  FromBase : StayedOpen s entries upload t asked → AllZip (IsListedOrStayed rules s entries upload) listed made
      → PartsFrom rules s entries upload listed t asked made

-- These data are what a completion of the upload with these parts stores behind the entries, which begin at a state: the bytes
-- of the parts that stand last under each listed number, in the order in which they are listed, with the tag of their digests
-- and their count, and with the type and the metadata that the upload was begun with.
pub record AreJoined (rules : Rules) (s : State) (entries : List Entry) (upload : UploadPlace) (listed : List ListedPart) (what : Data (List ℕ)) : Type 0 where
  pub moment : ℕ
  pub asked : Description
  pub made : List (Part (List ℕ))
  pub parts : PartsFrom rules s entries upload listed moment asked made
  pub body : what.body ≡ concat (each (λ (part : Part (List ℕ)). part.body) made)
  pub size : what.size ≡ length what.body
  pub tag : what.tag ≡ joined_text (md5 (concat (each (λ (part : Part (List ℕ)). part.digest) made))) (length made)
  pub content_type : what.content_type ≡ asked.content_type
  pub metadata : what.metadata ≡ asked.metadata

-- these data were joined so by one of the entries
pub record WasJoined (rules : Rules) (s : State) (entries : List Entry) (what : Data (List ℕ)) : Type 0 where
  pub before : List Entry
  pub complete : Entry
  pub later : List Entry
  pub parts : entries ≡ before ++ complete ∷ later
  pub upload : UploadPlace
  pub listed : List ListedPart
  pub completes : Completes upload listed complete
  pub joined : AreJoined rules s before upload listed what
