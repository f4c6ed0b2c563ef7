-- What a client reads back over one connection, in the bytes of its replies: what was stored, and nothing else (Amazon S3
-- User Guide, "Amazon S3 data consistency model" and "Using versioning in S3 buckets").
use Rattle.std.specs.Prelude.{◌≡◌, ℕ, true, false, List, [], ◌∷◌, ◌++◌, map, Contains, Option, Some, None, Ok}
use Rattle.std.specs.List.{AllByRecursion, AllZip, concat}
use Rattle.s3_config.specs.Settings.{Settings}
use Rattle.s3_names.specs.declared.ids.VersionId.{VersionId}
use Rattle.s3_payloads.specs.Form.{IsSentAsItIs}
use Rattle.s3_framed_bodies.specs.Framed.{IsDataOf}
use Rattle.s3_bodies.specs.Payload.{tag_of}
use Rattle.s3_versions.specs.declared.version.Data.{Data}
use Rattle.s3_uploads.specs.Parts.{part_tag}
use Rattle.s3_uploads.specs.declared.listed.ListedPart.{ListedPart}
use Rattle.s3_records.specs.Catalogue.{opening}
use Rattle.s3_conditions.specs.declared.conditions.Selection.{Selection}
use Rattle.s3_conditions.specs.declared.conditions.Selection.TheVariants.{Whole, Part, Unchanged, Outside}
use Rattle.s3_conditions.specs.Conditions.{judged}
use Rattle.s3_machine.specs.declared.command.Command.{Command}
use Rattle.s3_machine.specs.declared.command.CopyRange.{CopyRange}
use Rattle.s3_machine.specs.declared.command.Description.{Description}
use Rattle.s3_machine.specs.Step.{State, cut, part_copied}
use Rattle.s3_machine.specs.Effects.{Address, Object, UploadPlace, PartPlace, Read, writes, copies, copies_part, brings, sends, sent, completes, whole, reads, touched}
use Rattle.s3_machine.specs.History.{Entry, after}
use Rattle.s3_machine.specs.Kept.{LeavesKey, SparesVersion, Stores, WasStored, WouldGive}
use Rattle.s3_machine.specs.Rules.{rules_of}
use Rattle.s3_replies.specs.declared.context.Context.{Context}
use Rattle.s3_replies.specs.Laws.{Carries, CarriesPart, tells_success}
use Rattle.s3_session.specs.Output.{Exchange, Standing}
use Rattle.s3_session.specs.Replay.{ReplaysAs}
use Rattle.s3_session.specs.Laws.{IsSound}

-- the entry of a message that was answered
abbrev pub entry_of : Exchange → Entry
entry_of x = record { command = x.command; moment = x.context.moment; answer = x.answer }

abbrev pub entries_from : List Exchange → List Entry
entries_from exchanges = map entry_of exchanges

-- the state that messages leave
abbrev pub state_behind : Settings → List Exchange → State
state_behind settings exchanges = after (rules_of settings) (opening settings.buckets) (entries_from exchanges)

-- the message asks for this, and not for a head alone
pub record AsksFor (asked : Read) (x : Exchange) : Type 0 where
  pub read : reads x.command ≡ Some asked
  pub with_bytes : x.context.head_only ≡ false

-- the reply carries what is selected of these bytes: all, or the part that it names; nothing else is selected of them
abbrev pub Shows : Selection → List ℕ → List ℕ → Type 0
Shows Whole body reply = Carries body reply
Shows (Part first last) body reply = CarriesPart first last body reply
Shows Unchanged body reply = ⊥
Shows Outside body reply = ⊥

-- the message puts these bytes under the address, and its reply tells of success
pub record Wrote (address : Address) (body : List ℕ) (x : Exchange) : Type 0 where
  pub written : writes x.command ≡ address ∷ []
  pub brought : brings x.command ≡ Some body
  pub answered : tells_success x.reply ≡ true

-- the message copies this version to the address by these conditions, says this of it, and its reply tells of success
pub record WroteCopy (address : Address) (asked : Read) (said : Option Description) (x : Exchange) : Type 0 where
  pub written : writes x.command ≡ address ∷ []
  pub from : copies x.command ≡ Some (asked, said)
  pub answered : tells_success x.reply ≡ true

-- the message completes the upload with these parts, and its reply tells of success
pub record WroteParts (upload : UploadPlace) (listed : List ListedPart) (x : Exchange) : Type 0 where
  pub asks : completes x.command ≡ Some (upload, listed)
  pub answered : tells_success x.reply ≡ true

-- the message sends these bytes as the part, and its reply tells of success
pub record SentPart (part : PartPlace) (bytes : List ℕ) (x : Exchange) : Type 0 where
  pub at : sends x.command ≡ Some part
  pub brings : sent x.command ≡ Some bytes
  pub answered : tells_success x.reply ≡ true

-- the message copies this range of this version to the part, and its reply tells of success
pub record CopiedPart (part : PartPlace) (asked : Read) (range : Option CopyRange) (x : Exchange) : Type 0 where
  pub at : sends x.command ≡ Some part
  pub from : copies_part x.command ≡ Some (asked, range)
  pub answered : tells_success x.reply ≡ true

-- How a message, in the state before it, puts these bytes as a part that has this tag. It sends them, and the tag is theirs; or
-- they are the range that it copies of what a read of its source, by the conditions of the copy, would be given, and the tag is
-- that of such a part.
pub data PutsPart (s : State) (part : PartPlace) (tag bytes : List ℕ) (x : Exchange) : Type 0 where
  Sent : SentPart part bytes x → tag ≡ tag_of bytes → PutsPart s part tag bytes x
  Copied : (asked : Read) → (range : Option CopyRange) → (source : Data (List ℕ)) → CopiedPart part asked range x
      → WouldGive s asked source → bytes ≡ cut range source.body → tag ≡ part_tag (part_copied x.context.moment range source)
      → PutsPart s part tag bytes x

-- the message puts nothing as the part, or its reply doesn't tell of success
abbrev pub LeavesPart : PartPlace → Exchange → Type 0
LeavesPart part x = sends x.command ≡ Some part → tells_success x.reply ≡ false

-- the part of a listed number
abbrev pub place_listed : UploadPlace → ListedPart → PartPlace
place_listed upload listed = record { upload = upload; number = listed.number }

-- one of these messages put these bytes to the upload under a listed number and the tag that is listed, and none behind it put
-- others
pub record WasPutLast (settings : Settings) (messages : List Exchange) (upload : UploadPlace) (listed : ListedPart) (bytes : List ℕ) : Type 0 where
  pub before : List Exchange
  pub put : Exchange
  pub later : List Exchange
  pub parts : messages ≡ before ++ put ∷ later
  pub puts : PutsPart (state_behind settings before) (place_listed upload listed) listed.tag bytes put
  pub last : AllByRecursion (LeavesPart (place_listed upload listed)) later

-- the reply carries the bytes of the listed parts of the upload, as these messages put them last, one part behind another
pub record CarriesParts (settings : Settings) (messages : List Exchange) (upload : UploadPlace) (listed : List ListedPart) (reply : List ℕ) : Type 0 where
  pub bodies : List (List ℕ)
  pub put : AllZip (WasPutLast settings messages upload) listed bodies
  pub carried : Carries (concat bodies) reply

-- the message doesn't write under the address, or its reply doesn't tell of success
abbrev pub LeavesAlone : Address → Exchange → Type 0
LeavesAlone address x = Contains (writes x.command) address → tells_success x.reply ≡ false

-- the message, if it writes under the address with success, makes, replaces and deletes no version of this id there
abbrev pub SparesId : Address → VersionId → Exchange → Type 0
SparesId address id x =
    Contains (writes x.command) address → tells_success x.reply ≡ true
    → ¬ Contains (touched x.command x.answer.outcome address) id

-- What holds of the messages of every replay.
abbrev pub EveryReplay : (Settings → List Exchange → Type 0) → Type 0
EveryReplay Law =
    (standing : Standing) (settings : Settings) (moment : ℕ) (bytes out : List ℕ)
    (replay : ReplaysAs standing settings moment bytes out)
    → Law settings replay.writes.serves.exchanges

-- The laws, of messages that were answered one after another.
module _ (settings : Settings) (exchanges : List Exchange) where
  -- By key: the reply to a read carries exactly the bytes that the last message which changed the key stored.
  abbrev pub StoredIsReadBack : Type 0
  StoredIsReadBack =
      (before between later : List Exchange) (write read : Exchange) (object : Object)
      → exchanges ≡ before ++ write ∷ between ++ read ∷ later
      → Stores (state_behind settings before) (entry_of write) object
      → LeavesKey object.address (entries_from between)
      → AsksFor (whole object.address None) read
      → Carries object.stored.body read.reply

  -- By version: the reply to a read of a version carries exactly the bytes that were stored in it, until a message
  -- replaces or deletes it.
  abbrev pub VersionsAreReadBack : Type 0
  VersionsAreReadBack =
      (before between later : List Exchange) (write read : Exchange) (object : Object)
      → exchanges ≡ before ++ write ∷ between ++ read ∷ later
      → Stores (state_behind settings before) (entry_of write) object
      → SparesVersion object.address object.id (entries_from between)
      → AsksFor (whole object.address (Some object.id)) read
      → Carries object.stored.body read.reply

  -- And where the reply to a read tells of success, it carries what a message before it stored under its address, whose
  -- version no message between them replaced or deleted. That need not be the last write there: where a version is
  -- deleted, the one before it is the current one again. In a bucket whose versioning was never set all versions have the
  -- id null, and it is the last.
  abbrev pub OnlyStoredIsReadBack : Type 0
  OnlyStoredIsReadBack =
      (earlier later : List Exchange) (read : Exchange) (address : Address) (version : Option VersionId)
      → exchanges ≡ earlier ++ read ∷ later
      → AsksFor (whole address version) read
      → tells_success read.reply ≡ true
      → (object : Object) × (object.address ≡ address) × ((v : VersionId) → version ≡ Some v → v ≡ object.id)
      × WasStored (rules_of settings) (opening settings.buckets) (entries_from earlier) object × Carries object.stored.body read.reply

  -- And where the reply to a read by conditions tells of success, they select all of what was stored so, or a part of it, and
  -- it carries that.
  abbrev pub OnlyStoredIsShown : Type 0
  OnlyStoredIsShown =
      (earlier later : List Exchange) (read : Exchange) (asked : Read)
      → exchanges ≡ earlier ++ read ∷ later
      → AsksFor asked read
      → tells_success read.reply ≡ true
      → (object : Object) × (object.address ≡ asked.address) × ((v : VersionId) → asked.version ≡ Some v → v ≡ object.id)
      × WasStored (rules_of settings) (opening settings.buckets) (entries_from earlier) object
      × (selection : Selection) × (judged asked.conditions object.moment object.stored.tag object.stored.size ≡ Ok selection)
      × Shows selection object.stored.body read.reply

  -- So a put whose reply tells of success is read back: by its key, until a message there does so too,
  abbrev pub PutsAreReadBack : Type 0
  PutsAreReadBack =
      (before between later : List Exchange) (put read : Exchange) (address : Address) (body : List ℕ)
      → exchanges ≡ before ++ put ∷ between ++ read ∷ later
      → Wrote address body put
      → AllByRecursion (LeavesAlone address) between
      → AsksFor (whole address None) read
      → Carries body read.reply

  -- and by the version that it made, until a message replaces or deletes that.
  abbrev pub PutVersionsAreReadBack : Type 0
  PutVersionsAreReadBack =
      (before between later : List Exchange) (put read : Exchange) (address : Address) (id : VersionId) (body : List ℕ)
      → exchanges ≡ before ++ put ∷ between ++ read ∷ later
      → Wrote address body put
      → touched put.command put.answer.outcome address ≡ id ∷ []
      → AllByRecursion (SparesId address id) between
      → AsksFor (whole address (Some id)) read
      → Carries body read.reply

  -- The bytes that a copy whose reply tells of success found at its source, as a read of that by its conditions would have been
  -- given them, are read back in the same way, whatever the copy says beside them: by the key to which it was copied,
  abbrev pub CopiesAreReadBack : Type 0
  CopiesAreReadBack =
      (before between later : List Exchange) (copy read : Exchange) (address : Address) (asked : Read)
      (said : Option Description)
      → exchanges ≡ before ++ copy ∷ between ++ read ∷ later
      → WroteCopy address asked said copy
      → AllByRecursion (LeavesAlone address) between
      → AsksFor (whole address None) read
      → (what : Data (List ℕ)) × WouldGive (state_behind settings before) asked what × Carries what.body read.reply

  -- and by the version that the copy made.
  abbrev pub CopyVersionsAreReadBack : Type 0
  CopyVersionsAreReadBack =
      (before between later : List Exchange) (copy read : Exchange) (address : Address) (asked : Read)
      (said : Option Description) (id : VersionId)
      → exchanges ≡ before ++ copy ∷ between ++ read ∷ later
      → WroteCopy address asked said copy
      → touched copy.command copy.answer.outcome address ≡ id ∷ []
      → AllByRecursion (SparesId address id) between
      → AsksFor (whole address (Some id)) read
      → (what : Data (List ℕ)) × WouldGive (state_behind settings before) asked what × Carries what.body read.reply

  -- And what is read back of a completion whose reply tells of success are the bytes of its parts, in the order in which it lists
  -- them: each those of the last message before it that put a part of this number to the upload, sent or copied, and whose reply
  -- told of success. They are read back by the key of the upload,
  abbrev pub CompletionsAreReadBack : Type 0
  CompletionsAreReadBack =
      (before between later : List Exchange) (complete read : Exchange) (upload : UploadPlace) (listed : List ListedPart)
      → exchanges ≡ before ++ complete ∷ between ++ read ∷ later
      → WroteParts upload listed complete
      → AllByRecursion (LeavesAlone upload.address) between
      → AsksFor (whole upload.address None) read
      → CarriesParts settings before upload listed read.reply

  -- and by the version that the completion made.
  abbrev pub CompletionVersionsAreReadBack : Type 0
  CompletionVersionsAreReadBack =
      (before between later : List Exchange) (complete read : Exchange) (upload : UploadPlace) (listed : List ListedPart)
      (id : VersionId)
      → exchanges ≡ before ++ complete ∷ between ++ read ∷ later
      → WroteParts upload listed complete
      → touched complete.command complete.answer.outcome upload.address ≡ id ∷ []
      → AllByRecursion (SparesId upload.address id) between
      → AsksFor (whole upload.address (Some id)) read
      → CarriesParts settings before upload listed read.reply

-- The bytes that commands have so are the payloads of the bodies of their messages, which are the data of the bodies where these are
-- sent as they are.
abbrev pub ArePayloads : (Command → Option (List ℕ)) → Type 0
ArePayloads bytes_of =
    (settings : Settings) (moment : ℕ) (bytes rest : List ℕ) (context : Context) (command : Command) (taken : List ℕ)
    → (sound : IsSound settings moment bytes context command rest)
    → bytes_of command ≡ Some taken
    → (taken ≡ sound.payload) × (IsSentAsItIs sound.asks.announced.form → IsDataOf sound.asks.announced.framing sound.body taken)

-- those that a put brings,
abbrev pub PayloadsAreBrought : Type 0
PayloadsAreBrought = ArePayloads brings

-- and those that are sent as a part
abbrev pub PayloadsAreSent : Type 0
PayloadsAreSent = ArePayloads sent
