-- What the machine keeps: what an entry stored comes back and nothing else does, by its key and by its version; a
-- delete marker hides and takes nothing away; what was refused or only read changes nothing.
use Rattle.std.specs.Prelude.{◌≡◌, ◌⊎◌, ℕ, true, false, List, [], ◌∷◌, ◌++◌, Contains, Option, Some, None, is_some, Ok}
use Rattle.std.specs.List.{AllByRecursion}
use Rattle.s3_terms.specs.declared.code.Code.TheVariants.{NoSuchKey}
use Rattle.s3_names.specs.declared.ids.VersionId.{VersionId}
use Rattle.s3_bodies.specs.Payload.{tag_of}
use Rattle.s3_conditions.specs.declared.conditions.Conditions.{Conditions}
use Rattle.s3_conditions.specs.declared.conditions.Selection.{Selection}
use Rattle.s3_conditions.specs.Conditions.{judged}
use Rattle.s3_versions.specs.declared.picking.Facts.{Facts}
use Rattle.s3_versions.specs.declared.version.Data.{Data}
use Rattle.s3_versions.specs.declared.version.Version.{Version}
use Rattle.s3_versions.specs.Metadata.{Entry as MetadataEntry}
use Rattle.s3_versions.specs.Rules.{stored}
use Rattle.s3_uploads.specs.Completion.{parts_listed, joined_data}
use Rattle.s3_uploads.specs.declared.listed.ListedPart.{ListedPart}
use Rattle.s3_uploads.specs.declared.upload.Upload.{Upload}
use Rattle.s3_records.specs.Places.{version_at}
use Rattle.s3_machine.specs.declared.command.Command.{Command}
use Rattle.s3_machine.specs.declared.command.Description.{Description}
use Rattle.s3_machine.specs.declared.command.Found.{Found}
use Rattle.s3_machine.specs.declared.command.Outcome.{Outcome}
use Rattle.s3_machine.specs.declared.command.Outcome.TheVariants as outcomes
use Rattle.s3_machine.specs.declared.rules.Rules.{Rules}
use Rattle.s3_machine.specs.Step.{State, described, step}
use Rattle.s3_machine.specs.Effects.{Address, Object, UploadPlace, Read, open_at, writes, hides, copies, completes, brought, brings, object_of, stored_by, whole, reads, overrides_of, given, given_whole, found_object, acknowledged, touched, is_refused, succeeds, only_reads}
use Rattle.s3_machine.specs.History.{Entry, Legal, after}
use Rattle.s3_machine.specs.Laws.{IsListed}
use Rattle.s3_machine.specs.Uploads.{Completes, WasJoined}

-- the entry, if it may change the versions of the address, doesn't succeed
abbrev pub Leaves : Address → Entry → Type 0
Leaves address e = Contains (writes e.command) address → succeeds e.answer.outcome ≡ false

-- no entry that succeeds changes them
abbrev pub LeavesKey : Address → List Entry → Type 0
LeavesKey address entries = AllByRecursion (Leaves address) entries

-- the entry, if it may change the versions of the address and succeeds, doesn't touch this id
abbrev pub Spares : Address → VersionId → Entry → Type 0
Spares address id e =
    Contains (writes e.command) address → succeeds e.answer.outcome ≡ true
    → ¬ Contains (touched e.command e.answer.outcome address) id

-- no entry makes, replaces or deletes the version of this id there
abbrev pub SparesVersion : Address → VersionId → List Entry → Type 0
SparesVersion address id entries = AllByRecursion (Spares address id) entries

-- in this state the entry, which succeeded, stored this object
pub record Stores (s : State) (e : Entry) (object : Object) : Type 0 where
  pub by : stored_by s e.answer.number e.moment e.command ≡ Some object
  pub accepted : succeeds e.answer.outcome ≡ true

-- the object was stored by one of the entries, and none behind that one touched its id
pub record WasStored (rules : Rules) (s : State) (entries : List Entry) (object : Object) : Type 0 where
  pub before : List Entry
  pub write : Entry
  pub between : List Entry
  pub parts : entries ≡ before ++ write ∷ between
  pub stores : Stores (after rules s before) write object
  pub spared : SparesVersion object.address object.id between

-- what is known of an object beside what its put sent
abbrev pub facts_stored : Object → Facts
facts_stored object = record { moment = object.moment; tag = object.stored.tag; size = object.stored.size }

-- an object of which these facts are known was stored so at the address
pub record WasStoredWith (rules : Rules) (s : State) (entries : List Entry) (address : Address) (facts : Facts) : Type 0 where
  pub object : Object
  pub at : object.address ≡ address
  pub known : facts_stored object ≡ facts
  pub stored : WasStored rules s entries object

-- the entry tells what it stored: where it writes, and nowhere else, the one id that it touches there, and the tag
pub record Tells (object : Object) (e : Entry) : Type 0 where
  pub written : writes e.command ≡ object.address ∷ []
  pub under : touched e.command e.answer.outcome object.address ≡ object.id ∷ []
  pub tagged : acknowledged e.answer.outcome ≡ Some object.stored.tag

-- the object stands in this state
pub record Stands (s : State) (object : Object) : Type 0 where
  pub version : Version (List ℕ)
  pub there : version_at s object.address.bucket object.address.key object.id ≡ Some version
  pub moment : version.moment ≡ object.moment
  pub holds : stored version ≡ Some object.stored

-- the object stood at the beginning, and no entry touched its id
pub record Stayed (s : State) (entries : List Entry) (object : Object) : Type 0 where
  pub at_base : Stands s object
  pub spared : SparesVersion object.address object.id entries

-- an object of which these facts are known stayed so at the address
pub record StayedWith (s : State) (entries : List Entry) (address : Address) (facts : Facts) : Type 0 where
  pub object : Object
  pub at : object.address ≡ address
  pub known : facts_stored object ≡ facts
  pub stayed : Stayed s entries object

-- these are the data of an object that stood at the beginning
pub record Stood (s : State) (what : Data (List ℕ)) : Type 0 where
  pub object : Object
  pub at_base : Stands s object
  pub holds : object.stored ≡ what

-- the entry reads the current version of the address, or the version of an id, without conditions
abbrev pub ReadsKey : Address → Entry → Type 0
ReadsKey address e = reads e.command ≡ Some (whole address None)

abbrev pub ReadsVersion : Address → VersionId → Entry → Type 0
ReadsVersion address id e = reads e.command ≡ Some (whole address (Some id))

-- the entry reads the current version of the address, by whichever conditions
pub record AsksForKey (address : Address) (e : Entry) : Type 0 where
  pub conditions : Conditions
  pub read : reads e.command ≡ Some (record { address = address; version = None; conditions = conditions })

-- it is given all of these data, of moment t
pub record IsGiven (t : ℕ) (what : Data (List ℕ)) (e : Entry) : Type 0 where
  pub found : Found (List ℕ)
  pub gives : given_whole e.answer.outcome ≡ Some found
  pub moment : found.moment ≡ t
  pub holds : found.stored ≡ what

-- what is told is what these conditions select of a version, bytes among it
pub record IsShown (conditions : Conditions) (outcome : Outcome) : Type 0 where
  pub found : Found (List ℕ)
  pub selection : Selection
  pub overrides : List MetadataEntry
  pub shows : outcome ≡ outcomes.Got found selection overrides
  pub gives : given outcome ≡ Some found
  pub selects : judged conditions found.moment found.stored.tag found.stored.size ≡ Ok selection

-- the version that was found has this id: the one that was named, if one was, and the one that is shown, if it is
pub record IsFoundUnder (id : VersionId) (asked : Read) (found : Found (List ℕ)) : Type 0 where
  pub named : (v : VersionId) → asked.version ≡ Some v → v ≡ id
  pub shown : (v : VersionId) → found.shown ≡ Some v → v ≡ id

-- the entry puts these data under the address, and succeeds
pub record Puts (address : Address) (what : Data (List ℕ)) (e : Entry) : Type 0 where
  pub written : writes e.command ≡ address ∷ []
  pub brings : brought e.command ≡ Some what
  pub accepted : succeeds e.answer.outcome ≡ true

-- the entry copies this version to the address by these conditions, says this of it, and succeeds
pub record Copies (address : Address) (asked : Read) (said : Option Description) (e : Entry) : Type 0 where
  pub written : writes e.command ≡ address ∷ []
  pub from : copies e.command ≡ Some (asked, said)
  pub accepted : succeeds e.answer.outcome ≡ true

-- in this state each read of that version by these conditions is given all of these data, and could be the next entry
pub record WouldGive (s : State) (asked : Read) (what : Data (List ℕ)) : Type 0 where
  pub found : Found (List ℕ)
  pub gives : (rules : Rules) (n t : ℕ) (read : Command) → reads read ≡ Some asked → given_whole (step rules s n t read).1 ≡ Some found
  pub holds : found.stored ≡ what

-- in this state the upload is open, and its parts that are listed make these data
pub record WouldMake (s : State) (upload : UploadPlace) (listed : List ListedPart) (what : Data (List ℕ)) : Type 0 where
  pub found : Upload (List ℕ)
  pub there : open_at s upload ≡ Some found
  pub makes : what ≡ joined_data found (parts_listed listed found.parts)

-- How an entry comes to store an object in a state. Each operation that stores one has a case: a put stores what it
-- brings, a copy what its source has, as it says of it, and a completion what the listed parts of its upload make.
pub data Source (s : State) (e : Entry) (object : Object) : Type 0 where
  Put : Puts object.address object.stored e → Source s e object
  Copy : (asked : Read) → (said : Option Description) → (source : Data (List ℕ)) → Copies object.address asked said e
      → WouldGive s asked source → object.stored ≡ described said source → Source s e object
  Completion : (upload : UploadPlace) → (listed : List ListedPart) → upload.address ≡ object.address
      → Completes upload listed e → WouldMake s upload listed object.stored → Source s e object

-- these data were put by one of the entries
pub record WasPut (entries : List Entry) (what : Data (List ℕ)) : Type 0 where
  pub before : List Entry
  pub put : Entry
  pub later : List Entry
  pub parts : entries ≡ before ++ put ∷ later
  pub address : Address
  pub puts : Puts address what put

-- these are those data, as one of the entries said of a copy
pub record WasDescribed (entries : List Entry) (origin what : Data (List ℕ)) : Type 0 where
  pub before : List Entry
  pub copy : Entry
  pub later : List Entry
  pub parts : entries ≡ before ++ copy ∷ later
  pub address : Address
  pub asked : Read
  pub said : Description
  pub copies : Copies address asked (Some said) copy
  pub is : what ≡ described (Some said) origin

-- the entry deletes the key, names no version, and makes a delete marker
pub record Marks (address : Address) (e : Entry) : Type 0 where
  pub deletes : hides e.command ≡ Some address
  pub id : VersionId
  pub marked : e.answer.outcome ≡ outcomes.Deleted (Some id) true

-- What holds of all legal histories.
abbrev pub EveryHistory : (Rules → State → List Entry → Type 0) → Type 0
EveryHistory Law = (rules : Rules) (s : State) (n : ℕ) (entries : List Entry) → Legal rules s n entries → Law rules s entries

-- The laws, of a history that begins at a state.
module _ (rules : Rules) (s : State) (entries : List Entry) where
  -- By key: a read of a key is given what the last entry that changed its versions stored, if that stored something.
  abbrev pub StoredIsKept : Type 0
  StoredIsKept =
      (before between later : List Entry) (write read : Entry) (object : Object)
      → entries ≡ before ++ write ∷ between ++ read ∷ later
      → Stores (after rules s before) write object
      → LeavesKey object.address between
      → ReadsKey object.address read
      → IsGiven object.moment object.stored read

  -- By version: a read of the version that an entry stored is given it, as long as no entry touches its id: one of a
  -- number is never made again, so as long as nobody deletes that version.
  abbrev pub VersionsAreKept : Type 0
  VersionsAreKept =
      (before between later : List Entry) (write read : Entry) (object : Object)
      → entries ≡ before ++ write ∷ between ++ read ∷ later
      → Stores (after rules s before) write object
      → SparesVersion object.address object.id between
      → ReadsVersion object.address object.id read
      → IsGiven object.moment object.stored read

  -- What is stored is told.
  abbrev pub StoredIsTold : Type 0
  StoredIsTold =
      (before later : List Entry) (write : Entry) (object : Object)
      → entries ≡ before ++ write ∷ later
      → Stores (after rules s before) write object
      → Tells object write

  -- By list: at the end a key is listed with what the last entry that changed its versions stored, if that stored something.
  abbrev pub StoredIsListed : Type 0
  StoredIsListed =
      (before between : List Entry) (write : Entry) (object : Object)
      → entries ≡ before ++ write ∷ between
      → Stores (after rules s before) write object
      → LeavesKey object.address between
      → IsListed (after rules s entries) object.address (facts_stored object)

  -- And nothing else: from a sound base each object that stands at the end was stored, or stood at the beginning and stayed,
  abbrev pub OnlyStoredStands : Type 0
  OnlyStoredStands =
      (object : Object)
      → Stands (after rules s entries) object
      → WasStored rules s entries object ⊎ Stayed s entries object

  -- and so was what a read is given, by whichever conditions, before it.
  abbrev pub OnlyStoredIsGiven : Type 0
  OnlyStoredIsGiven =
      (earlier later : List Entry) (read : Entry) (asked : Read) (found : Found (List ℕ))
      → entries ≡ earlier ++ read ∷ later
      → reads read.command ≡ Some asked
      → given read.answer.outcome ≡ Some found
      → (id : VersionId) × IsFoundUnder id asked found
      × (WasStored rules s earlier (found_object asked.address id found) ⊎ Stayed s earlier (found_object asked.address id found))

  -- Nor is anything else listed.
  abbrev pub ListedIsStored : Type 0
  ListedIsStored =
      (address : Address) (facts : Facts)
      → IsListed (after rules s entries) address facts
      → WasStoredWith rules s entries address facts ⊎ StayedWith s entries address facts

  -- However often data were copied since, a put brought them once, or a completion joined them once, or they stood at the
  -- beginning; but for the type and the metadata that a copy said of them.
  abbrev pub StoredWasBrought : Type 0
  StoredWasBrought =
      (earlier later : List Entry) (object : Object)
      → entries ≡ earlier ++ later
      → WasStored rules s earlier object
      → (origin : Data (List ℕ)) × (WasPut earlier origin ⊎ (WasJoined rules s earlier origin ⊎ Stood s origin))
      × ((object.stored ≡ origin) ⊎ WasDescribed earlier origin object.stored)

  -- A read without conditions hands out all of a version, or doesn't succeed.
  abbrev pub ReadsGiveOrFail : Type 0
  ReadsGiveOrFail =
      (before later : List Entry) (read : Entry) (address : Address) (version : Option VersionId)
      → entries ≡ before ++ read ∷ later
      → reads read.command ≡ Some (whole address version)
      → is_some (given_whole read.answer.outcome) ≡ succeeds read.answer.outcome

  -- A read by whichever conditions is shown what they select of a version, or doesn't succeed.
  abbrev pub ReadsAreJudged : Type 0
  ReadsAreJudged =
      (before later : List Entry) (read : Entry) (asked : Read)
      → entries ≡ before ++ read ∷ later
      → reads read.command ≡ Some asked
      → succeeds read.answer.outcome ≡ true
      → IsShown asked.conditions read.answer.outcome

  -- What the reply to a read says of a version in the place of what is kept is what the read asked for.
  abbrev pub RepliesSayWhatIsAsked : Type 0
  RepliesSayWhatIsAsked =
      (before later : List Entry) (read : Entry) (asked : Read) (found : Found (List ℕ)) (selection : Selection)
      (overrides : List MetadataEntry)
      → entries ≡ before ++ read ∷ later
      → reads read.command ≡ Some asked
      → read.answer.outcome ≡ outcomes.Got found selection overrides
      → overrides ≡ overrides_of read.command

  -- A delete marker hides: a read of the key is answered that there is no such key, and that it is a delete marker, until
  -- an entry changes the versions of the key. That it takes nothing away is said by version: it touches its own id alone.
  abbrev pub MarkersHide : Type 0
  MarkersHide =
      (before between later : List Entry) (mark read : Entry) (address : Address)
      → entries ≡ before ++ mark ∷ between ++ read ∷ later
      → Marks address mark
      → LeavesKey address between
      → AsksForKey address read
      → read.answer.outcome ≡ outcomes.Refused NoSuchKey true

  -- An entry that is refused leaves the state as it was, and so does one that only reads.
  abbrev pub QuietEntriesChangeNothing : Type 0
  QuietEntriesChangeNothing =
      (before later : List Entry) (e : Entry)
      → entries ≡ before ++ e ∷ later
      → ((is_refused e.answer.outcome ≡ true) ⊎ (only_reads e.command ≡ true))
      → after rules s (before ++ e ∷ []) ≡ after rules s before

  -- So a put that succeeds comes back: its type, its metadata and its bytes, by key,
  abbrev pub PutsAreKept : Type 0
  PutsAreKept =
      (before between later : List Entry) (put read : Entry) (address : Address) (what : Data (List ℕ))
      → entries ≡ before ++ put ∷ between ++ read ∷ later
      → Puts address what put
      → LeavesKey address between
      → ReadsKey address read
      → IsGiven put.moment what read

  -- and by the version that it is told.
  abbrev pub PutVersionsAreKept : Type 0
  PutVersionsAreKept =
      (before between later : List Entry) (put read : Entry) (address : Address) (what : Data (List ℕ)) (id : VersionId)
      → entries ≡ before ++ put ∷ between ++ read ∷ later
      → Puts address what put
      → touched put.command put.answer.outcome address ≡ id ∷ []
      → SparesVersion address id between
      → ReadsVersion address id read
      → IsGiven put.moment what read

  -- What a copy finds at its source comes back as it says of it, by key,
  abbrev pub CopiesAreKept : Type 0
  CopiesAreKept =
      (before between later : List Entry) (copy read : Entry) (address : Address) (asked : Read) (said : Option Description)
      → entries ≡ before ++ copy ∷ between ++ read ∷ later
      → Copies address asked said copy
      → LeavesKey address between
      → ReadsKey address read
      → (what : Data (List ℕ)) × WouldGive (after rules s before) asked what × IsGiven copy.moment (described said what) read

  -- and by version.
  abbrev pub CopyVersionsAreKept : Type 0
  CopyVersionsAreKept =
      (before between later : List Entry) (copy read : Entry) (address : Address) (asked : Read) (said : Option Description)
      (id : VersionId)
      → entries ≡ before ++ copy ∷ between ++ read ∷ later
      → Copies address asked said copy
      → touched copy.command copy.answer.outcome address ≡ id ∷ []
      → SparesVersion address id between
      → ReadsVersion address id read
      → (what : Data (List ℕ)) × WouldGive (after rules s before) asked what × IsGiven copy.moment (described said what) read

  -- What a put is told is the tag of its bytes.
  abbrev pub BodiesAreTagged : Type 0
  BodiesAreTagged =
      (before later : List Entry) (e : Entry) (body : List ℕ)
      → entries ≡ before ++ e ∷ later
      → brings e.command ≡ Some body
      → succeeds e.answer.outcome ≡ true
      → acknowledged e.answer.outcome ≡ Some (tag_of body)

-- A put that succeeds stores what it brings.
abbrev pub PutsStoreTheirContents : Type 0
PutsStoreTheirContents =
    (s : State) (e : Entry) (address : Address) (what : Data (List ℕ))
    → Puts address what e
    → Stores s e (object_of s e.answer.number e.moment address what)

-- What a copy stores is what a read of its source by its conditions would be given, all of it, as the copy says of it.
abbrev pub CopiesStoreTheirSource : Type 0
CopiesStoreTheirSource =
    (s : State) (e : Entry) (asked : Read) (said : Option Description) (object : Object)
    → copies e.command ≡ Some (asked, said)
    → Stores s e object
    → (what : Data (List ℕ)) × WouldGive s asked what × (object.stored ≡ described said what)

-- What a completion stores is what the listed parts of its upload make.
abbrev pub CompletionsStoreTheirParts : Type 0
CompletionsStoreTheirParts =
    (s : State) (e : Entry) (upload : UploadPlace) (listed : List ListedPart) (object : Object)
    → completes e.command ≡ Some (upload, listed)
    → Stores s e object
    → WouldMake s upload listed object.stored

-- What an entry stores has a source.
abbrev pub StoredHasSource : Type 0
StoredHasSource = (s : State) (e : Entry) (object : Object) → Stores s e object → Source s e object
