-- Conditional writes (Amazon S3 User Guide, "How to prevent object overwrites with conditional writes"): a put or a completion
-- that wants no object under its key succeeds only where there is none. So of those that race for a key at most one succeeds,
-- until its object is taken away. One that wants an object with one of some tags, and a delete that does, succeeds only where
-- there is one. The code of a refusal tells whether there is an object.
use Rattle.std.specs.Prelude.{◌≡◌, ℕ, Bool, true, false, IsTrue, List, [], ◌∷◌, ◌++◌, Contains, Some, None, is_some}
use Rattle.std.specs.Option.{option_map_or}
use Rattle.s3_terms.specs.declared.code.Code.{Code}
use Rattle.s3_terms.specs.declared.code.Code.TheVariants.{NoSuchKey, PreconditionFailed}
use Rattle.s3_conditions.specs.Tags.{matches}
use Rattle.s3_versions.specs.declared.version.Data.{Data}
use Rattle.s3_uploads.specs.declared.listed.ListedPart.{ListedPart}
use Rattle.s3_records.specs.Catalogue.{has_bucket}
use Rattle.s3_machine.specs.declared.command.Command.{Command}
use Rattle.s3_machine.specs.declared.command.Outcome.TheVariants as outcomes
use Rattle.s3_machine.specs.declared.rules.Rules.{Rules}
use Rattle.s3_machine.specs.Step.{State, is_taken, tag_at}
use Rattle.s3_machine.specs.Effects.{Address, Object, UploadPlace, open_at, writes, brought, completes, wants_absent, wants_matching, is_refused, succeeds}
use Rattle.s3_machine.specs.History.{Entry, after, after_entry}
use Rattle.s3_machine.specs.Kept.{Stores}

-- an object is at the address in this state
abbrev pub has_object : State → Address → Bool
has_object s address = is_taken s address.bucket address.key

-- the entry wants no object at the address before it stores one there, and succeeds
pub record PutsIfAbsent (address : Address) (e : Entry) : Type 0 where
  pub wants : wants_absent e.command ≡ Some address
  pub accepted : succeeds e.answer.outcome ≡ true

-- the entry takes the object of the address away: it writes there and succeeds, and an object was there before it and isn't behind
-- it
pub record TakesAway (rules : Rules) (s : State) (address : Address) (e : Entry) : Type 0 where
  pub written : Contains (writes e.command) address
  pub accepted : succeeds e.answer.outcome ≡ true
  pub found : has_object s address ≡ true
  pub leaves : has_object (after_entry rules s e) address ≡ false

-- one of the entries takes it away
pub record IsTakenAway (rules : Rules) (s : State) (entries : List Entry) (address : Address) : Type 0 where
  pub before : List Entry
  pub taking : Entry
  pub later : List Entry
  pub parts : entries ≡ before ++ taking ∷ later
  pub takes : TakesAway rules (after rules s before) address taking

-- the key has an object, and its tag is among these
abbrev pub has_matching : State → Address → List ℕ → Bool
has_matching s address tags = option_map_or (matches tags) (tag_at s address.bucket address.key) false

-- what a write goes to is there: the bucket, and the upload that it completes, if it completes one
pub record FindsItsPlace (s : State) (address : Address) (command : Command) : Type 0 where
  pub bucket : IsTrue (has_bucket s address.bucket)
  pub upload : (upload : UploadPlace) (listed : List ListedPart) → completes command ≡ Some (upload, listed)
      → IsTrue (is_some (open_at s upload))

-- with which code a write is refused whose condition isn't met: where an object is at the address, and where none is
abbrev pub unmet_code : Bool → Code
unmet_code true = PreconditionFailed
unmet_code false = NoSuchKey

-- The laws, of a history that begins at a state.
module _ (rules : Rules) (s : State) (entries : List Entry) where
  -- A write that wants no object finds none where it succeeds,
  abbrev pub AcceptedFindsNone : Type 0
  AcceptedFindsNone =
      (before later : List Entry) (write : Entry) (address : Address)
      → entries ≡ before ++ write ∷ later
      → PutsIfAbsent address write
      → has_object (after rules s before) address ≡ false

  -- and finds one where it is refused for that, and then leaves all as it was.
  abbrev pub RefusedFindsOne : Type 0
  RefusedFindsOne =
      (before later : List Entry) (write : Entry) (address : Address) (is_delete_marker : Bool)
      → entries ≡ before ++ write ∷ later
      → wants_absent write.command ≡ Some address
      → write.answer.outcome ≡ outcomes.Refused PreconditionFailed is_delete_marker
      → (has_object (after rules s before) address ≡ true) × (after rules s (before ++ write ∷ []) ≡ after rules s before)

  -- Once an entry has stored an object, whichever way, none that wants no object there succeeds before another has taken it away.
  abbrev pub StoredKeepsOthersOut : Type 0
  StoredKeepsOthersOut =
      (before between later : List Entry) (first second : Entry) (object : Object)
      → entries ≡ before ++ first ∷ between ++ second ∷ later
      → Stores (after rules s before) first object
      → PutsIfAbsent object.address second
      → IsTakenAway rules (after rules s (before ++ first ∷ [])) between object.address

  -- So two that want no object at one address don't both succeed, unless between them another takes away what the first stored.
  abbrev pub OneIsAccepted : Type 0
  OneIsAccepted =
      (before between later : List Entry) (first second : Entry) (address : Address)
      → entries ≡ before ++ first ∷ between ++ second ∷ later
      → PutsIfAbsent address first
      → PutsIfAbsent address second
      → IsTakenAway rules (after rules s (before ++ first ∷ [])) between address

  -- A write that wants an object with one of these tags finds one where it succeeds,
  abbrev pub AcceptedFindsMatching : Type 0
  AcceptedFindsMatching =
      (before later : List Entry) (write : Entry) (address : Address) (tags : List ℕ)
      → entries ≡ before ++ write ∷ later
      → wants_matching write.command ≡ Some (address, tags)
      → succeeds write.answer.outcome ≡ true
      → has_matching (after rules s before) address tags ≡ true

  -- and where there is none it is refused, and leaves all as it was.
  abbrev pub UnmatchedChangesNothing : Type 0
  UnmatchedChangesNothing =
      (before later : List Entry) (write : Entry) (address : Address) (tags : List ℕ)
      → entries ≡ before ++ write ∷ later
      → wants_matching write.command ≡ Some (address, tags)
      → has_matching (after rules s before) address tags ≡ false
      → (is_refused write.answer.outcome ≡ true) × (after rules s (before ++ write ∷ []) ≡ after rules s before)

  -- A refusal of a write that wants an object with some tags, by the code of a condition, tells whether there is one.
  abbrev pub RefusalsTellWhy : Type 0
  RefusalsTellWhy =
      (before later : List Entry) (write : Entry) (address : Address) (tags : List ℕ) (is_delete_marker : Bool)
      → entries ≡ before ++ write ∷ later
      → wants_matching write.command ≡ Some (address, tags)
      → (write.answer.outcome ≡ outcomes.Refused PreconditionFailed is_delete_marker
      → (has_object (after rules s before) address ≡ true) × (has_matching (after rules s before) address tags ≡ false))
      × (write.answer.outcome ≡ outcomes.Refused NoSuchKey is_delete_marker → has_object (after rules s before) address ≡ false)

  -- A write that wants no object is refused with PreconditionFailed where one is there: whatever else may be wrong with it, if the
  -- bucket and the upload that it goes to are there,
  abbrev pub TakenIsRefused : Type 0
  TakenIsRefused =
      (before later : List Entry) (write : Entry) (address : Address)
      → entries ≡ before ++ write ∷ later
      → wants_absent write.command ≡ Some address
      → FindsItsPlace (after rules s before) address write.command
      → has_object (after rules s before) address ≡ true
      → write.answer.outcome ≡ outcomes.Refused PreconditionFailed false

  -- and so is one that wants an object with one of some tags where none has one, but with NoSuchKey where no object is there.
  abbrev pub UnmatchedIsRefused : Type 0
  UnmatchedIsRefused =
      (before later : List Entry) (write : Entry) (address : Address) (tags : List ℕ)
      → entries ≡ before ++ write ∷ later
      → wants_matching write.command ≡ Some (address, tags)
      → FindsItsPlace (after rules s before) address write.command
      → has_matching (after rules s before) address tags ≡ false
      → write.answer.outcome ≡ outcomes.Refused (unmet_code (has_object (after rules s before) address)) false

  -- A put that wants no object succeeds in a bucket that is there where there is none,
  abbrev pub FreeIsAccepted : Type 0
  FreeIsAccepted =
      (before later : List Entry) (write : Entry) (address : Address)
      → entries ≡ before ++ write ∷ later
      → wants_absent write.command ≡ Some address
      → completes write.command ≡ None
      → IsTrue (has_bucket (after rules s before) address.bucket)
      → has_object (after rules s before) address ≡ false
      → succeeds write.answer.outcome ≡ true

  -- and a put or a delete that wants an object with one of some tags where one has it. (What a completion has to meet beside its
  -- condition are the rules of parts.)
  abbrev pub MatchedIsAccepted : Type 0
  MatchedIsAccepted =
      (before later : List Entry) (write : Entry) (address : Address) (tags : List ℕ)
      → entries ≡ before ++ write ∷ later
      → wants_matching write.command ≡ Some (address, tags)
      → completes write.command ≡ None
      → IsTrue (has_bucket (after rules s before) address.bucket)
      → has_matching (after rules s before) address tags ≡ true
      → succeeds write.answer.outcome ≡ true

  -- So does a put without a condition.
  abbrev pub PlainIsAccepted : Type 0
  PlainIsAccepted =
      (before later : List Entry) (write : Entry) (address : Address) (what : Data (List ℕ))
      → entries ≡ before ++ write ∷ later
      → brought write.command ≡ Some what
      → writes write.command ≡ address ∷ []
      → wants_absent write.command ≡ None
      → wants_matching write.command ≡ None
      → IsTrue (has_bucket (after rules s before) address.bucket)
      → succeeds write.answer.outcome ≡ true
