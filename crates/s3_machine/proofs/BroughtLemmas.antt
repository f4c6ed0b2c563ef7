-- What is stored was put once, or joined once by a completion, or stood at the beginning, however often it was copied; but for what
-- a copy said of it.
use Rattle.std.proofs.Common.{◌≡◌, refl, sym, ap, subst, ◌∙◌, arith, ◌⊎◌, ⊎_elim, inl, inr, ℕ, zero, suc, ◌≤◌, ◌+◌, List, ◌∷◌, ◌++◌, append_assoc, length, length-append, Option, Some, None, []}
use Rattle.std.proofs.lemmas.Option.{same_Some}
use Rattle.s3_versions.specs.Laws.{IdsAreTold}
use Rattle.s3_versions.specs.declared.version.Data.{Data}
use Rattle.s3_records.specs.Places.{ChangesAreByPlace}
use Rattle.s3_machine.specs.declared.command.Command.{Command}
use Rattle.s3_machine.specs.declared.command.Command.TheVariants as commands
use Rattle.s3_machine.specs.declared.command.KeyCommand.TheVariants as key_commands
use Rattle.s3_machine.specs.declared.command.Description.{Description}
use Rattle.s3_machine.specs.declared.command.Found.{Found}
use Rattle.s3_machine.specs.declared.command.Outcome.{Outcome}
use Rattle.s3_machine.specs.declared.command.Outcome.TheVariants as outcomes
use Rattle.s3_machine.specs.declared.rules.Rules.{Rules}
use Rattle.s3_conditions.specs.declared.conditions.Selection.TheVariants.{Whole}
use Rattle.s3_machine.specs.Bases.{IsSoundBase, EverySoundHistory}
use Rattle.s3_machine.specs.Effects.{Address, Object, Read, object_of, reads, given, given_whole, found_object}
use Rattle.s3_machine.specs.History.{Entry, Legal, after}
use Rattle.s3_machine.specs.Kept.{Stores, WasStored, Stayed, Stood, Copies, WasPut, WasDescribed, Source, Put, Copy, Completion, EveryHistory, StoredWasBrought}
use Rattle.s3_machine.specs.Step.{State, described}
use Rattle.s3_machine.specs.Uploads.{AreJoined, WasJoined}
use Rattle.s3_machine.specs.UploadsKept.{CompletionsJoinWhatWasSent}
use Rattle.s3_machine.proofs.AnswerLemmas.{stored_has_source}
use Rattle.s3_machine.proofs.EffectLemmas.{FollowRules}
use Rattle.s3_machine.proofs.HistoryLemmas.{Legal-append}
use Rattle.s3_machine.proofs.OriginLemmas.{only_stored_stands, reads_found}
use Rattle.s3_machine.proofs.StateLemmas.{Numbers}

-- a command that reads this
read_of : Read → Command
read_of asked =
    commands.Key asked.address.bucket asked.address.key
    (key_commands.Read (record { version = asked.version; conditions = asked.conditions; overrides = [] }))

reads_it : (asked : Read) → reads (read_of asked) ≡ Some asked
unfolding read_of
reads_it asked = refl

-- what is handed out whole is handed out
whole_given : (outcome : Outcome) (found : Found (List ℕ)) → given_whole outcome ≡ Some found → given outcome ≡ Some found
whole_given (outcomes.Got other Whole overrides) found is = is
whole_given _ found is = absurd (cc)

-- what was put before was put
put_before : (entries before more : List Entry) (what : Data (List ℕ)) → entries ≡ before ++ more → WasPut before what → WasPut entries what
put_before entries before more what parts was = record {
  before = was.before;
  put = was.put;
  later = was.later ++ more;
  parts = parts ∙ ap (λ (es : List Entry). es ++ more) was.parts ∙ append_assoc was.before (was.put ∷ was.later) more;
  address = was.address;
  puts = was.puts;
}

-- and so is what was joined before
joined_before : (rules : Rules) (s : State) (entries before more : List Entry) (what : Data (List ℕ)) → entries ≡ before ++ more
    → WasJoined rules s before what → WasJoined rules s entries what
joined_before rules s entries before more what parts was = record {
  before = was.before;
  complete = was.complete;
  later = was.later ++ more;
  parts = parts ∙ ap (λ (es : List Entry). es ++ more) was.parts ∙ append_assoc was.before (was.complete ∷ was.later) more;
  upload = was.upload;
  listed = was.listed;
  completes = was.completes;
  joined = was.joined;
}

-- and what a copy said before
described_before : (entries before more : List Entry) (origin what : Data (List ℕ)) → entries ≡ before ++ more
    → WasDescribed before origin what → WasDescribed entries origin what
described_before entries before more origin what parts was = record {
  before = was.before;
  copy = was.copy;
  later = was.later ++ more;
  parts = parts ∙ ap (λ (es : List Entry). es ++ more) was.parts ∙ append_assoc was.before (was.copy ∷ was.later) more;
  address = was.address;
  asked = was.asked;
  said = was.said;
  copies = was.copies;
  is = was.is;
}

-- these data have an origin that was put or joined, or stood at the beginning: they are it, or it as a copy said of it
pub record WasBrought (rules : Rules) (s : State) (entries : List Entry) (what : Data (List ℕ)) : Type 0 where
  pub origin : Data (List ℕ)
  pub brought : WasPut entries origin ⊎ (WasJoined rules s entries origin ⊎ Stood s origin)
  pub since : (what ≡ origin) ⊎ WasDescribed entries origin what

brought_before : (rules : Rules) (s : State) (entries before more : List Entry) (what : Data (List ℕ)) → entries ≡ before ++ more
    → WasBrought rules s before what → WasBrought rules s entries what
brought_before rules s entries before more what parts was = record {
  origin = was.origin;
  brought = ⊎_elim (λ put. inl (put_before entries before more was.origin parts put))
      (λ others. inr (⊎_elim (λ joined. inl (joined_before rules s entries before more was.origin parts joined)) (λ stood. inr stood) others))
      was.brought;
  since = ⊎_elim (λ is. inl is) (λ said. inr (described_before entries before more was.origin what parts said)) was.since;
}

-- what is said again replaces what was said before
said_again : (entries : List Entry) (origin source : Data (List ℕ)) (said : Description)
    → (source ≡ origin) ⊎ WasDescribed entries origin source → described (Some said) source ≡ described (Some said) origin
said_again entries origin source said (inl same) = ap (described (Some said)) same
said_again entries origin source said (inr was) = ap (described (Some said)) was.is

-- what an entry stores is one object
same_stored : (s : State) (e : Entry) (n t : ℕ) (address : Address) (what : Data (List ℕ)) (object : Object) → Stores s e object
    → Stores s e (object_of s n t address what) → what ≡ object.stored
same_stored s e n t address what object stores others =
    ap (λ (o : Object). o.stored) (same_Some (object_of s n t address what) object (sym others.by ∙ stores.by))

module _ (places : ChangesAreByPlace (List ℕ)) (follow : FollowRules) (numbers : Numbers) (ids : IdsAreTold (List ℕ))
    (joins : EveryHistory CompletionsJoinWhatWasSent) (rules : Rules) (s : State) (n : ℕ) (sound : IsSoundBase s n) where
  -- what a copy stores has the origin of its source
  by_copy : (earlier : List Entry) (object : Object) (was : WasStored rules s earlier object) (asked : Read) (said : Option Description)
      (source : Data (List ℕ))
      → Copies object.address asked said was.write → object.stored ≡ described said source → WasBrought rules s earlier source
      → WasBrought rules s earlier object.stored
  by_copy earlier object was asked None source copies is old = subst (WasBrought rules s earlier) (sym is) old
  by_copy earlier object was asked (Some said) source copies is old =
      let copied : WasDescribed earlier old.origin object.stored =
      record {
        before = was.before;
        copy = was.write;
        later = was.between;
        parts = was.parts;
        address = object.address;
        asked = asked;
        said = said;
        copies = copies;
        is = is ∙ said_again earlier old.origin source said old.since;
      } in
      record { origin = old.origin; brought = old.brought; since = inr copied }

  -- what an entry stored was put or joined, or stood, if that is so of all that was stored before it
  from_source : (earlier : List Entry) (object : Object) (was : WasStored rules s earlier object) → Legal rules s n earlier → Legal rules s n was.before
      → ((o : Object) → WasStored rules s was.before o → WasBrought rules s was.before o.stored)
      → Source (after rules s was.before) was.write object → WasBrought rules s earlier object.stored
  from_source earlier object was all legal known (Put puts) =
      let put : WasPut earlier object.stored =
      record { before = was.before; put = was.write; later = was.between; parts = was.parts; address = object.address; puts = puts } in
      record { origin = object.stored; brought = inl put; since = inl refl }
  from_source earlier object was all legal known (Completion upload listed at completes makes) =
      let made = joins rules s n earlier all was.before was.between was.write upload listed was.parts completes in
      let same = same_stored (after rules s was.before) was.write was.write.answer.number was.write.moment upload.address made.0 object was.stores made.2 in
      let joined : WasJoined rules s earlier object.stored =
      record {
        before = was.before;
        complete = was.write;
        later = was.between;
        parts = was.parts;
        upload = upload;
        listed = listed;
        completes = completes;
        joined = subst (AreJoined rules s was.before upload listed) same made.1;
      } in
      record { origin = object.stored; brought = inr (inl joined); since = inl refl }
  from_source earlier object was all legal known (Copy asked said source copies gives is) =
      let here = after rules s was.before in
      let read = reads_found ids rules here 0 0 (read_of asked) asked gives.found (reads_it asked)
      (whole_given _ gives.found (gives.gives rules 0 0 (read_of asked) (reads_it asked))) in
      let from = found_object asked.address read.0 gives.found in
      by_copy earlier object was asked said source copies is
      (⊎_elim (λ (stored : WasStored rules s was.before from).
      brought_before rules s earlier was.before (was.write ∷ was.between) source was.parts
      (subst (WasBrought rules s was.before) gives.holds (known from stored)))
      (λ (stayed : Stayed s was.before from).
      let stood : Stood s source = record { object = from; at_base = stayed.at_base; holds = gives.holds } in
      record { origin = source; brought = inr (inr stood); since = inl refl })
      (only_stored_stands places follow numbers rules s n was.before sound legal from read.2))

  brought_within : (k : ℕ) (earlier : List Entry) (object : Object) → length earlier ≤ k → Legal rules s n earlier
      → WasStored rules s earlier object → WasBrought rules s earlier object.stored
  brought_within zero earlier object within legal was =
      let size : length earlier ≡ length was.before + suc (length was.between) = ap length was.parts ∙ length-append was.before (was.write ∷ was.between) in
      absurd (omega arith)
  brought_within (suc k) earlier object within legal was =
      let size : length earlier ≡ length was.before + suc (length was.between) = ap length was.parts ∙ length-append was.before (was.write ∷ was.between) in
      let fewer : length was.before ≤ k = omega arith in
      let before = (Legal-append rules s n was.before (was.write ∷ was.between) (subst (Legal rules s n) was.parts legal)).0 in
      from_source earlier object was legal before
      (λ (o : Object) stored. brought_within k was.before o fewer before stored)
      (stored_has_source (after rules s was.before) was.write object was.stores)

pub stored_was_brought : ChangesAreByPlace (List ℕ) → FollowRules → Numbers → IdsAreTold (List ℕ)
    → EveryHistory CompletionsJoinWhatWasSent → EverySoundHistory StoredWasBrought
stored_was_brought places follow numbers ids joins rules s n entries sound legal earlier later object parts was =
    let brought = brought_within places follow numbers ids joins rules s n sound (length earlier) earlier object (omega arith)
    (Legal-append rules s n earlier later (subst (Legal rules s n) parts legal)).0 was in
    (brought.origin, brought.brought, brought.since)
