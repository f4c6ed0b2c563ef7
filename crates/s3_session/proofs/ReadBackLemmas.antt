-- What is read back over one connection is what was stored.
use Rattle.std.proofs.Common.{◌≡◌, ◌⊎◌, inl, inr, ℕ, true, false, List, [], ◌∷◌, ◌++◌, append_assoc, length, map, Option, Some, None, option_map, is_some, Ok, refl, sym, ap, subst, ◌∙◌}
use Rattle.std.specs.List.{AllByRecursion, AllZip, list_all}
use Rattle.std.proofs.lemmas.List.{map-append}
use Rattle.s3_config.specs.Settings.{Settings}
use Rattle.s3_names.specs.declared.ids.VersionId.{VersionId}
use Rattle.s3_versions.specs.declared.version.Data.{Data}
use Rattle.s3_versions.specs.Metadata.{Entry as MetadataEntry}
use Rattle.s3_uploads.specs.declared.listed.ListedPart.{ListedPart}
use Rattle.s3_uploads.specs.declared.part.Part.{Part as UploadPart}
use Rattle.s3_http_heads.specs.Head.{HeadParts}
use Rattle.s3_records.specs.Catalogue.{opening}
use Rattle.s3_requests.specs.declared.routing.Plan.{Plan}
use Rattle.s3_requests.specs.declared.routing.Plan.TheVariants as plans
use Rattle.s3_integrity.specs.declared.checksum.Checksum.{Checksum}
use Rattle.s3_requests.specs.Laws.{PlansAreUnbroken, ReadyPlansBringNothing, SumsAreUnbroken}
use Rattle.s3_requests.specs.Commands.{command_of, put_of}
use Rattle.s3_requests.specs.KeptSum.{with_sum}
use Rattle.s3_requests.specs.Routing.{route_of}
use Rattle.s3_conditions.specs.declared.conditions.Selection.{Selection}
use Rattle.s3_conditions.specs.declared.conditions.Selection.TheVariants.{Whole, Part, Unchanged, Outside}
use Rattle.s3_machine.specs.declared.command.Command.{Command}
use Rattle.s3_machine.specs.declared.command.Command.TheVariants as commands
use Rattle.s3_machine.specs.declared.command.KeyCommand.TheVariants as key_commands
use Rattle.s3_machine.specs.declared.command.Description.{Description}
use Rattle.s3_machine.specs.declared.command.Found.{Found}
use Rattle.s3_machine.specs.declared.command.Outcome.{Outcome}
use Rattle.s3_machine.specs.declared.command.Outcome.TheVariants.{Got}
use Rattle.s3_machine.specs.Bases.{EverySoundHistory, OpeningIsSound, HasNothing, OpeningHasNothing}
use Rattle.s3_machine.specs.Step.{State, described}
use Rattle.s3_machine.specs.Effects.{Address, Object, UploadPlace, Read, brought, brings, sent, whole, said_of, given, given_whole, found_object, succeeds}
use Rattle.s3_machine.specs.History.{Entry, Legal}
use Rattle.s3_machine.specs.Kept.{LeavesKey, SparesVersion, WasStored, Stayed, Stood, IsGiven, Puts, WasPut, WasDescribed, Copies, EveryHistory, StoredIsKept, VersionsAreKept, OnlyStoredIsGiven, StoredWasBrought, ReadsGiveOrFail, ReadsAreJudged, RepliesSayWhatIsAsked, PutsAreKept, PutVersionsAreKept, CopiesAreKept, CopyVersionsAreKept}
use Rattle.s3_machine.specs.Uploads.{Completes, WasBegun, IsListedPart, begun_state, PartsFrom, FromBegun, FromBase, AreJoined, WasJoined}
use Rattle.s3_machine.specs.UploadsKept.{CompletionsAreKept, CompletionVersionsAreKept, PartsHaveASource}
use Rattle.s3_machine.specs.Rules.{rules_of}
use Rattle.s3_machine.specs.declared.rules.Rules.{Rules}
use Rattle.s3_replies.specs.Lines.{metadata_line}
use Rattle.s3_replies.specs.Laws.{AreUnbroken, Carries, IsUnbroken, PartsAreCarried, is_unbroken, is_whole_line, tells_success, SuccessIsShown, ObjectsAreCarried, TagsAreUnbroken}
use Rattle.s3_framed_bodies.specs.Framed.{IsDataOf}
use Rattle.s3_framed_bodies.specs.Laws.{WholePayloadsAreData}
use Rattle.s3_session.specs.Output.{Exchange, IsReplied}
use Rattle.s3_session.specs.Laws.{SoundMessages}
use Rattle.s3_session.specs.ReadBack.{entry_of, entries_from, AsksFor, Wrote, WroteCopy, WroteParts, CarriesParts, LeavesAlone, SparesId, EveryReplay, StoredIsReadBack, VersionsAreReadBack, OnlyStoredIsReadBack, Shows, OnlyStoredIsShown, PutsAreReadBack, PutVersionsAreReadBack, CopiesAreReadBack, CopyVersionsAreReadBack, CompletionsAreReadBack, CompletionVersionsAreReadBack, ArePayloads, PayloadsAreBrought, PayloadsAreSent}
use Rattle.s3_session.proofs.ReplayLemmas.{replayed_legal, replayed_walk}
use Rattle.s3_session.proofs.ServesLemmas.{all_of_two}
use Rattle.s3_session.proofs.SoundLemmas.{admitted_route}
use Rattle.s3_session.proofs.SentLemmas.{all_put}
use Rattle.s3_session.proofs.UnbrokenLemmas.{BringsUnbroken, made_of, read_brings, walked_unbroken}

-- ---- what a reply shows of its entry

module _ (success : SuccessIsShown) where
  shows : (x : Exchange) → IsReplied x → tells_success x.reply ≡ succeeds x.answer.outcome
  shows x answered = success x.answer x.context x.reply answered

  leaves_key : (address : Address) (xs : List Exchange) → AllByRecursion IsReplied xs → AllByRecursion (LeavesAlone address) xs
      → LeavesKey address (entries_from xs)
  leaves_key address [] answered alone = tt
  leaves_key address (x ∷ xs) answered alone =
      ((λ is. sym (shows x answered.0) ∙ alone.0 is), leaves_key address xs answered.1 alone.1)

  spares_version : (address : Address) (id : VersionId) (xs : List Exchange) → AllByRecursion IsReplied xs
      → AllByRecursion (SparesId address id) xs → SparesVersion address id (entries_from xs)
  spares_version address id [] answered spared = tt
  spares_version address id (x ∷ xs) answered spared = (
    (λ is accepted. spared.0 is (shows x answered.0 ∙ accepted)),
    spares_version address id xs answered.1 spared.1,
  )

-- ---- what a reply carries

-- what holds of the commands of messages holds of those of their entries
all_entries : (P : Command → Type 0) (xs : List Exchange) → AllByRecursion (λ (x : Exchange). P x.command) xs
    → AllByRecursion (λ (e : Entry). P e.command) (entries_from xs)
all_entries P [] all = tt
all_entries P (x ∷ xs) all = (all.0, all_entries P xs all.1)

entries_at : (earlier : List Exchange) (x : Exchange) (later : List Exchange) → entries_from (earlier ++ x ∷ later) ≡ entries_from earlier ++ entry_of x ∷ entries_from later
entries_at earlier x later = map-append entry_of earlier (x ∷ later)

-- what a read hands out whole
found_there : (given : Option (Found (List ℕ))) → is_some given ≡ true → (found : Found (List ℕ)) × (given ≡ Some found)
found_there (Some found) is = (found, refl)
found_there None is = absurd (cc)

got_given : (outcome : Outcome) (found : Found (List ℕ)) → given_whole outcome ≡ Some found → outcome ≡ Got found Whole (said_of outcome)
got_given (Got other Whole said) found is = let same : other ≡ found = cc in ap (λ (f : Found (List ℕ)). Got f Whole said) same
got_given _ found is = absurd (cc)

whole_is_given : (outcome : Outcome) (found : Found (List ℕ)) → given_whole outcome ≡ Some found → given outcome ≡ Some found
whole_is_given outcome found is = ap given (got_given outcome found is)

-- the data that a command brings whose bytes are these
data_with : (found : Option (Data (List ℕ))) (body : List ℕ) → option_map (λ (what : Data (List ℕ)). what.body) found ≡ Some body
    → (what : Data (List ℕ)) × (found ≡ Some what) × (what.body ≡ body)
data_with (Some what) body is = (what, refl, cc)
data_with None body is = absurd (cc)

-- ---- the laws, of messages whose entries are a legal history, which were replied to, and which bring no carriage return
-- beside bodies

-- what they stand on
pub record LawsBelow : Type 0 where
  pub plans : PlansAreUnbroken
  pub sums : SumsAreUnbroken
  pub messages : SoundMessages
  pub tags : TagsAreUnbroken
  pub success : SuccessIsShown
  pub objects : ObjectsAreCarried
  pub parts : PartsAreCarried
  pub sound : OpeningIsSound
  pub nothing : OpeningHasNothing
  pub given : EverySoundHistory OnlyStoredIsGiven
  pub said : EveryHistory RepliesSayWhatIsAsked
  pub origins : EverySoundHistory StoredWasBrought

-- what the messages of a replay are
pub record AreReplayed (settings : Settings) (exchanges : List Exchange) : Type 0 where
  pub legal : Legal (rules_of settings) (opening settings.buckets) 0 (entries_from exchanges)
  pub replied : AllByRecursion IsReplied exchanges
  pub unbroken : AllByRecursion (λ (x : Exchange). BringsUnbroken x.command) exchanges

abbrev BringsWhole : Entry → Type 0
BringsWhole e = BringsUnbroken e.command

-- where nothing stood at the beginning, what stands was stored since,
stored_since : (rules : Rules) (s : State) (entries : List Entry) (object : Object) → HasNothing s
    → WasStored rules s entries object ⊎ Stayed s entries object → WasStored rules s entries object
stored_since rules s entries object nothing (inl was) = was
stored_since rules s entries object nothing (inr stayed) = absurd (nothing.objects object stayed.at_base)

-- and an upload whose parts are joined was begun since
record SinceBegun (rules : Rules) (s : State) (entries : List Entry) (upload : UploadPlace) (listed : List ListedPart) (t : ℕ) (asked : Description) (made : List (UploadPart (List ℕ))) : Type 0 where
  begun : WasBegun entries upload t asked
  sent : AllZip (IsListedPart rules (begun_state rules s begun) begun.since upload) listed made

begun_since : (rules : Rules) (s : State) (entries : List Entry) (upload : UploadPlace) (listed : List ListedPart) (t : ℕ) (asked : Description)
    (made : List (UploadPart (List ℕ)))
    → HasNothing s → PartsFrom rules s entries upload listed t asked made → SinceBegun rules s entries upload listed t asked made
begun_since rules s entries upload listed t asked made nothing (FromBegun begun sent) = record { begun = begun; sent = sent }
begun_since rules s entries upload listed t asked made nothing (FromBase stayed sent) = absurd (nothing.uploads upload t asked stayed.at_base)

-- what a put brought is so, and what a completion joined
unbroken_origin : TagsAreUnbroken → (rules : Rules) (s : State) (entries : List Entry) (what : Data (List ℕ)) → HasNothing s
    → AllByRecursion BringsWhole entries → (WasPut entries what ⊎ (WasJoined rules s entries what ⊎ Stood s what)) → IsUnbroken what
unbroken_origin tags rules s entries what nothing all (inl put) =
    (all_of_two BringsWhole put.before (put.put ∷ put.later) (subst (AllByRecursion BringsWhole) put.parts all)).1.0.whole what put.puts.brings
unbroken_origin tags rules s entries what nothing all (inr (inr stood)) = absurd (nothing.objects stood.object stood.at_base)
unbroken_origin tags rules s entries what nothing all (inr (inl it)) =
    let before = (all_of_two BringsWhole it.before (it.complete ∷ it.later) (subst (AllByRecursion BringsWhole) it.parts all)).0 in
    let joined = it.joined in
    let begun = (begun_since rules s it.before it.upload it.listed joined.moment joined.asked joined.made nothing joined.parts).begun in
    let brings = (all_of_two BringsWhole begun.before (begun.begin ∷ begun.since) (subst (AllByRecursion BringsWhole) begun.parts before)).1.0 in
    let said = brings.begun it.upload.address joined.asked begun.begins.at in
    record {
      tag = ap is_unbroken joined.tag ∙ tags _ (Some (length joined.made));
      content_type = ap is_unbroken joined.content_type ∙ said.0;
      metadata = ap (λ (entries : List MetadataEntry). list_all is_whole_line (map metadata_line entries)) joined.metadata ∙ said.1;
    }

-- and so are these data as a copy said of them
unbroken_described : (entries : List Entry) (origin what : Data (List ℕ)) → AllByRecursion BringsWhole entries → IsUnbroken origin
    → ((what ≡ origin) ⊎ WasDescribed entries origin what) → IsUnbroken what
unbroken_described entries origin what all unbroken (inl same) = subst IsUnbroken (sym same) unbroken
unbroken_described entries origin what all unbroken (inr it) =
    let brings = (all_of_two BringsWhole it.before (it.copy ∷ it.later) (subst (AllByRecursion BringsWhole) it.parts all)).1.0 in
    let said = brings.said it.asked it.said it.copies.from in
    subst IsUnbroken (sym it.is) (record { tag = unbroken.tag; content_type = said.0; metadata = said.1 })

module _ (laws : LawsBelow) (settings : Settings) (exchanges : List Exchange) (are : AreReplayed settings exchanges) where
  -- what holds of every history holds of theirs
  of_history : {Law : Rules → State → List Entry → Type 0} → EveryHistory Law
      → Law (rules_of settings) (opening settings.buckets) (entries_from exchanges)
  of_history law = law (rules_of settings) (opening settings.buckets) 0 (entries_from exchanges) are.legal

  -- and what holds of those from a sound base
  of_sound_history : {Law : Rules → State → List Entry → Type 0} → EverySoundHistory Law
      → Law (rules_of settings) (opening settings.buckets) (entries_from exchanges)
  of_sound_history law =
      law (rules_of settings) (opening settings.buckets) 0 (entries_from exchanges) (laws.sound settings.buckets 0) are.legal

  replied_at : (earlier later : List Exchange) (x : Exchange) → exchanges ≡ earlier ++ x ∷ later → IsReplied x
  replied_at earlier later x at =
      (all_of_two IsReplied earlier (x ∷ later) (subst (AllByRecursion IsReplied) at are.replied)).1.0

  -- what a read is given was stored before, and brought by a put, or joined of parts, but for what a copy said of it
  unbroken_given : (earlier later : List Exchange) (read : Exchange) (asked : Read) (found : Found (List ℕ))
      → exchanges ≡ earlier ++ read ∷ later → AsksFor asked read → given read.answer.outcome ≡ Some found → IsUnbroken found.stored
  unbroken_given earlier later read asked found at asks gives =
      let entries = ap entries_from at ∙ entries_at earlier read later in
      let reading = of_sound_history laws.given (entries_from earlier) (entries_from later) (entry_of read) asked found entries asks.read gives in
      let was = stored_since (rules_of settings) (opening settings.buckets) (entries_from earlier) (found_object asked.address reading.0 found)
      (laws.nothing settings.buckets) reading.2 in
      let all = subst (AllByRecursion BringsWhole) entries (all_entries BringsUnbroken exchanges are.unbroken) in
      let past = (all_of_two BringsWhole (entries_from earlier) (entry_of read ∷ entries_from later) all).0 in
      let brought = of_sound_history laws.origins (entries_from earlier) (entry_of read ∷ entries_from later) _ entries was in
      unbroken_described (entries_from earlier) brought.0 found.stored past
      (unbroken_origin laws.tags (rules_of settings) (opening settings.buckets) (entries_from earlier) brought.0 (laws.nothing settings.buckets) past brought.1)
      brought.2

  -- what its reply says in the place of what is kept is so, too
  unbroken_said : (earlier later : List Exchange) (read : Exchange) (asked : Read) (found : Found (List ℕ)) (selection : Selection)
      (said : List MetadataEntry)
      → exchanges ≡ earlier ++ read ∷ later → AsksFor asked read → read.answer.outcome ≡ Got found selection said → AreUnbroken said
  unbroken_said earlier later read asked found selection said at asks shows =
      let is = of_history laws.said (entries_from earlier) (entries_from later) (entry_of read) asked found selection said
      (ap entries_from at ∙ entries_at earlier read later) asks.read shows in
      let brings = (all_of_two (λ (x : Exchange). BringsUnbroken x.command) earlier (read ∷ later)
      (subst (AllByRecursion (λ (x : Exchange). BringsUnbroken x.command)) at are.unbroken)).1.0 in
      subst AreUnbroken (sym is) brings.overrides

  -- so its reply carries it, where it is given all of it
  given_carried : (earlier later : List Exchange) (read : Exchange) (asked : Read) (found : Found (List ℕ))
      → exchanges ≡ earlier ++ read ∷ later → AsksFor asked read → given_whole read.answer.outcome ≡ Some found
      → Carries found.stored.body read.reply
  given_carried earlier later read asked found at asks gives =
      let shows = got_given read.answer.outcome found gives in
      laws.objects read.answer read.context read.reply found (said_of read.answer.outcome) (replied_at earlier later read at) shows
      (unbroken_given earlier later read asked found at asks (whole_is_given read.answer.outcome found gives))
      (unbroken_said earlier later read asked found Whole (said_of read.answer.outcome) at asks shows)
      asks.with_bytes

  -- the same of data that it is given
  data_carried : (earlier later : List Exchange) (read : Exchange) (asked : Read) (t : ℕ) (what : Data (List ℕ))
      → exchanges ≡ earlier ++ read ∷ later → AsksFor asked read → IsGiven t what (entry_of read) → Carries what.body read.reply
  data_carried earlier later read asked t what at asks is =
      subst (λ (d : Data (List ℕ)). Carries d.body read.reply) is.holds
      (given_carried earlier later read asked is.found at asks is.gives)

  -- the entries of two messages and those before, between and behind them
  entries_of_parts : (before between later : List Exchange) (write read : Exchange)
      → exchanges ≡ before ++ write ∷ between ++ read ∷ later
      → entries_from exchanges
      ≡ entries_from before ++ entry_of write ∷ entries_from between ++ entry_of read ∷ entries_from later
  entries_of_parts before between later write read parts =
      ap entries_from parts
      ∙ entries_at (before ++ write ∷ between) read later
      ∙ ap (λ (es : List Entry). es ++ entry_of read ∷ entries_from later) (entries_at before write between)

  key_read_back : EveryHistory StoredIsKept → StoredIsReadBack settings exchanges
  key_read_back kept before between later write read object parts stores leaves asks =
      data_carried (before ++ write ∷ between) later read _ object.moment object.stored parts asks
      (of_history kept (entries_from before) (entries_from between) (entries_from later) (entry_of write) (entry_of read) object
      (entries_of_parts before between later write read parts) stores leaves asks.read)

  version_read_back : EveryHistory VersionsAreKept → VersionsAreReadBack settings exchanges
  version_read_back kept before between later write read object parts stores spares asks =
      data_carried (before ++ write ∷ between) later read _ object.moment object.stored parts asks
      (of_history kept (entries_from before) (entries_from between) (entries_from later) (entry_of write) (entry_of read) object
      (entries_of_parts before between later write read parts) stores spares asks.read)

  stored_before : EveryHistory ReadsGiveOrFail → OnlyStoredIsReadBack settings exchanges
  stored_before or_fails earlier later read address version at asks told =
      let entries = ap entries_from at ∙ entries_at earlier read later in
      let before = entries_from earlier in
      let found = found_there (given_whole read.answer.outcome)
      (of_history or_fails before (entries_from later) (entry_of read) address version entries asks.read
      ∙ sym (shows laws.success read (replied_at earlier later read at)) ∙ told) in
      let was = of_sound_history laws.given before (entries_from later) (entry_of read) (whole address version) found.0
      entries asks.read (whole_is_given read.answer.outcome found.0 found.1) in
      let object = found_object address was.0 found.0 in (
        object,
        refl,
        was.1.named,
        stored_since (rules_of settings) (opening settings.buckets) before object (laws.nothing settings.buckets) was.2,
        given_carried earlier later read (whole address version) found.0 at asks found.1,
      )

  -- what is selected of it, the reply carries
  shown_of : (read : Exchange) (found : Found (List ℕ)) (selection : Selection) (said : List MetadataEntry)
      → IsReplied read → read.answer.outcome ≡ Got found selection said
      → given read.answer.outcome ≡ Some found → IsUnbroken found.stored → AreUnbroken said → read.context.head_only ≡ false → Shows selection found.stored.body read.reply
  shown_of read found Whole said replied shows gives unbroken says whole =
      laws.objects read.answer read.context read.reply found said replied shows unbroken says whole
  shown_of read found (Part first last) said replied shows gives unbroken says whole =
      laws.parts read.answer read.context read.reply found said first last replied shows unbroken says whole
  shown_of read found Unchanged said replied shows gives unbroken says whole = let none = sym (ap given shows) ∙ gives in absurd (cc)
  shown_of read found Outside said replied shows gives unbroken says whole = let none = sym (ap given shows) ∙ gives in absurd (cc)

  shown_before : EveryHistory ReadsAreJudged → OnlyStoredIsShown settings exchanges
  shown_before judges earlier later read asked at asks told =
      let entries = ap entries_from at ∙ entries_at earlier read later in
      let before = entries_from earlier in
      let replied = replied_at earlier later read at in
      let shown = of_history judges before (entries_from later) (entry_of read) asked entries asks.read
      (sym (shows laws.success read replied) ∙ told) in
      let was = of_sound_history laws.given before (entries_from later) (entry_of read) asked shown.found entries asks.read shown.gives in
      let object = found_object asked.address was.0 shown.found in (
        object,
        refl,
        was.1.named,
        stored_since (rules_of settings) (opening settings.buckets) before object (laws.nothing settings.buckets) was.2,
        shown.selection,
        shown.selects,
        shown_of read shown.found shown.selection shown.overrides replied shown.shows shown.gives
            (unbroken_given earlier later read asked shown.found at asks shown.gives)
            (unbroken_said earlier later read asked shown.found shown.selection shown.overrides at asks shown.shows) asks.with_bytes,
      )

  -- ---- puts

  -- those before a put, the put and those behind it were replied to
  replied_parts : (before between later : List Exchange) (write read : Exchange)
      → exchanges ≡ before ++ write ∷ between ++ read ∷ later
      → AllByRecursion IsReplied before × AllByRecursion IsReplied (write ∷ between)
  replied_parts before between later write read parts =
      let front = before ++ write ∷ between in
      all_of_two IsReplied before (write ∷ between)
      (all_of_two IsReplied front (read ∷ later) (subst (AllByRecursion IsReplied) parts are.replied)).0

  replied_from : (before between later : List Exchange) (write read : Exchange)
      → exchanges ≡ before ++ write ∷ between ++ read ∷ later → AllByRecursion IsReplied (write ∷ between)
  replied_from before between later write read parts = (replied_parts before between later write read parts).1

  -- what a message wrote its entry put
  puts_of : (x : Exchange) (address : Address) (body : List ℕ) (what : Data (List ℕ)) → IsReplied x → Wrote address body x
      → brought x.command ≡ Some what → Puts address what (entry_of x)
  puts_of x address body what replied wrote brings =
      record { written = wrote.written; brings = brings; accepted = sym (shows laws.success x replied) ∙ wrote.answered }

  put_read_back : EveryHistory PutsAreKept → PutsAreReadBack settings exchanges
  put_read_back kept before between later put read address body parts wrote alone asks =
      let what = data_with (brought put.command) body wrote.brought in
      let replied = replied_from before between later put read parts in
      subst (λ (b : List ℕ). Carries b read.reply) what.2
      (data_carried (before ++ put ∷ between) later read _ put.context.moment what.0 parts asks
      (of_history kept (entries_from before) (entries_from between) (entries_from later) (entry_of put) (entry_of read) address what.0
      (entries_of_parts before between later put read parts) (puts_of put address body what.0 replied.0 wrote what.1)
      (leaves_key laws.success address between replied.1 alone) asks.read))

  put_version_read_back : EveryHistory PutVersionsAreKept → PutVersionsAreReadBack settings exchanges
  put_version_read_back kept before between later put read address id body parts wrote under spared asks =
      let what = data_with (brought put.command) body wrote.brought in
      let replied = replied_from before between later put read parts in
      subst (λ (b : List ℕ). Carries b read.reply) what.2
      (data_carried (before ++ put ∷ between) later read _ put.context.moment what.0 parts asks
      (of_history kept (entries_from before) (entries_from between) (entries_from later) (entry_of put) (entry_of read) address what.0 id
      (entries_of_parts before between later put read parts) (puts_of put address body what.0 replied.0 wrote what.1) under
      (spares_version laws.success address id between replied.1 spared) asks.read))

  -- ---- copies

  copies_of : (x : Exchange) (address : Address) (asked : Read) (said : Option Description) → IsReplied x → WroteCopy address asked said x
      → Copies address asked said (entry_of x)
  copies_of x address asked said replied wrote =
      record { written = wrote.written; from = wrote.from; accepted = sym (shows laws.success x replied) ∙ wrote.answered }

  -- the bytes of a copy are those of its source, whatever it says of them
  copy_carried : (earlier later : List Exchange) (read : Exchange) (asked : Read) (t : ℕ) (said : Option Description) (what : Data (List ℕ))
      → exchanges ≡ earlier ++ read ∷ later → AsksFor asked read → IsGiven t (described said what) (entry_of read) → Carries what.body read.reply
  copy_carried earlier later read asked t None what at asks is = data_carried earlier later read asked t what at asks is
  copy_carried earlier later read asked t (Some said) what at asks is =
      data_carried earlier later read asked t (described (Some said) what) at asks is

  copy_read_back : EveryHistory CopiesAreKept → CopiesAreReadBack settings exchanges
  copy_read_back kept before between later copy read address asked said parts wrote alone asks =
      let replied = replied_from before between later copy read parts in
      let found = of_history kept (entries_from before) (entries_from between) (entries_from later) (entry_of copy) (entry_of read) address asked said
      (entries_of_parts before between later copy read parts) (copies_of copy address asked said replied.0 wrote)
      (leaves_key laws.success address between replied.1 alone) asks.read in
      (found.0, found.1, copy_carried (before ++ copy ∷ between) later read _ copy.context.moment said found.0 parts asks found.2)

  copy_version_read_back : EveryHistory CopyVersionsAreKept → CopyVersionsAreReadBack settings exchanges
  copy_version_read_back kept before between later copy read address asked said id parts wrote under spared asks =
      let replied = replied_from before between later copy read parts in
      let found = of_history kept (entries_from before) (entries_from between) (entries_from later) (entry_of copy) (entry_of read) address asked said id
      (entries_of_parts before between later copy read parts) (copies_of copy address asked said replied.0 wrote) under
      (spares_version laws.success address id between replied.1 spared) asks.read in
      (found.0, found.1, copy_carried (before ++ copy ∷ between) later read _ copy.context.moment said found.0 parts asks found.2)

  -- ---- completions

  completes_of : (x : Exchange) (upload : UploadPlace) (listed : List ListedPart) → IsReplied x → WroteParts upload listed x
      → Completes upload listed (entry_of x)
  completes_of x upload listed replied wrote =
      record { asks = wrote.asks; accepted = sym (shows laws.success x replied) ∙ wrote.answered }

  -- the reply to a read that is given what was joined carries the bytes that messages put
  joined_carried : PartsHaveASource → (before between later : List Exchange) (complete read : Exchange) (upload : UploadPlace) (listed : List ListedPart)
      (asked : Read) (what : Data (List ℕ))
      → exchanges ≡ before ++ complete ∷ between ++ read ∷ later → AsksFor asked read
      → AreJoined (rules_of settings) (opening settings.buckets) (entries_from before) upload listed what → IsGiven complete.context.moment what (entry_of read)
      → CarriesParts settings before upload listed read.reply
  joined_carried sources before between later complete read upload listed asked what parts asks joined given =
      let from = begun_since (rules_of settings) (opening settings.buckets) (entries_from before) upload listed joined.moment joined.asked joined.made
      (laws.nothing settings.buckets) joined.parts in
      let begun = from.begun in
      record {
        bodies = map (λ (part : UploadPart (List ℕ)). part.body) joined.made;
        put = all_put laws.success sources settings before (replied_parts before between later complete read parts).0 upload
            (begun.before ++ begun.begin ∷ []) begun.since
            (begun.parts ∙ sym (append_assoc begun.before (begun.begin ∷ []) begun.since)) listed joined.made from.sent;
        carried = subst (λ (b : List ℕ). Carries b read.reply) joined.body
            (data_carried (before ++ complete ∷ between) later read asked complete.context.moment what parts asks given);
      }

  completion_read_back : PartsHaveASource → EveryHistory CompletionsAreKept → CompletionsAreReadBack settings exchanges
  completion_read_back sources kept before between later complete read upload listed parts wrote alone asks =
      let replied = replied_from before between later complete read parts in
      let found = of_history kept (entries_from before) (entries_from between) (entries_from later) (entry_of complete) (entry_of read)
      upload listed (entries_of_parts before between later complete read parts) (completes_of complete upload listed replied.0 wrote)
      (leaves_key laws.success upload.address between replied.1 alone) asks.read in
      joined_carried sources before between later complete read upload listed _ found.0 parts asks found.1 found.2

  completion_version_read_back : PartsHaveASource → EveryHistory CompletionVersionsAreKept → CompletionVersionsAreReadBack settings exchanges
  completion_version_read_back sources kept before between later complete read upload listed id parts wrote under spared asks =
      let replied = replied_from before between later complete read parts in
      let found = of_history kept (entries_from before) (entries_from between) (entries_from later) (entry_of complete) (entry_of read)
      upload listed id (entries_of_parts before between later complete read parts) (completes_of complete upload listed replied.0 wrote) under
      (spares_version laws.success upload.address id between replied.1 spared) asks.read in
      joined_carried sources before between later complete read upload listed _ found.0 parts asks found.1 found.2

-- ---- of every replay

module _ (laws : LawsBelow) where
  of_replays : {Law : Settings → List Exchange → Type 0}
      → ((settings : Settings) (exchanges : List Exchange) → AreReplayed settings exchanges → Law settings exchanges) → EveryReplay Law
  of_replays law standing settings moment bytes out replay =
      let exchanges = replay.writes.serves.exchanges in
      law settings exchanges (record {
        legal = replayed_legal standing settings moment bytes out replay;
        replied = replay.writes.serves.replied;
        unbroken = walked_unbroken laws.plans laws.sums laws.messages laws.tags settings true bytes exchanges replay.writes.left
            (replayed_walk standing settings moment bytes out replay);
      })

  pub stored_is_read_back : EveryHistory StoredIsKept → EveryReplay StoredIsReadBack
  stored_is_read_back kept = of_replays (λ settings exchanges are. key_read_back laws settings exchanges are kept)

  pub versions_are_read_back : EveryHistory VersionsAreKept → EveryReplay VersionsAreReadBack
  versions_are_read_back kept = of_replays (λ settings exchanges are. version_read_back laws settings exchanges are kept)

  pub only_stored_is_read_back : EveryHistory ReadsGiveOrFail → EveryReplay OnlyStoredIsReadBack
  only_stored_is_read_back or_fails =
      of_replays (λ settings exchanges are. stored_before laws settings exchanges are or_fails)

  pub only_stored_is_shown : EveryHistory ReadsAreJudged → EveryReplay OnlyStoredIsShown
  only_stored_is_shown judges =
      of_replays (λ settings exchanges are. shown_before laws settings exchanges are judges)

  pub puts_are_read_back : EveryHistory PutsAreKept → EveryReplay PutsAreReadBack
  puts_are_read_back kept = of_replays (λ settings exchanges are. put_read_back laws settings exchanges are kept)

  pub put_versions_are_read_back : EveryHistory PutVersionsAreKept → EveryReplay PutVersionsAreReadBack
  put_versions_are_read_back kept =
      of_replays (λ settings exchanges are. put_version_read_back laws settings exchanges are kept)

  pub copies_are_read_back : EveryHistory CopiesAreKept → EveryReplay CopiesAreReadBack
  copies_are_read_back kept = of_replays (λ settings exchanges are. copy_read_back laws settings exchanges are kept)

  pub copy_versions_are_read_back : EveryHistory CopyVersionsAreKept → EveryReplay CopyVersionsAreReadBack
  copy_versions_are_read_back kept =
      of_replays (λ settings exchanges are. copy_version_read_back laws settings exchanges are kept)

  pub completions_are_read_back : PartsHaveASource → EveryHistory CompletionsAreKept → EveryReplay CompletionsAreReadBack
  completions_are_read_back sources kept =
      of_replays (λ settings exchanges are. completion_read_back laws settings exchanges are sources kept)

  pub completion_versions_are_read_back : PartsHaveASource → EveryHistory CompletionVersionsAreKept → EveryReplay CompletionVersionsAreReadBack
  completion_versions_are_read_back sources kept =
      of_replays (λ settings exchanges are. completion_version_read_back laws settings exchanges are sources kept)

-- ---- payloads

-- these bytes of a command are those that came as its body, where no command that is ready without a body has any
abbrev CameAs : (Command → Option (List ℕ)) → Type 0
CameAs bytes_of =
    (plan : Plan) (sum : Option Checksum) (came taken : List ℕ) (command : Command) → ((ready : Command) → plan ≡ plans.Ready ready → bytes_of ready ≡ None)
    → command_of plan sum came ≡ Ok command → bytes_of command ≡ Some taken → taken ≡ came

came_brought : CameAs brings
unfolding command_of
came_brought (plans.Ready ready) sum came taken command bodiless made is =
    let same : ready ≡ command = cc in
    let none : None ≡ Some taken = sym (bodiless ready refl) ∙ ap brings same ∙ is in absurd (cc)
came_brought (plans.Put bucket key said condition) sum came taken command bodiless made is =
    let put = λ (metadata : List MetadataEntry). commands.Key bucket key (key_commands.Put (put_of said.content_type metadata condition came)) in
    let kept = made_of (with_sum sum said.metadata) put command made in
    let same : Some came ≡ Some taken = ap brings kept.2 ∙ is in cc
came_brought (plans.PutPart bucket key id number) sum came taken command bodiless made is = absurd (cc)
came_brought plan sum came taken command bodiless made is =
    let nothing = (read_brings plan sum came command refl made).put in
    let none : None ≡ Some taken = sym (ap (option_map (λ (what : Data (List ℕ)). what.body)) nothing) ∙ is in absurd (cc)

came_sent : CameAs sent
unfolding command_of
came_sent (plans.Ready ready) sum came taken command bodiless made is =
    let same : ready ≡ command = cc in
    let none : None ≡ Some taken = sym (bodiless ready refl) ∙ ap sent same ∙ is in absurd (cc)
came_sent (plans.Put bucket key said condition) sum came taken command bodiless made is =
    let put = λ (metadata : List MetadataEntry). commands.Key bucket key (key_commands.Put (put_of said.content_type metadata condition came)) in
    let kept = made_of (with_sum sum said.metadata) put command made in
    let none : None ≡ Some taken = ap sent kept.2 ∙ is in absurd (cc)
came_sent (plans.PutPart bucket key id number) sum came taken command bodiless made is = cc
came_sent plan sum came taken command bodiless made is =
    let none : None ≡ Some taken = sym (read_brings plan sum came command refl made).part ∙ is in absurd (cc)

payloads : (bytes_of : Command → Option (List ℕ))
    → ((settings : Settings) (head : HeadParts) (ready : Command) → route_of settings head ≡ Ok (plans.Ready ready) → bytes_of ready ≡ None)
    → CameAs bytes_of → WholePayloadsAreData → ArePayloads bytes_of
payloads bytes_of bodiless came law settings moment bytes rest context command taken sound is =
    let routed = admitted_route settings sound.head moment sound.asks sound.admitted in
    let same = came sound.asks.plan _ sound.payload taken command (λ ready ready_is. bodiless settings sound.head ready (routed ∙ ap Ok ready_is)) sound.asked is in
    (same, λ whole. subst (IsDataOf sound.asks.announced.framing sound.body) (sym same) (law sound.asks.announced sound.body sound.payload whole sound.message.whole sound.accepted))

pub payloads_are_brought : ReadyPlansBringNothing → WholePayloadsAreData → PayloadsAreBrought
payloads_are_brought ready =
    payloads brings (λ settings head command routed. (ready settings head command routed).0) came_brought

pub payloads_are_sent : ReadyPlansBringNothing → WholePayloadsAreData → PayloadsAreSent
payloads_are_sent ready =
    payloads sent (λ settings head command routed. (ready settings head command routed).1) came_sent
