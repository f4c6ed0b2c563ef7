-- What right answers say, and how a delete marker hides.
use Rattle.std.proofs.Common.{◌≡◌, refl, sym, ap, subst, ◌∙◌, Bool, true, false, not, ℕ, ⊎_elim, inl, inr, List, [], ◌∷◌, ◌++◌, append_assoc, Option, Some, None, option_map, is_some, Result, Ok, Err}
use Rattle.std.proofs.lemmas.Bool.{false≢true, not-false}
use Rattle.std.proofs.lemmas.Option.{same_Some}
use Rattle.std.specs.Result.{result_ok}
use Rattle.s3_terms.specs.declared.code.Code.{Code}
use Rattle.s3_terms.specs.declared.code.Code.TheVariants.{NoSuchBucket, NoSuchKey, PreconditionFailed}
use Rattle.s3_names.specs.declared.ids.VersionId.{VersionId}
use Rattle.s3_bodies.specs.Payload.{tag_of}
use Rattle.s3_conditions.specs.declared.conditions.Conditions.{Conditions}
use Rattle.s3_conditions.specs.declared.conditions.Selection.{Selection}
use Rattle.s3_conditions.specs.declared.conditions.Selection.TheVariants.{Whole, Part, Unchanged, Outside}
use Rattle.s3_conditions.specs.Conditions.{plain, judged as judged_by}
use Rattle.s3_versions.specs.declared.picking.Refusal.{Refusal}
use Rattle.s3_versions.specs.declared.version.Content.TheVariants.{DeleteMarker}
use Rattle.s3_versions.specs.declared.version.Data.{Data}
use Rattle.s3_versions.specs.declared.version.Version.{Version}
use Rattle.s3_versions.specs.declared.version.Versioning.{Versioning}
use Rattle.s3_versions.specs.declared.version.Versioning.TheVariants.{Unversioned, Enabled, Suspended}
use Rattle.s3_versions.specs.Metadata.{Entry as MetadataEntry}
use Rattle.s3_versions.specs.Rules.{made, new_id, pick, facts_of, asked_for, judged, current, after_delete, KeyDeleted}
use Rattle.s3_versions.specs.Laws as versions
use Rattle.s3_uploads.specs.Completion.{parts_listed, joined_data}
use Rattle.s3_uploads.specs.declared.listed.ListedPart.{ListedPart}
use Rattle.s3_uploads.specs.declared.upload.Upload.{Upload}
use Rattle.s3_records.specs.Catalogue.{has_bucket, versions_of, versioning_of}
use Rattle.s3_records.specs.Laws.{ChangesFollowRules}
use Rattle.s3_records.specs.Places.{ChangesAreByPlace}
use Rattle.s3_machine.specs.declared.command.Command.{Command}
use Rattle.s3_machine.specs.declared.command.Command.TheVariants as commands
use Rattle.s3_machine.specs.declared.command.KeyCommand.TheVariants as key_commands
use Rattle.s3_machine.specs.declared.command.UploadCommand.TheVariants as upload_commands
use Rattle.s3_machine.specs.declared.command.Description.{Description}
use Rattle.s3_machine.specs.declared.command.Found.{Found}
use Rattle.s3_machine.specs.declared.command.ObjectCopy.{ObjectCopy}
use Rattle.s3_machine.specs.declared.command.Source.{Source as CopySource}
use Rattle.s3_machine.specs.declared.command.Outcome.TheVariants as outcomes
use Rattle.s3_machine.specs.declared.command.WriteCondition.{WriteCondition}
use Rattle.s3_machine.specs.declared.command.WriteCondition.TheVariants as write_conditions
use Rattle.s3_machine.specs.declared.rules.Rules.{Rules}
use Rattle.s3_terms.specs.Fault.{◌>>◌, ◌>>=◌}
use Rattle.s3_machine.specs.Fault.{refuse, as_refusal}
use Rattle.s3_machine.specs.Effects.{Address, Object, UploadPlace, Read, place_of, open_at, upload_stored, joined_at, writes, hides, copies, completes, source_read, brought, brings, object_of, stored_by, whole, read_at, reads, overrides_of, said_of, given_whole, is_refused, succeeds, shown_as, by_conditions}
use Rattle.s3_machine.specs.History.{Entry, IsAnswer, after, after_entry}
use Rattle.s3_machine.specs.Kept.{SparesVersion, ReadsVersion, Stores, Copies, WouldGive, WouldMake, Source, Put, Copy, Completion, Marks, EveryHistory, StoredIsKept, VersionsAreKept, StoredIsTold, ReadsGiveOrFail, RepliesSayWhatIsAsked, MarkersHide, QuietEntriesChangeNothing, PutsAreKept, PutVersionsAreKept, CopiesAreKept, CopyVersionsAreKept, BodiesAreTagged, PutsStoreTheirContents, CopiesStoreTheirSource, CompletionsStoreTheirParts, StoredHasSource}
use Rattle.s3_machine.specs.Laws.{QuietStepsChangeNothing, ConditionsJudgeReads}
use Rattle.s3_machine.specs.Step.{State, Stepped, tag_at, is_barred, barred_code, read_for_copy, shows_all, may_be_copied, source_found, described, copied, data_of, shown_in, makes_marker, found_in, outcome_shown, shown_by, delete_step, key_done, done, stepped, step}
use Rattle.s3_machine.proofs.EffectLemmas.{FollowRules, versions_at, shown, after_line, copy_done}
use Rattle.s3_machine.proofs.HistoryLemmas.{after-push, parts_of, right_at}
use Rattle.s3_machine.proofs.KeptLemmas.{outcome_is, picked, got, plain_shown, step_reads, stored_there, stored_writes, key_left}

-- a plain read hands out all of a version, or refuses
abbrev GivesOrRefuses : Stepped → Type 0
GivesOrRefuses st = is_some (given_whole st.1) ≡ succeeds st.1

gives_or_refuses : (s : State) (name : List ℕ) (conditions : Conditions) (overrides : List MetadataEntry) (read : Result (Version (List ℕ) × Data (List ℕ)) Refusal) → conditions ≡ plain
    → GivesOrRefuses (stepped s (read >>= shown s name conditions overrides))
gives_or_refuses s name conditions overrides (Ok read) is =
    let P : Result Selection Refusal → Type 0 = λ chosen. GivesOrRefuses (stepped s (chosen >>= (λ selection. Ok (s, outcome_shown (found_in (versioning_of s name) read) overrides selection)))) in
    subst P (sym (ap (λ (c : Conditions). shown_by c (facts_of read)) is ∙ plain_shown (facts_of read))) refl
gives_or_refuses s name conditions overrides (Err refusal) is = refl

step_gives_or_refuses : (rules : Rules) (s : State) (n t : ℕ) (command : Command) (a : Address) (version : Option VersionId)
    → reads command ≡ Some (whole a version) → GivesOrRefuses (step rules s n t command)
unfolding done key_done
step_gives_or_refuses rules s n t (commands.Key name key (key_commands.Read asked)) a version is =
    let same : read_at (record { bucket = name; key = key }) asked ≡ whole a version = cc in
    after_line GivesOrRefuses s (not (has_bucket s name)) NoSuchBucket (key_done s n t name key (key_commands.Read asked)) refl
    (λ there. gives_or_refuses s name asked.conditions asked.overrides (pick asked.version (versions_of s name key)) (ap (λ (q : Read). q.conditions) same))
step_gives_or_refuses rules s n t _ a version is = absurd (cc)

pub reads_give_or_fail : EveryHistory ReadsGiveOrFail
reads_give_or_fail rules s n entries legal before later e address version parts is =
    let there = after rules s before in
    let outcome = outcome_is rules there _ e (right_at rules s n entries before later e legal parts) in
    ap (λ o. is_some (given_whole o)) outcome
    ∙ step_gives_or_refuses rules there e.answer.number e.moment e.command address version is
    ∙ sym (ap succeeds outcome)

pub quiet_entries_change_nothing : QuietStepsChangeNothing → EveryHistory QuietEntriesChangeNothing
quiet_entries_change_nothing steps rules s n entries legal before later e parts quiet =
    let there = after rules s before in
    let outcome = outcome_is rules there _ e (right_at rules s n entries before later e legal parts) in
    after-push rules s before e
    ∙ steps rules there e.answer.number e.moment e.command (⊎_elim (λ is. inl (sym (ap is_refused outcome) ∙ is)) inr quiet)

-- ---- conditions

-- what holds of what is told of two rules holds behind a line that may refuse both
behind_line : (s : State) (conditions : Conditions) (fault : Bool) (next plainly : Result Stepped Refusal)
    → (stepped s next).1 ≡ by_conditions conditions (stepped s plainly).1
    → (stepped s (refuse fault NoSuchBucket >> next)).1 ≡ by_conditions conditions (stepped s (refuse fault NoSuchBucket >> plainly)).1
behind_line s conditions true next plainly is = refl
behind_line s conditions false next plainly is = is

read_judged : (s : State) (name : List ℕ) (conditions : Conditions) (overrides : List MetadataEntry)
    (read : Result (Version (List ℕ) × Data (List ℕ)) Refusal)
    → picked s name conditions overrides read ≡ by_conditions conditions (picked s name plain overrides read)
read_judged s name conditions overrides (Ok read) =
    ap (λ (r : Result Selection Refusal). by_conditions conditions (shown_as (found_in (versioning_of s name) read) overrides r))
    (sym (plain_shown (facts_of read)))
read_judged s name conditions overrides (Err refusal) = refl

pub conditions_judge_reads : ConditionsJudgeReads
unfolding done key_done
conditions_judge_reads rules s n t name key version conditions overrides =
    let read = pick version (versions_of s name key) in
    behind_line s conditions (not (has_bucket s name))
    (key_done s n t name key (key_commands.Read (record { version = version; conditions = conditions; overrides = overrides })))
    (key_done s n t name key (key_commands.Read (record { version = version; conditions = plain; overrides = overrides })))
    (got s name conditions overrides read
    ∙ read_judged s name conditions overrides read
    ∙ ap (by_conditions conditions) (sym (got s name plain overrides read)))

-- of a version that is handed out the reply says what was asked for
abbrev Says : List MetadataEntry → Stepped → Type 0
Says overrides st =
    (found : Found (List ℕ)) (selection : Selection) (said : List MetadataEntry) → st.1 ≡ outcomes.Got found selection said → said ≡ overrides

shown_says : (s : State) (found : Found (List ℕ)) (overrides : List MetadataEntry) (selection : Result Selection Refusal)
    → Says overrides (stepped s (selection >>= (λ chosen. Ok (s, outcome_shown found overrides chosen))))
shown_says s found overrides (Ok Whole) _ selection said is = sym (ap said_of is)
shown_says s found overrides (Ok (Part first last)) _ selection said is = sym (ap said_of is)
shown_says s found overrides (Ok Unchanged) _ selection said is = sym (ap said_of is)
shown_says s found overrides (Ok Outside) _ selection said is = absurd (cc)
shown_says s found overrides (Err refusal) _ selection said is = absurd (cc)

read_says : (s : State) (name : List ℕ) (conditions : Conditions) (overrides : List MetadataEntry)
    (read : Result (Version (List ℕ) × Data (List ℕ)) Refusal)
    → Says overrides (stepped s (read >>= shown s name conditions overrides))
read_says s name conditions overrides (Ok read) =
    shown_says s (found_in (versioning_of s name) read) overrides (shown_by conditions (facts_of read))
read_says s name conditions overrides (Err refusal) = λ found selection said is. absurd (cc)

step_says : (rules : Rules) (s : State) (n t : ℕ) (command : Command) (asked : Read)
    → reads command ≡ Some asked → Says (overrides_of command) (step rules s n t command)
unfolding done key_done
step_says rules s n t (commands.Key name key (key_commands.Read asked)) wanted is =
    after_line (Says asked.overrides) s (not (has_bucket s name)) NoSuchBucket (key_done s n t name key (key_commands.Read asked))
    (λ found selection said none. absurd (cc))
    (λ there. read_says s name asked.conditions asked.overrides (pick asked.version (versions_of s name key)))
step_says rules s n t _ wanted is = absurd (cc)

pub replies_say_what_is_asked : EveryHistory RepliesSayWhatIsAsked
replies_say_what_is_asked rules s n entries legal before later read asked found selection overrides parts is got =
    let there = after rules s before in
    let outcome = outcome_is rules there _ read (right_at rules s n entries before later read legal parts) in
    step_says rules there read.answer.number read.moment read.command asked is found selection overrides (sym outcome ∙ got)

-- ---- puts

key_put : (s : State) (n t : ℕ) (a : Address) (command : Command) (what : Data (List ℕ)) → writes command ≡ a ∷ []
    → brought command ≡ Some what → stored_by s n t command ≡ Some (object_of s n t a what)
key_put s n t a (commands.Key bucket key (key_commands.Put put)) what written brings = cc
key_put s n t a _ what written brings = absurd (cc)

pub puts_store_their_contents : PutsStoreTheirContents
puts_store_their_contents s e address what puts =
    record { by = key_put s e.answer.number e.moment address e.command what puts.written puts.brings; accepted = puts.accepted }

-- ---- copies

-- what is found of a version that was read, where the conditions of a copy are met
abbrev source_shown : State → CopySource → Version (List ℕ) × Data (List ℕ) → Result (Found (List ℕ)) Refusal
source_shown s source read = do
  refuse (not (may_be_copied source.conditions (facts_of read))) PreconditionFailed
  Ok (found_in (versioning_of s source.bucket) read)

-- what is let pass by a line that may refuse
passes : {A : Type 0} (meets : Bool) (here found : A) → (refuse (not meets) PreconditionFailed >> Ok here) ≡ Ok found
    → (meets ≡ true) × (here ≡ found)
passes true here found is = (refl, cc)
passes false here found is = absurd (cc)

-- the version that a copy is from is one that a read picks, and it meets the conditions
record IsFoundBy (s : State) (source : CopySource) (read : Result (Version (List ℕ) × Data (List ℕ)) Refusal) (found : Found (List ℕ)) : Type 0 where
  picks : Version (List ℕ) × Data (List ℕ)
  is : read ≡ Ok picks
  meets : may_be_copied source.conditions (facts_of picks) ≡ true
  holds : found_in (versioning_of s source.bucket) picks ≡ found

found_behind : (s : State) (source : CopySource) (fault : Bool) (read : Result (Version (List ℕ) × Data (List ℕ)) Refusal) (found : Found (List ℕ))
    → (refuse fault NoSuchBucket >> (read_for_copy read >>= source_shown s source)) ≡ Ok found → IsFoundBy s source read found
found_behind s source true read found is = absurd (cc)
found_behind s source false (Ok picks) found is =
    let both = passes (may_be_copied source.conditions (facts_of picks)) (found_in (versioning_of s source.bucket) picks) found is in
    record { picks = picks; is = refl; meets = both.0; holds = both.1 }
found_behind s source false (Err refusal) found is = absurd (cc)

-- a version that is picked was found
found_first : (asked : Option VersionId) (found : Option (Version (List ℕ))) (read : Version (List ℕ) × Data (List ℕ))
    → judged asked found ≡ Ok read → (v : Version (List ℕ)) × (found ≡ Some v)
found_first None None read is = absurd (cc)
found_first (Some id) None read is = absurd (cc)
found_first asked (Some v) read is = (v, refl)

-- conditions by which all is shown judge so
all_shown : (judgement : Result Selection Code) → shows_all judgement ≡ true → ◌≡◌ {A = Result Selection Refusal} (as_refusal judgement) (Ok Whole)
all_shown (Ok Whole) is = refl
all_shown (Ok other) is = absurd (false≢true is)
all_shown (Err code) is = absurd (false≢true is)

-- what a copy takes from its source is what a read of that, by the same conditions, is given
pub would_give : (s : State) (source : CopySource) (found : Found (List ℕ)) → source_found s source ≡ Ok found
    → WouldGive s (source_read source) found.stored
unfolding source_found
would_give s source found is =
    let by = found_behind s source (not (has_bucket s source.bucket)) (pick source.version (versions_of s source.bucket source.key)) found is in
    let first = found_first source.version (asked_for source.version (versions_of s source.bucket source.key)) by.picks by.is in
    let facts = facts_of by.picks in
    let shown : ◌≡◌ {A = Result Selection Refusal} (shown_by source.conditions facts) (Ok Whole) =
    all_shown (judged_by source.conditions facts.moment facts.tag facts.size) by.meets in
    record {
      found = found;
      gives = λ rules n t command reading.
          ap given_whole (step_reads rules s n t command (source_read source) first.0 reading first.1)
          ∙ ap (λ (r : Result (Version (List ℕ) × Data (List ℕ)) Refusal). given_whole (picked s source.bucket source.conditions (overrides_of command) r)) by.is
          ∙ ap (λ (r : Result Selection Refusal). given_whole (shown_as (found_in (versioning_of s source.bucket) by.picks) (overrides_of command) r)) shown
          ∙ ap Some by.holds;
      holds = refl;
    }

-- and what is told of it is what that read is told
pub would_find : (s : State) (source : CopySource) (found : Found (List ℕ)) → source_found s source ≡ Ok found
    → (gives : WouldGive s (source_read source) found.stored) × (gives.found ≡ found)
unfolding would_give
would_find s source found is = (would_give s source found is, refl)

-- what a copy stores is what it says of what it found
copied_from : (copy : ObjectCopy) (source : Result (Found (List ℕ)) Refusal) (what : Data (List ℕ))
    → (source >>= (λ (found : Found (List ℕ)). Ok (described copy.description found.stored))) ≡ Ok what
    → (found : Found (List ℕ)) × (source ≡ Ok found) × (what ≡ described copy.description found.stored)
copied_from copy (Ok found) what is = (found, refl, cc)
copied_from copy (Err refusal) what is = absurd (cc)

-- what a read of a source is given, and what is stored of it
pub record IsCopied (s : State) (asked : Read) (said : Option Description) (what : Data (List ℕ)) : Type 0 where
  pub source : Data (List ℕ)
  pub gives : WouldGive s asked source
  pub is : what ≡ described said source

copied_is : (s : State) (copy : ObjectCopy) (what : Data (List ℕ)) → copied s copy ≡ Ok what
    → IsCopied s (source_read copy.source) copy.description what
unfolding copied
copied_is s copy what is =
    let from = copied_from copy (source_found s copy.source) what is in
    record { source = from.0.stored; gives = would_give s copy.source from.0 from.1; is = from.2 }

source_known : (s : State) (n t : ℕ) (a : Address) (source : Result (Data (List ℕ)) Refusal) (object : Object)
    → option_map (object_of s n t a) (result_ok source) ≡ Some object → source ≡ Ok object.stored
source_known s n t a (Ok what) object is =
    let same : object_of s n t a what ≡ object = cc in
    ap (λ (o : Object). Ok o.stored) same
source_known s n t a (Err refusal) object is = absurd (cc)

source_gives : (s : State) (n t : ℕ) (a : Address) (copy : ObjectCopy) (object : Object)
    → option_map (object_of s n t a) (result_ok (copied s copy)) ≡ Some object
    → IsCopied s (source_read copy.source) copy.description object.stored
source_gives s n t a copy object is = copied_is s copy object.stored (source_known s n t a (copied s copy) object is)

source_stored : (s : State) (n t : ℕ) (command : Command) (asked : Read) (said : Option Description) (object : Object)
    → copies command ≡ Some (asked, said) → stored_by s n t command ≡ Some object → IsCopied s asked said object.stored
source_stored s n t (commands.Key bucket key (key_commands.Copy copy)) asked said object from is =
    let same = same_Some (source_read copy.source, copy.description) (asked, said) from in
    subst (λ (p : Read × Option Description). IsCopied s p.0 p.1 object.stored) same
    (source_gives s n t (record { bucket = bucket; key = key }) copy object is)
source_stored s n t _ asked said object from is = absurd (cc)

pub copies_store_their_source : CopiesStoreTheirSource
copies_store_their_source s e asked said object from stores =
    let copied = source_stored s e.answer.number e.moment e.command asked said object from stores.by in
    (copied.source, copied.gives, copied.is)

-- a copy that succeeds stores something
abbrev StoresSome : State → ℕ → ℕ → Address → Command → Type 0
StoresSome s n t a command = (what : Data (List ℕ)) × (stored_by s n t command ≡ Some (object_of s n t a what))

source_there : (s : State) (n t : ℕ) (name key : List ℕ) (fault : Bool) (source : Result (Data (List ℕ)) Refusal)
    → succeeds (stepped s (refuse fault NoSuchBucket >> (source >>= copy_done s n t name key))).1 ≡ true
    → (what : Data (List ℕ)) × (source ≡ Ok what)
source_there s n t name key true source accepted = absurd (cc)
source_there s n t name key false (Ok what) accepted = (what, refl)
source_there s n t name key false (Err refusal) accepted = absurd (cc)

copy_stores : (rules : Rules) (s : State) (n t : ℕ) (command : Command) (a : Address) (asked : Read) (said : Option Description)
    → writes command ≡ a ∷ [] → copies command ≡ Some (asked, said) → succeeds (step rules s n t command).1 ≡ true
    → StoresSome s n t a command
unfolding done key_done copy_done
copy_stores rules s n t (commands.Key bucket key (key_commands.Copy copy)) a asked said written from accepted =
    let same : record { bucket = bucket; key = key } ≡ a = cc in
    let known = source_there s n t bucket key (not (has_bucket s bucket)) (copied s copy) accepted in (
      known.0,
      ap (λ (r : Result (Data (List ℕ)) Refusal). option_map (object_of s n t (record { bucket = bucket; key = key })) (result_ok r)) known.1
          ∙ ap (λ (b : Address). Some (object_of s n t b known.0)) same,
    )
copy_stores rules s n t _ a asked said written from accepted = absurd (cc)

-- what an accepted copy stores, as an object, is what it says of its source
pub record Copied (s : State) (e : Entry) (address : Address) (asked : Read) (said : Option Description) : Type 0 where
  pub source : Data (List ℕ)
  pub gives : WouldGive s asked source
  pub stores : Stores s e (object_of s e.answer.number e.moment address (described said source))

entry_copies : (rules : Rules) (s : State) (n : ℕ) (e : Entry) (address : Address) (asked : Read) (said : Option Description) → IsAnswer rules s n e
    → Copies address asked said e → Copied s e address asked said
entry_copies rules s n e address asked said answer copy =
    let some = copy_stores rules s e.answer.number e.moment e.command address asked said copy.written copy.from
    (sym (ap succeeds (outcome_is rules s n e answer)) ∙ copy.accepted) in
    let object = object_of s e.answer.number e.moment address in
    let stores : Stores s e (object some.0) = record { by = some.1; accepted = copy.accepted } in
    let from = source_stored s e.answer.number e.moment e.command asked said (object some.0) copy.from some.1 in
    record { source = from.source; gives = from.gives; stores = subst (λ (d : Data (List ℕ)). Stores s e (object d)) from.is stores }

pub copies_are_kept : EveryHistory StoredIsKept → EveryHistory CopiesAreKept
copies_are_kept law rules s n entries legal before between later copy read address asked said parts is leaves reading =
    let here = after rules s before in
    let there = right_at rules s n entries before (between ++ read ∷ later) copy legal (parts ∙ append_assoc before (copy ∷ between) (read ∷ later)) in
    let stored = entry_copies rules here _ copy address asked said there is in
    (stored.source, stored.gives, law rules s n entries legal before between later copy read _ parts stored.stores leaves reading)

pub copy_versions_are_kept : EveryHistory StoredIsTold → EveryHistory VersionsAreKept → EveryHistory CopyVersionsAreKept
copy_versions_are_kept tells law rules s n entries legal before between later copy read address asked said id parts is touches spares reading =
    let here = after rules s before in
    let split = parts ∙ append_assoc before (copy ∷ between) (read ∷ later) in
    let stored = entry_copies rules here _ copy address asked said (right_at rules s n entries before (between ++ read ∷ later) copy legal split) is in
    let object = object_of here copy.answer.number copy.moment address (described said stored.source) in
    let told = tells rules s n entries legal before (between ++ read ∷ later) copy object split stored.stores in
    let same : id ≡ object.id = cc (touches, told.under) in (
      stored.source,
      stored.gives,
      law rules s n entries legal before between later copy read object parts stored.stores
          (subst (λ (i : VersionId). SparesVersion address i between) same spares)
          (subst (λ (i : VersionId). ReadsVersion address i read) same reading),
    )

-- ---- completions

-- what a completion stores is what its upload's listed parts make
made_of : (s : State) (n t : ℕ) (upload : UploadPlace) (listed : List ListedPart) (condition : WriteCondition) (found : Option (Upload (List ℕ)))
    (object : Object)
    → open_at s upload ≡ found
    → option_map (object_of s n t upload.address) (upload_stored found (upload_commands.Complete listed condition)) ≡ Some object
    → (upload.address ≡ object.address) × WouldMake s upload listed object.stored
made_of s n t upload listed condition (Some u) object there is =
    let same : object_of s n t upload.address (joined_data u (parts_listed listed u.parts)) ≡ object = cc in (
      ap (λ (o : Object). o.address) same,
      record { found = u; there = there; makes = sym (ap (λ (o : Object). o.stored) same) },
    )
made_of s n t upload listed condition None object there is = absurd (cc)

parts_made : (s : State) (n t : ℕ) (upload : UploadPlace) (listed : List ListedPart) (condition : WriteCondition) (object : Object)
    → joined_at s n t upload (upload_commands.Complete listed condition) ≡ Some object
    → (upload.address ≡ object.address) × WouldMake s upload listed object.stored
parts_made s n t upload listed condition object is = made_of s n t upload listed condition (open_at s upload) object refl is

completion_stored : (s : State) (n t : ℕ) (command : Command) (upload : UploadPlace) (listed : List ListedPart) (object : Object)
    → completes command ≡ Some (upload, listed) → stored_by s n t command ≡ Some object → WouldMake s upload listed object.stored
completion_stored s n t (commands.Upload bucket key id (upload_commands.Complete parts condition)) upload listed object asks is =
    let same = same_Some (place_of bucket key id, parts) (upload, listed) asks in
    subst (λ (p : UploadPlace × List ListedPart). WouldMake s p.0 p.1 object.stored) same
    (parts_made s n t (place_of bucket key id) parts condition object is).1
completion_stored s n t _ upload listed object asks is = absurd (cc)

pub completions_store_their_parts : CompletionsStoreTheirParts
completions_store_their_parts s e upload listed object asks stores =
    completion_stored s e.answer.number e.moment e.command upload listed object asks stores.by

-- ---- sources

-- where an object is stored, it has a source
source_of : (s : State) (e : Entry) (command : Command) (object : Object) → e.command ≡ command
    → stored_by s e.answer.number e.moment command ≡ Some object → succeeds e.answer.outcome ≡ true → Source s e object
source_of s e (commands.Key bucket key (key_commands.Put put)) object same is accepted =
    Put (record {
      written = ap writes same ∙ stored_writes s e.answer.number e.moment (commands.Key bucket key (key_commands.Put put)) object is;
      brings = ap brought same ∙ ap (option_map (λ (o : Object). o.stored)) is;
      accepted = accepted;
    })
source_of s e (commands.Key bucket key (key_commands.Copy copy)) object same is accepted =
    let address : record { bucket = bucket; key = key } ≡ object.address =
    stored_there s e.answer.number e.moment (record { bucket = bucket; key = key }) (result_ok (copied s copy)) object is in
    let from = source_gives s e.answer.number e.moment (record { bucket = bucket; key = key }) copy object is in
    Copy (source_read copy.source) copy.description from.source
    (record { written = ap writes same ∙ ap (λ (a : Address). a ∷ []) address; from = ap copies same; accepted = accepted })
    from.gives from.is
source_of s e (commands.Upload bucket key id (upload_commands.Complete listed condition)) object same is accepted =
    let upload = place_of bucket key id in
    let made = parts_made s e.answer.number e.moment upload listed condition object is in
    Completion upload listed made.0 (record { asks = ap completes same; accepted = accepted }) made.1
source_of s e _ object same is accepted = absurd (cc)

pub stored_has_source : StoredHasSource
stored_has_source s e object stores = source_of s e e.command object refl stores.by stores.accepted

-- what holds of what is stored holds of puts
pub puts_are_kept : EveryHistory StoredIsKept → EveryHistory PutsAreKept
puts_are_kept law rules s n entries legal before between later put read address what parts puts =
    law rules s n entries legal before between later put read _ parts
    (puts_store_their_contents (after rules s before) put address what puts)

pub put_versions_are_kept : EveryHistory StoredIsTold → EveryHistory VersionsAreKept → EveryHistory PutVersionsAreKept
put_versions_are_kept tells law rules s n entries legal before between later put read address what id parts puts touches spares reading =
    let object = object_of (after rules s before) put.answer.number put.moment address what in
    let stores = puts_store_their_contents (after rules s before) put address what puts in
    let told = tells rules s n entries legal before (between ++ read ∷ later) put object
    (parts ∙ append_assoc before (put ∷ between) (read ∷ later)) stores in
    let same : id ≡ object.id = cc (touches, told.under) in
    law rules s n entries legal before between later put read object parts stores
    (subst (λ (i : VersionId). SparesVersion address i between) same spares)
    (subst (λ (i : VersionId). ReadsVersion address i read) same reading)

-- the bytes that are brought are accepted under their tag
brought_tag : (command : Command) (body : List ℕ) → brings command ≡ Some body
    → (a : Address) × (what : Data (List ℕ)) × (writes command ≡ a ∷ []) × (brought command ≡ Some what) × (what.tag ≡ tag_of body)
brought_tag (commands.Key bucket key (key_commands.Put put)) body is =
    let same : put.payload ≡ body = cc in
    (record { bucket = bucket; key = key }, data_of put, refl, refl, ap tag_of same)
brought_tag _ body is = absurd (cc)

pub bodies_are_tagged : EveryHistory StoredIsTold → EveryHistory BodiesAreTagged
bodies_are_tagged tells rules s n entries legal before later e body parts is accepted =
    let put = brought_tag e.command body is in
    let stores = puts_store_their_contents (after rules s before) e put.0 put.1
    (record { written = put.2; brings = put.3; accepted = accepted }) in
    (tells rules s n entries legal before later e _ parts stores).tagged ∙ ap Some put.4

-- ---- delete markers

-- the current version of an address is a delete marker
pub record IsHidden (s : State) (a : Address) : Type 0 where
  pub marker : Version (List ℕ)
  pub is_current : current (versions_at s a) ≡ Some marker
  pub told : pick None (versions_at s a) ≡ Err (record { code = NoSuchKey; is_delete_marker = true })

hidden_by : versions.MarkersHide (List ℕ) → (s : State) (a : Address) (b : Versioning) (n t : ℕ) (vs : List (Version (List ℕ))) (id : VersionId) → versions_at s a ≡ after_delete b n t vs → shown_in b (new_id b n) ≡ Some id → IsHidden s a
hidden_by hide s a Unversioned n t vs id is shown = absurd (cc)
hidden_by hide s a Enabled n t vs id is shown =
    record { marker = made Enabled n t DeleteMarker; is_current = ap current is; told = ap (pick None) is ∙ (hide n t vs).0 }
hidden_by hide s a Suspended n t vs id is shown =
    record { marker = made Suspended n t DeleteMarker; is_current = ap current is; told = ap (pick None) is ∙ (hide n t vs).1 }

told_shown : (b : Versioning) (n : ℕ) (id : VersionId) → outcomes.Deleted (shown_in b (new_id b n)) (makes_marker b) ≡ outcomes.Deleted (Some id) true → shown_in b (new_id b n) ≡ Some id
told_shown b n id is = cc

-- where a marker is told, the key is hidden
abbrev HidesWhere : Address → VersionId → Stepped → Type 0
HidesWhere a id st = st.1 ≡ outcomes.Deleted (Some id) true → IsHidden st.0 a

module _ (hide : versions.MarkersHide (List ℕ)) (follow : ChangesFollowRules (List ℕ)) where
  deletion_marks : (s : State) (n t : ℕ) (name key : List ℕ) (id : VersionId) → not (has_bucket s name) ≡ false
      → HidesWhere (record { bucket = name; key = key }) id (delete_step s n t name key)
  deletion_marks s n t name key id there marked =
      hidden_by hide _ (record { bucket = name; key = key }) (versioning_of s name) n t (versions_of s name key) id
      (follow s name key (KeyDeleted n t) (not-false (has_bucket s name) there)) (told_shown (versioning_of s name) n id marked)

  -- a delete that makes a marker hides
  step_marks : (rules : Rules) (s : State) (n t : ℕ) (command : Command) (a : Address) (id : VersionId) → hides command ≡ Some a
      → HidesWhere a id (step rules s n t command)
  unfolding done key_done
  step_marks rules s n t (commands.Key name key (key_commands.Delete None)) a id deletes =
      let same = same_Some (record { bucket = name; key = key }) a deletes in
      subst (λ (b : Address). HidesWhere b id (step rules s n t (commands.Key name key (key_commands.Delete None)))) same
      (after_line (HidesWhere (record { bucket = name; key = key }) id) s (not (has_bucket s name)) NoSuchBucket
      (key_done s n t name key (key_commands.Delete None)) (λ refused. absurd (cc))
      (λ there. deletion_marks s n t name key id there))
  step_marks rules s n t (commands.Key name key (key_commands.DeleteMatching tags)) a id deletes =
      let same = same_Some (record { bucket = name; key = key }) a deletes in
      subst (λ (b : Address). HidesWhere b id (step rules s n t (commands.Key name key (key_commands.DeleteMatching tags)))) same
      (after_line (HidesWhere (record { bucket = name; key = key }) id) s (not (has_bucket s name)) NoSuchBucket
      (key_done s n t name key (key_commands.DeleteMatching tags)) (λ refused. absurd (cc))
      (λ there. after_line (HidesWhere (record { bucket = name; key = key }) id)
      s (is_barred (write_conditions.IfMatch tags) (tag_at s name key)) (barred_code (tag_at s name key)) _ (λ refused. absurd (cc))
      (λ met. deletion_marks s n t name key id there)))
  step_marks rules s n t _ a id deletes = absurd (cc)

module _ (places : ChangesAreByPlace (List ℕ)) (follow : FollowRules) (hide : versions.MarkersHide (List ℕ)) where
  entry_marks : (rules : Rules) (s : State) (n : ℕ) (e : Entry) (a : Address) → IsAnswer rules s n e → Marks a e → IsHidden (after_entry rules s e) a
  entry_marks rules s n e a answer marks =
      step_marks hide follow.keys rules s e.answer.number e.moment e.command a marks.id marks.deletes
      (sym (outcome_is rules s n e answer) ∙ marks.marked)

  pub markers_hide : EveryHistory MarkersHide
  markers_hide rules s n entries legal before between later mark read address parts marks leaves reads =
      let at = parts_of rules s n entries before between later mark read legal parts in
      let here = after rules s before in
      let there = after rules (after_entry rules here mark) between in
      let left = key_left places follow rules (after_entry rules here mark) at.k between address at.legal leaves in
      let hidden = entry_marks rules here at.m mark address at.right marks in
      outcome_is rules there at.j read at.right_last
      ∙ step_reads rules there read.answer.number read.moment read.command _ hidden.marker reads.read
      (ap current left ∙ hidden.is_current)
      ∙ ap (picked there address.bucket reads.conditions (overrides_of read.command)) (ap (pick None) left ∙ hidden.told)
