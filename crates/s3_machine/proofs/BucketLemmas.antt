-- What is dropped of buckets, and which versioning they have.
use Rattle.std.proofs.Common.{◌≡◌, refl, sym, ap, subst, ◌∙◌, ◌⊎◌, ⊎_elim, inl, inr, Bool, true, false, not, ℕ, List, [], ◌∷◌, ◌++◌, if◌then◌else◌, Option, Some, None, is_some, option_map, Result, Ok, Err}
use Rattle.std.proofs.lemmas.Bool.{false≢true, not-false}
use Rattle.std.proofs.lemmas.Option.{same_Some}
use Rattle.std.specs.FinMap as map
use Rattle.s3_terms.specs.declared.code.Code.{Code}
use Rattle.s3_terms.specs.declared.code.Code.TheVariants.{NoSuchBucket, BucketAlreadyOwnedByYou, BucketNotEmpty, InvalidArgument}
use Rattle.s3_terms.specs.Fault.{◌>>◌, ◌>>=◌}
use Rattle.s3_text.proofs.MapLemmas.{same_or}
use Rattle.s3_versions.specs.declared.picking.Refusal.{Refusal}
use Rattle.s3_versions.specs.declared.version.Versioning.{Versioning}
use Rattle.s3_versions.specs.declared.version.Versioning.TheVariants.{Unversioned}
use Rattle.s3_versions.specs.declared.version.VersioningStatus.{VersioningStatus}
use Rattle.s3_versions.specs.Rules.{versioning_set, pick, facts_of as facts_read_of, KeyChange, VersionPut, KeyDeleted, VersionDropped}
use Rattle.s3_uploads.specs.Completion.{completed}
use Rattle.s3_uploads.specs.Parts.{part_sent}
use Rattle.s3_uploads.specs.Uploads.{with_part}
use Rattle.s3_uploads.specs.declared.upload.Upload.{Upload}
use Rattle.s3_records.specs.Catalogue.{Bucket, facts_of, has_bucket, is_empty_in, is_empty_bucket, versions_of, versioning_in}
use Rattle.s3_records.specs.Changes.{Change, BucketAdded, BucketDropped, VersioningSet, KeyChanged, UploadAdded, PartPut, UploadDropped, UploadCompleted, set_in, change_in, upload_change_in, bucket_after, changed}
use Rattle.s3_records.specs.DeletionLaws.{DeletionsKeepTheRest}
use Rattle.s3_records.specs.Laws.{AreFilled, EmptyHasNothing, OthersHaveSomething}
use Rattle.s3_records.specs.declared.records.BucketFacts.{BucketFacts}
use Rattle.s3_machine.specs.declared.command.BucketCommand.{BucketCommand}
use Rattle.s3_machine.specs.declared.command.BucketCommand.TheVariants as bucket_commands
use Rattle.s3_machine.specs.declared.command.Command.{Command}
use Rattle.s3_machine.specs.declared.command.Command.TheVariants as commands
use Rattle.s3_machine.specs.declared.command.KeyCommand.{KeyCommand}
use Rattle.s3_machine.specs.declared.command.KeyCommand.TheVariants as key_commands
use Rattle.s3_machine.specs.declared.command.UploadCommand.{UploadCommand}
use Rattle.s3_machine.specs.declared.command.UploadCommand.TheVariants as upload_commands
use Rattle.s3_machine.specs.declared.command.Outcome.{Outcome}
use Rattle.s3_machine.specs.declared.command.Outcome.TheVariants as outcomes
use Rattle.s3_machine.specs.declared.command.WriteCondition.TheVariants as write_conditions
use Rattle.s3_machine.specs.declared.rules.Rules.{Rules}
use Rattle.s3_machine.specs.Bases.{EverySoundHistory, HistoriesLeaveSound}
use Rattle.s3_machine.specs.Buckets.{makes_bucket, drops_bucket, sets_versioning, asks_versioning, finds_bucket, HasSomething, HasNothing, Switches, LeavesVersioning, FullBucketsStay, EmptyBucketsAreDropped, VersioningIsTold, NewBucketsAreUnversioned, RegionIsTold}
use Rattle.s3_machine.specs.Effects.{is_refused, succeeds}
use Rattle.s3_machine.specs.Fault.{refuse, as_refusal}
use Rattle.s3_machine.specs.History.{Entry, IsAnswer, Legal, after, after_entry}
use Rattle.s3_machine.specs.Kept.{EveryHistory}
use Rattle.s3_machine.specs.Laws.{QuietStepsChangeNothing}
use Rattle.s3_machine.specs.Step.{State, Stepped, tag_at, is_barred, barred_code, data_of, copied, source_found, lies_in, part_copied, shown_by, upload_begun, open_upload, bucket_done, key_done, upload_done, done, stepped, step}
use Rattle.s3_machine.proofs.ChangeLemmas.{bucket_here, bucket_other}
use Rattle.s3_machine.proofs.EffectLemmas.{after_line}
use Rattle.s3_machine.proofs.HistoryLemmas.{Legal-append, after-push, parts_of, right_at}
use Rattle.s3_machine.proofs.KeptLemmas.{outcome_is, past_line}
use Rattle.s3_machine.proofs.UnmetLemmas.{refused_with}

-- ---- what is dropped

-- a bucket with something in it doesn't count as empty, and is there
full : EmptyHasNothing (List ℕ) → (s : State) (name : List ℕ) (is_empty : Bool) → is_empty_bucket s name ≡ is_empty → HasSomething s name
    → is_empty ≡ false
full empty s name true is something =
    let nothing = empty s name is in
    absurd (⊎_elim (λ (key, some). some (nothing.no_versions key)) (λ (key, id, some). some (nothing.no_uploads key id)) something)
full empty s name false is something = refl

there_full : (found : Option (Bucket (List ℕ))) → is_empty_in found ≡ false → is_some found ≡ true
there_full None is = absurd (false≢true (sym is))
there_full (Some b) is = refl

drop_refused : EmptyHasNothing (List ℕ) → (rules : Rules) (s : State) (n t : ℕ) (command : Command) (name : List ℕ) → drops_bucket command ≡ Some name
    → HasSomething s name → (step rules s n t command).1 ≡ outcomes.Refused BucketNotEmpty false
unfolding done bucket_done
drop_refused empty rules s n t (commands.Bucket asked bucket_commands.Delete) name drops something =
    let here = subst (HasSomething s) (sym (same_Some asked name drops)) something in
    let not_empty : is_empty_bucket s asked ≡ false = full empty s asked (is_empty_bucket s asked) refl here in
    ap (λ (st : Stepped). st.1) (past_line s (not (has_bucket s asked)) _ (ap not (there_full (map.get s asked) not_empty)))
    ∙ refused_with s (not (is_empty_bucket s asked)) BucketNotEmpty _ (ap not not_empty)
drop_refused empty rules s n t _ name drops something = absurd (cc)

pub full_buckets_stay : EmptyHasNothing (List ℕ) → QuietStepsChangeNothing → EveryHistory FullBucketsStay
full_buckets_stay empty quiet rules s n entries legal before later drop name parts drops something =
    let here = after rules s before in
    let refused = drop_refused empty rules here drop.answer.number drop.moment drop.command name drops something in (
      outcome_is rules here _ drop (right_at rules s n entries before later drop legal parts) ∙ refused,
      after-push rules s before drop ∙ quiet rules here drop.answer.number drop.moment drop.command (inl (ap is_refused refused)),
    )

-- one with nothing in it counts as empty, where no key is without
counts_empty : OthersHaveSomething (List ℕ) → (s : State) (name : List ℕ) (is_empty : Bool) → is_empty_bucket s name ≡ is_empty → AreFilled s
    → HasNothing s name → is_empty ≡ true
counts_empty others s name true is filled nothing = refl
counts_empty others s name false is filled nothing =
    absurd (⊎_elim (λ (key, some). some (nothing.0 key)) (λ (key, id, some). some (nothing.1 key id)) (others s name filled is))

past_full : (s : State) (fault : Bool) (next : Result Stepped Refusal) → fault ≡ false → stepped s (refuse fault BucketNotEmpty >> next) ≡ stepped s next
past_full s false next is = refl
past_full s true next is = absurd (false≢true (sym is))

-- the bucket is gone, and who asked for it is told so
abbrev IsGone : List ℕ → Stepped → Type 0
IsGone name st = (succeeds st.1 ≡ true) × (has_bucket st.0 name ≡ false)

drop_done : (rules : Rules) (s : State) (n t : ℕ) (command : Command) (name : List ℕ) → drops_bucket command ≡ Some name
    → has_bucket s name ≡ true → is_empty_bucket s name ≡ true → IsGone name (step rules s n t command)
unfolding done bucket_done
drop_done rules s n t (commands.Bucket asked bucket_commands.Delete) name drops there empty =
    let same = same_Some asked name drops in
    let is = past_line s (not (has_bucket s asked)) _ (ap not (ap (has_bucket s) same ∙ there))
    ∙ past_full s (not (is_empty_bucket s asked)) _ (ap not (ap (is_empty_bucket s) same ∙ empty)) in
    subst (IsGone name) (sym is)
    (refl, ap (λ (b : List ℕ). has_bucket (changed s asked BucketDropped) b) (sym same) ∙ ap is_some (bucket_here s asked None))
drop_done rules s n t _ name drops there empty = absurd (cc)

pub empty_buckets_are_dropped : OthersHaveSomething (List ℕ) → HistoriesLeaveSound → EverySoundHistory EmptyBucketsAreDropped
empty_buckets_are_dropped others leaves rules s n entries sound legal before later drop name parts drops there nothing =
    let here = after rules s before in
    let cut = Legal-append rules s n before (drop ∷ later) (subst (Legal rules s n) parts legal) in
    let filled = (leaves rules s n before sound cut.0).filled in
    let gone = drop_done rules here drop.answer.number drop.moment drop.command name drops there
    (counts_empty others here name (is_empty_bucket here name) refl filled nothing) in (
      ap succeeds (outcome_is rules here _ drop cut.1.0) ∙ gone.0,
      ap (λ (state : State). has_bucket state name) (after-push rules s before drop) ∙ gone.1,
    )

-- ---- which versioning a bucket has

-- the versioning of a bucket that is there
abbrev status : Option (Bucket (List ℕ)) → Option Versioning
status found = option_map (λ (f : BucketFacts). f.versioning) (option_map facts_of found)

abbrev status_of : State → List ℕ → Option Versioning
status_of s name = status (map.get s name)

-- a change of keys or of uploads leaves it
abbrev Keeps : Change (List ℕ) → Type 0
Keeps change = (found : Option (Bucket (List ℕ))) → status (bucket_after change found) ≡ status found

key_keeps : (key : List ℕ) (what : KeyChange (List ℕ)) (found : Option (Bucket (List ℕ))) → status (option_map (change_in key what) found) ≡ status found
key_keeps key what None = refl
key_keeps key what (Some b) = refl

upload_keeps : (key : List ℕ) (id : ℕ) (next : Option (Upload (List ℕ)) → Option (Upload (List ℕ))) (found : Option (Bucket (List ℕ)))
    → status (option_map (upload_change_in key id next) found) ≡ status found
upload_keeps key id next None = refl
upload_keeps key id next (Some b) = refl

-- of the bucket that a change names it is that of what the change makes, and that of every other stays
changed_keeps : (s : State) (name : List ℕ) (change : Change (List ℕ)) → Keeps change → (other : List ℕ)
    → status_of (changed s name change) other ≡ status_of s other
changed_keeps s name change keeps other =
    let now = bucket_after change (map.get s name) in
    elim (same_or other name) [
      | inl same ↦
          subst (λ (q : List ℕ). status_of (changed s name change) q ≡ status_of s q) (sym same)
          (ap status (bucket_here s name now) ∙ keeps (map.get s name))
      | inr differ ↦ ap status (bucket_other s name now other differ)
    ]

-- all buckets have the versioning that they had
abbrev Stays : State → Stepped → Type 0
Stays s st = (name : List ℕ) → status_of st.0 name ≡ status_of s name

stays_behind : (s : State) (fault : Bool) (code : Code) (next : Result Stepped Refusal) → Stays s (stepped s next)
    → Stays s (stepped s (refuse fault code >> next))
stays_behind s fault code next goes = after_line (Stays s) s fault code next (λ name. refl) (λ is. goes)

stays_with : {A : Type 0} (s : State) (found : Result A Refusal) (next : A → Result Stepped Refusal) → ((a : A) → Stays s (stepped s (next a)))
    → Stays s (stepped s (found >>= next))
stays_with s (Ok a) next goes = goes a
stays_with s (Err refusal) next goes = λ name. refl

key_stays : (s : State) (n t : ℕ) (name key : List ℕ) (asked : KeyCommand) → Stays s (stepped s (key_done s n t name key asked))
unfolding key_done
key_stays s n t name key (key_commands.Put put) =
    stays_behind s (is_barred put.condition (tag_at s name key)) (barred_code (tag_at s name key)) _
    (changed_keeps s name (KeyChanged key (VersionPut n t (data_of put))) (key_keeps key (VersionPut n t (data_of put))))
key_stays s n t name key (key_commands.Copy copy) =
    stays_with s (copied s copy) _ (λ what. changed_keeps s name (KeyChanged key (VersionPut n t what)) (key_keeps key (VersionPut n t what)))
key_stays s n t name key (key_commands.Read asked) =
    stays_with s (pick asked.version (versions_of s name key)) _
    (λ read. stays_with s (shown_by asked.conditions (facts_read_of read)) _ (λ selection other. refl))
key_stays s n t name key (key_commands.ReadTags version) =
    stays_with s (pick version (versions_of s name key)) _ (λ read other. refl)
key_stays s n t name key (key_commands.Delete None) =
    changed_keeps s name (KeyChanged key (KeyDeleted n t)) (key_keeps key (KeyDeleted n t))
key_stays s n t name key (key_commands.Delete (Some id)) =
    changed_keeps s name (KeyChanged key (VersionDropped id)) (key_keeps key (VersionDropped id))
key_stays s n t name key (key_commands.DeleteMatching tags) =
    stays_behind s (is_barred (write_conditions.IfMatch tags) (tag_at s name key)) (barred_code (tag_at s name key)) _
    (changed_keeps s name (KeyChanged key (KeyDeleted n t)) (key_keeps key (KeyDeleted n t)))
key_stays s n t name key (key_commands.Begin begin) =
    changed_keeps s name (UploadAdded key n (upload_begun t begin)) (upload_keeps key n (λ old. Some (upload_begun t begin)))

upload_stays : (rules : Rules) (s : State) (n t : ℕ) (name key : List ℕ) (id : ℕ) (asked : UploadCommand)
    → Stays s (stepped s (upload_done rules s n t name key id asked))
unfolding upload_done
upload_stays rules s n t name key id (upload_commands.PutPart number payload) =
    stays_with s (open_upload s name key id) _
    (λ u. changed_keeps s name (PartPut key id number (part_sent t payload)) (upload_keeps key id (option_map (with_part number (part_sent t payload)))))
upload_stays rules s n t name key id (upload_commands.CopyPart number copy) =
    stays_with s (open_upload s name key id) _
    (λ u. stays_with s (source_found s copy.source) _
    (λ found. stays_behind s (not (lies_in copy.range found.stored.size)) InvalidArgument _
    (changed_keeps s name (PartPut key id number (part_copied t copy.range found.stored))
    (upload_keeps key id (option_map (with_part number (part_copied t copy.range found.stored)))))))
upload_stays rules s n t name key id (upload_commands.Complete listed condition) =
    stays_with s (open_upload s name key id) _
    (λ u. stays_behind s (is_barred condition (tag_at s name key)) (barred_code (tag_at s name key)) _
    (stays_with s (as_refusal (completed rules.least_part listed u)) _
    (λ what. changed_keeps s name (UploadCompleted key id (VersionPut n t what))
    (λ found. upload_keeps key id (λ old. None) (option_map (change_in key (VersionPut n t what)) found) ∙ key_keeps key (VersionPut n t what) found))))
upload_stays rules s n t name key id upload_commands.Abort =
    stays_with s (open_upload s name key id) _ (λ u. changed_keeps s name (UploadDropped key id) (upload_keeps key id (λ old. None)))
upload_stays rules s n t name key id (upload_commands.ListParts asked) =
    stays_with s (open_upload s name key id) _ (λ u other. refl)

-- the command is to make the bucket, to drop it or to set its versioning
abbrev AsksSwitch : List ℕ → Command → Type 0
AsksSwitch name command =
    (makes_bucket command ≡ Some name) ⊎ ((drops_bucket command ≡ Some name)
    ⊎ ((to : VersioningStatus) × (sets_versioning command ≡ Some (name, to))))

-- where it is and doesn't succeed, the bucket has the versioning that it had, and where it isn't
abbrev StaysUnswitched : State → List ℕ → Command → Stepped → Type 0
StaysUnswitched s name command st = (AsksSwitch name command → succeeds st.1 ≡ false) → status_of st.0 name ≡ status_of s name

-- a change of another bucket leaves it
switched_other : (s : State) (asked name : List ℕ) (command : Command) (change : Change (List ℕ)) (outcome : Outcome) → (asked ≡ name → AsksSwitch name command)
    → succeeds outcome ≡ true → StaysUnswitched s name command (changed s asked change, outcome)
switched_other s asked name command change outcome asks accepted fails =
    elim (same_or name asked) [
      | inl same ↦ absurd (false≢true (sym (fails (asks (sym same))) ∙ accepted))
      | inr differ ↦ ap status (bucket_other s asked (bucket_after change (map.get s asked)) name differ)
    ]

unswitched_behind : (s : State) (name : List ℕ) (command : Command) (fault : Bool) (code : Code) (next : Result Stepped Refusal)
    → StaysUnswitched s name command (stepped s next) → StaysUnswitched s name command (stepped s (refuse fault code >> next))
unswitched_behind s name command fault code next goes =
    after_line (StaysUnswitched s name command) s fault code next (λ fails. refl) (λ is. goes)

bucket_stays : (rules : Rules) (s : State) (t : ℕ) (asked : List ℕ) (what : BucketCommand) (name : List ℕ)
    → StaysUnswitched s name (commands.Bucket asked what) (stepped s (bucket_done rules s t asked what))
unfolding bucket_done
bucket_stays rules s t asked bucket_commands.Create name =
    unswitched_behind s name (commands.Bucket asked bucket_commands.Create) (has_bucket s asked) BucketAlreadyOwnedByYou _
    (switched_other s asked name (commands.Bucket asked bucket_commands.Create) (BucketAdded t) (outcomes.BucketMade asked) (λ same. inl (ap Some same)) refl)
bucket_stays rules s t asked bucket_commands.Delete name =
    unswitched_behind s name (commands.Bucket asked bucket_commands.Delete) (not (has_bucket s asked)) NoSuchBucket _
    (unswitched_behind s name (commands.Bucket asked bucket_commands.Delete) (not (is_empty_bucket s asked)) BucketNotEmpty _
    (switched_other s asked name (commands.Bucket asked bucket_commands.Delete) BucketDropped outcomes.BucketDropped (λ same. inr (inl (ap Some same))) refl))
bucket_stays rules s t asked (bucket_commands.PutVersioning to) name =
    unswitched_behind s name (commands.Bucket asked (bucket_commands.PutVersioning to)) (not (has_bucket s asked)) NoSuchBucket _
    (switched_other s asked name (commands.Bucket asked (bucket_commands.PutVersioning to)) (VersioningSet to) outcomes.VersioningSet
    (λ same. inr (inr (to, ap (λ (q : List ℕ). Some (q, to)) same))) refl)
bucket_stays rules s t asked other name =
    after_line (StaysUnswitched s name (commands.Bucket asked other)) s (not (has_bucket s asked)) NoSuchBucket _ (λ fails. refl) (λ is fails. refl)

module _ (rest : DeletionsKeepTheRest (List ℕ)) (rules : Rules) where
  step_stays : (s : State) (n t : ℕ) (command : Command) (name : List ℕ) → StaysUnswitched s name command (step rules s n t command)
  unfolding done
  step_stays s n t commands.ListBuckets name = λ fails. refl
  step_stays s n t (commands.Bucket asked what) name = bucket_stays rules s t asked what name
  step_stays s n t (commands.Key asked key what) name =
      λ fails. stays_behind s (not (has_bucket s asked)) NoSuchBucket (key_done s n t asked key what) (key_stays s n t asked key what) name
  step_stays s n t (commands.Upload asked key id what) name =
      λ fails. stays_behind s (not (has_bucket s asked)) NoSuchBucket (upload_done rules s n t asked key id what)
      (upload_stays rules s n t asked key id what) name
  step_stays s n t (commands.DeleteObjects asked deletion) name =
      after_line (StaysUnswitched s name (commands.DeleteObjects asked deletion)) s (not (has_bucket s asked)) NoSuchBucket _ (λ fails. refl)
      (λ there fails. ap (option_map (λ (f : BucketFacts). f.versioning))
      ((rest s asked n t deletion.objects (not-false (has_bucket s asked) there)).facts name))

  -- an entry that doesn't switch it leaves it
  not_accepted : (name : List ℕ) (e : Entry) → ¬ Switches name e → AsksSwitch name e.command → (accepted : Bool)
      → succeeds e.answer.outcome ≡ accepted → accepted ≡ false
  not_accepted name e never asks true is = absurd (never (record { asks = asks; accepted = is }))
  not_accepted name e never asks false is = refl

  status_left : (s : State) (n : ℕ) (e : Entry) (name : List ℕ) → IsAnswer rules s n e → ¬ Switches name e
      → status_of (after_entry rules s e) name ≡ status_of s name
  status_left s n e name answer never =
      step_stays s e.answer.number e.moment e.command name
      (λ asks. sym (ap succeeds (outcome_is rules s n e answer)) ∙ not_accepted name e never asks (succeeds e.answer.outcome) refl)

  status_through : (s : State) (n : ℕ) (es : List Entry) (name : List ℕ) → Legal rules s n es → LeavesVersioning name es
      → status_of (after rules s es) name ≡ status_of s name
  status_through s n [] name legal leaves = refl
  status_through s n (e ∷ es) name legal leaves =
      status_through (after_entry rules s e) _ es name legal.1 leaves.1 ∙ status_left s n e name legal.0 leaves.0

-- ---- what is set and what is told

-- where the command succeeds, the bucket has this versioning
abbrev SetsTo : List ℕ → Versioning → Stepped → Type 0
SetsTo name versioning st = succeeds st.1 ≡ true → status_of st.0 name ≡ Some versioning

set_to : (to : VersioningStatus) (found : Option (Bucket (List ℕ))) → is_some found ≡ true → status (option_map (set_in to) found) ≡ Some (versioning_set to)
set_to to None there = absurd (false≢true there)
set_to to (Some b) there = refl

step_sets : (rules : Rules) (s : State) (n t : ℕ) (command : Command) (name : List ℕ) (to : VersioningStatus)
    → sets_versioning command ≡ Some (name, to) → SetsTo name (versioning_set to) (step rules s n t command)
unfolding done bucket_done
step_sets rules s n t (commands.Bucket asked (bucket_commands.PutVersioning given)) name to sets =
    subst (λ (p : List ℕ × VersioningStatus). SetsTo p.0 (versioning_set p.1) (step rules s n t (commands.Bucket asked (bucket_commands.PutVersioning given))))
    (same_Some (asked, given) (name, to) sets)
    (after_line (SetsTo asked (versioning_set given)) s (not (has_bucket s asked)) NoSuchBucket _ (λ success. absurd (false≢true success))
    (λ there success. ap status (bucket_here s asked (bucket_after (VersioningSet given) (map.get s asked)))
    ∙ set_to given (map.get s asked) (not-false (has_bucket s asked) there)))
step_sets rules s n t _ name to sets = absurd (cc)

step_makes : (rules : Rules) (s : State) (n t : ℕ) (command : Command) (name : List ℕ)
    → makes_bucket command ≡ Some name → SetsTo name Unversioned (step rules s n t command)
unfolding done bucket_done
step_makes rules s n t (commands.Bucket asked bucket_commands.Create) name makes =
    subst (λ (q : List ℕ). SetsTo q Unversioned (step rules s n t (commands.Bucket asked bucket_commands.Create))) (same_Some asked name makes)
    (after_line (SetsTo asked Unversioned) s (has_bucket s asked) BucketAlreadyOwnedByYou _ (λ success. absurd (false≢true success))
    (λ none success. ap status (bucket_here s asked (bucket_after (BucketAdded t) (map.get s asked)))))
step_makes rules s n t _ name makes = absurd (cc)

-- a bucket that has a versioning is there with it
has_status : (found : Option (Bucket (List ℕ))) (versioning : Versioning) → status found ≡ Some versioning
    → (is_some found ≡ true) × (versioning_in found ≡ versioning)
has_status None versioning is = absurd (cc)
has_status (Some b) versioning is = (refl, same_Some b.versioning versioning is)

step_asks : (rules : Rules) (s : State) (n t : ℕ) (command : Command) (name : List ℕ) (versioning : Versioning)
    → asks_versioning command ≡ Some name → status_of s name ≡ Some versioning
    → (step rules s n t command).1 ≡ outcomes.BucketVersioning versioning
unfolding done bucket_done
step_asks rules s n t (commands.Bucket asked bucket_commands.GetVersioning) name versioning asks is =
    let has = has_status (map.get s asked) versioning (ap (status_of s) (same_Some asked name asks) ∙ is) in
    ap (λ (st : Stepped). st.1) (past_line s (not (has_bucket s asked)) _ (ap not has.0)) ∙ ap (λ (b : Versioning). outcomes.BucketVersioning b) has.1
step_asks rules s n t _ name versioning asks is = absurd (cc)

module _ (rest : DeletionsKeepTheRest (List ℕ)) where
  -- what an entry set is told until it is switched
  versioning_told : (rules : Rules) (s : State) (n : ℕ) (entries before between later : List Entry) (set ask : Entry) (name : List ℕ) (versioning : Versioning)
      → Legal rules s n entries → entries ≡ before ++ set ∷ between ++ ask ∷ later
      → SetsTo name versioning (step rules (after rules s before) set.answer.number set.moment set.command)
      → succeeds set.answer.outcome ≡ true → LeavesVersioning name between → asks_versioning ask.command ≡ Some name
      → ask.answer.outcome ≡ outcomes.BucketVersioning versioning
  versioning_told rules s n entries before between later set ask name versioning legal parts sets accepted leaves asks =
      let at = parts_of rules s n entries before between later set ask legal parts in
      let here = after rules s before in
      let there = after rules (after_entry rules here set) between in
      outcome_is rules there at.j ask at.right_last
      ∙ step_asks rules there ask.answer.number ask.moment ask.command name versioning asks
      (status_through rest rules (after_entry rules here set) at.k between name at.legal leaves
      ∙ sets (sym (ap succeeds (outcome_is rules here at.m set at.right)) ∙ accepted))

  pub versioning_is_told : EveryHistory VersioningIsTold
  versioning_is_told rules s n entries legal before between later set ask name to parts sets =
      versioning_told rules s n entries before between later set ask name (versioning_set to) legal parts
      (step_sets rules (after rules s before) set.answer.number set.moment set.command name to sets)

  pub new_buckets_are_unversioned : EveryHistory NewBucketsAreUnversioned
  new_buckets_are_unversioned rules s n entries legal before between later make ask name parts makes =
      versioning_told rules s n entries before between later make ask name Unversioned legal parts
      (step_makes rules (after rules s before) make.answer.number make.moment make.command name makes)

-- ---- where a bucket is

found_by : (s : State) (is_there : Bool) (region : List ℕ)
    → (stepped s (refuse (not is_there) NoSuchBucket >> Ok (s, outcomes.BucketFound region))).1
    ≡ if is_there then outcomes.BucketFound region else outcomes.Refused NoSuchBucket false
found_by s true region = refl
found_by s false region = refl

step_finds : (rules : Rules) (s : State) (n t : ℕ) (command : Command) (name : List ℕ) → finds_bucket command ≡ Some name
    → (step rules s n t command).1 ≡ if has_bucket s name then outcomes.BucketFound rules.region else outcomes.Refused NoSuchBucket false
unfolding done bucket_done
step_finds rules s n t (commands.Bucket asked bucket_commands.Head) name finds =
    found_by s (has_bucket s asked) rules.region
    ∙ ap (λ (b : List ℕ). if has_bucket s b then outcomes.BucketFound rules.region else outcomes.Refused NoSuchBucket false)
    (same_Some asked name finds)
step_finds rules s n t _ name finds = absurd (cc)

pub region_is_told : EveryHistory RegionIsTold
region_is_told rules s n entries legal before later find name parts finds =
    let here = after rules s before in
    outcome_is rules here _ find (right_at rules s n entries before later find legal parts)
    ∙ step_finds rules here find.answer.number find.moment find.command name finds
