-- What was put comes back, by its key and by its version.
use Rattle.std.proofs.Common.{◌≡◌, refl, sym, ap, subst, ◌∙◌, Bool, true, false, not, ℕ, inl, inr, List, [], ◌∷◌, Contains, Option, Some, None, is_some, option_map, Result, Ok, Err}
use Rattle.std.proofs.lemmas.Bool.{false≢true}
use Rattle.std.proofs.lemmas.Option.{same_Some}
use Rattle.std.specs.FinMap as map
use Rattle.s3_terms.specs.declared.code.Code.TheVariants.{NoSuchBucket}
use Rattle.s3_names.specs.declared.ids.VersionId.{VersionId}
use Rattle.s3_conditions.specs.declared.conditions.Conditions.{Conditions}
use Rattle.s3_conditions.specs.declared.conditions.Selection.{Selection}
use Rattle.s3_conditions.specs.declared.conditions.Selection.TheVariants.{Whole}
use Rattle.s3_conditions.specs.Conditions.{plain, unmet, unchanged, selected, judged as judged_by}
use Rattle.s3_versions.specs.declared.picking.Facts.{Facts}
use Rattle.s3_versions.specs.declared.picking.Refusal.{Refusal}
use Rattle.s3_versions.specs.declared.version.Content.TheVariants.{Stored}
use Rattle.s3_versions.specs.declared.version.Data.{Data}
use Rattle.s3_versions.specs.declared.version.Version.{Version}
use Rattle.s3_versions.specs.declared.version.Versioning.{Versioning}
use Rattle.s3_versions.specs.Metadata.{Entry as MetadataEntry}
use Rattle.s3_versions.specs.Rules.{made, pick, facts_of, asked_for, judged, VersionPut, after_change}
use Rattle.s3_versions.specs.Laws.{PutsAreCurrent}
use Rattle.s3_records.specs.Catalogue.{Bucket, has_bucket, versions_in, versions_of, versioning_of}
use Rattle.s3_records.specs.Places.{version_at, ChangesAreByPlace}
use Rattle.s3_machine.specs.declared.command.Command.{Command}
use Rattle.s3_machine.specs.declared.command.Command.TheVariants as commands
use Rattle.s3_machine.specs.declared.command.KeyCommand.{KeyCommand}
use Rattle.s3_machine.specs.declared.command.KeyCommand.TheVariants as key_commands
use Rattle.s3_machine.specs.declared.command.UploadCommand.TheVariants as upload_commands
use Rattle.s3_machine.specs.declared.command.Found.{Found}
use Rattle.s3_machine.specs.declared.command.Outcome.{Outcome}
use Rattle.s3_machine.specs.declared.command.Outcome.TheVariants as outcomes
use Rattle.s3_machine.specs.declared.rules.Rules.{Rules}
use Rattle.s3_terms.specs.Fault.{◌>>◌, ◌>>=◌}
use Rattle.s3_machine.specs.Fault.{refuse}
use Rattle.s3_machine.specs.Effects.{Address, Object, Read, writes, object_of, key_stored, stored_at, place_of, open_at, upload_stored, stored_by, whole, read_at, reads, overrides_of, given_whole, shown_as, acknowledged, touched, succeeds}
use Rattle.s3_machine.specs.History.{Entry, IsAnswer, Legal, after, after_entry}
use Rattle.s3_machine.specs.Kept.{Leaves, LeavesKey, Spares, SparesVersion, Stores, Tells, IsGiven, EveryHistory, StoredIsKept, VersionsAreKept, StoredIsTold}
use Rattle.s3_machine.specs.Step.{State, Stepped, found_in, outcome_shown, shown_by, key_done, done, stepped, step}
use Rattle.s3_machine.proofs.ContainsLemmas.{is_in}
use Rattle.s3_machine.proofs.EffectLemmas.{FollowRules, Changes, Does, versions_at, shown, step_does}
use Rattle.s3_machine.proofs.HistoryLemmas.{parts_of, right_at}

-- a right answer has the outcome of the step under its number
pub outcome_is : (rules : Rules) (s : State) (n : ℕ) (e : Entry) → IsAnswer rules s n e → e.answer.outcome ≡ (step rules s e.answer.number e.moment e.command).1
outcome_is rules s n e answer =
    ap (λ a. a.outcome) answer ∙ sym (ap (λ a. (step rules s a.number e.moment e.command).1) answer)

-- what a read of a bucket that is there is answered
abbrev pub picked : State → List ℕ → Conditions → List MetadataEntry → Result (Version (List ℕ) × Data (List ℕ)) Refusal → Outcome
picked s name conditions overrides (Ok read) =
    shown_as (found_in (versioning_of s name) read) overrides (shown_by conditions (facts_of read))
picked s name conditions overrides (Err refusal) = outcomes.Refused refusal.code refusal.is_delete_marker

none_found : (found : Option (Bucket (List ℕ))) (key : List ℕ) (v : Version (List ℕ)) (vs : List (Version (List ℕ))) → versions_in found key ≡ v ∷ vs → is_some found ≡ true
none_found None key v vs is = absurd (cc)
none_found (Some b) key v vs is = refl

-- a bucket that has versions is there
there_with : (s : State) (a : Address) (v : Version (List ℕ)) (vs : List (Version (List ℕ))) → versions_at s a ≡ v ∷ vs → has_bucket s a.bucket ≡ true
there_with s a v vs is = none_found (map.get s a.bucket) a.key v vs is

some_first : (asked : Option VersionId) (vs : List (Version (List ℕ))) (v : Version (List ℕ)) → asked_for asked vs ≡ Some v → (first : Version (List ℕ)) × (rest : List (Version (List ℕ))) × (vs ≡ first ∷ rest)
some_first None [] v is = absurd (cc)
some_first (Some id) [] v is = absurd (cc)
some_first asked (first ∷ rest) v is = (first, rest, refl)

shows : (s : State) (found : Found (List ℕ)) (overrides : List MetadataEntry) (selection : Result Selection Refusal)
    → (stepped s (selection >>= (λ chosen. Ok (s, outcome_shown found overrides chosen)))).1 ≡ shown_as found overrides selection
shows s found overrides (Ok selection) = refl
shows s found overrides (Err refusal) = refl

pub got : (s : State) (name : List ℕ) (conditions : Conditions) (overrides : List MetadataEntry)
    (read : Result (Version (List ℕ) × Data (List ℕ)) Refusal)
    → (stepped s (read >>= shown s name conditions overrides)).1 ≡ picked s name conditions overrides read
got s name conditions overrides (Ok read) = shows s (found_in (versioning_of s name) read) overrides (shown_by conditions (facts_of read))
got s name conditions overrides (Err refusal) = refl

-- who asks nothing is shown all
pub plain_shown : (facts : Facts) → shown_by plain facts ≡ Ok Whole
unfolding judged_by unmet unchanged selected
plain_shown facts = refl

pub past_line : (s : State) (fault : Bool) (next : Result Stepped Refusal) → fault ≡ false → stepped s (refuse fault NoSuchBucket >> next) ≡ stepped s next
past_line s false next is = refl
past_line s true next is = absurd (false≢true (sym is))

-- a read is answered what is picked, by its conditions, where the bucket is there
pub read_there : (rules : Rules) (s : State) (n t : ℕ) (command : Command) (wanted : Read)
    → reads command ≡ Some wanted → has_bucket s wanted.address.bucket ≡ true
    → (step rules s n t command).1
    ≡ picked s wanted.address.bucket wanted.conditions (overrides_of command) (pick wanted.version (versions_at s wanted.address))
unfolding done key_done
read_there rules s n t (commands.Key name key (key_commands.Read asked)) wanted is found =
    let same : read_at (record { bucket = name; key = key }) asked ≡ wanted = cc in
    let there = ap (λ (q : Read). has_bucket s q.address.bucket) same ∙ found in
    ap (λ (st : Stepped). st.1) (past_line s (not (has_bucket s name)) (key_done s n t name key (key_commands.Read asked)) (ap not there))
    ∙ got s name asked.conditions asked.overrides (pick asked.version (versions_of s name key))
    ∙ ap (λ (q : Read). picked s q.address.bucket q.conditions asked.overrides (pick q.version (versions_at s q.address))) same
read_there rules s n t _ wanted is found = absurd (cc)

-- so it is where there is a version at all
pub step_reads : (rules : Rules) (s : State) (n t : ℕ) (command : Command) (wanted : Read) (v : Version (List ℕ))
    → reads command ≡ Some wanted → asked_for wanted.version (versions_at s wanted.address) ≡ Some v
    → (step rules s n t command).1
    ≡ picked s wanted.address.bucket wanted.conditions (overrides_of command) (pick wanted.version (versions_at s wanted.address))
step_reads rules s n t command wanted v is found =
    let first = some_first wanted.version (versions_at s wanted.address) v found in
    read_there rules s n t command wanted is (there_with s wanted.address first.0 first.1 first.2)

module _ (places : ChangesAreByPlace (List ℕ)) (follow : FollowRules) (rules : Rules) where
  -- what an entry did
  pub entry_does : (s : State) (n : ℕ) (e : Entry) → IsAnswer rules s n e → Does s e.answer.number e.moment e.command (step rules s e.answer.number e.moment e.command)
  entry_does s n e answer = step_does places follow rules s e.answer.number e.moment e.command

  -- a write that succeeded changed what it touches
  pub entry_changes : (s : State) (n : ℕ) (e : Entry) (a : Address) → IsAnswer rules s n e → Contains (writes e.command) a → succeeds e.answer.outcome ≡ true → Changes s e.answer.number e.moment e.command (step rules s e.answer.number e.moment e.command)
  entry_changes s n e a answer written accepted =
      elim (entry_does s n e answer).effect [
        | inl same ↦ absurd (false≢true (sym (same.refused a written) ∙ sym (ap succeeds (outcome_is rules s n e answer)) ∙ accepted))
        | inr changes ↦ changes
      ]

  -- an entry that leaves an address leaves its versions
  pub versions_left : (s : State) (n : ℕ) (e : Entry) (a : Address) → IsAnswer rules s n e → Leaves a e → versions_at (after_entry rules s e) a ≡ versions_at s a
  versions_left s n e a answer leaves =
      elim (entry_does s n e answer).effect [
        | inl same ↦ same.versions a.bucket a.key
        | inr changes ↦
            changes.other_keys a (λ written.
            false≢true (sym (leaves written) ∙ ap succeeds (outcome_is rules s n e answer) ∙ changes.accepted))
      ]

  pub key_left : (s : State) (n : ℕ) (es : List Entry) (a : Address) → Legal rules s n es → LeavesKey a es → versions_at (after rules s es) a ≡ versions_at s a
  key_left s n [] a legal leaves = refl
  key_left s n (e ∷ es) a legal leaves =
      key_left (after_entry rules s e) _ es a legal.1 leaves.1 ∙ versions_left s n e a legal.0 leaves.0

  -- an entry that spares a version leaves it
  pub version_left : (s : State) (n : ℕ) (e : Entry) (a : Address) (id : VersionId) → IsAnswer rules s n e → Spares a id e → version_at (after_entry rules s e) a.bucket a.key id ≡ version_at s a.bucket a.key id
  version_left s n e a id answer spares =
      elim (entry_does s n e answer).effect [
        | inl same ↦ ap (asked_for (Some id)) (same.versions a.bucket a.key)
        | inr changes ↦
            let outcome = outcome_is rules s n e answer in
            changes.other_ids a id (λ written touches.
            spares written (ap succeeds outcome ∙ changes.accepted)
            (subst (λ (o : Outcome). Contains (touched e.command o a) id) (sym outcome) touches))
      ]

  pub version_spared : (s : State) (n : ℕ) (es : List Entry) (a : Address) (id : VersionId) → Legal rules s n es → SparesVersion a id es → version_at (after rules s es) a.bucket a.key id ≡ version_at s a.bucket a.key id
  version_spared s n [] a id legal spares = refl
  version_spared s n (e ∷ es) a id legal spares =
      version_spared (after_entry rules s e) _ es a id legal.1 spares.1 ∙ version_left s n e a id legal.0 spares.0

-- a plain read that picks a version is given all of it
pub whole_given : (found : Found (List ℕ)) (overrides : List MetadataEntry) (facts : Facts)
    → given_whole (shown_as found overrides (shown_by plain facts)) ≡ Some found
whole_given found overrides facts = ap (λ (r : Result Selection Refusal). given_whole (shown_as found overrides r)) (plain_shown facts)

-- and one that picks what a put made is given it
gives : (e : Entry) (s : State) (name : List ℕ) (overrides : List MetadataEntry) (what : Data (List ℕ)) (b : Versioning) (n t : ℕ)
    (read : Result (Version (List ℕ) × Data (List ℕ)) Refusal)
    → e.answer.outcome ≡ picked s name plain overrides read → read ≡ Ok (made b n t (Stored what), what) → IsGiven t what e
gives e s name overrides what b n t read is picks = record {
  found = found_in (versioning_of s name) (made b n t (Stored what), what);
  gives = ap given_whole (is ∙ ap (picked s name plain overrides) picks)
      ∙ whole_given (found_in (versioning_of s name) (made b n t (Stored what), what)) overrides (facts_of (made b n t (Stored what), what));
  moment = refl;
  holds = refl;
}

-- a command writes where it stores
pub stored_there : (s : State) (n t : ℕ) (a : Address) (what : Option (Data (List ℕ))) (object : Object)
    → option_map (object_of s n t a) what ≡ Some object → a ≡ object.address
stored_there s n t a (Some what) object is = cc
stored_there s n t a None object is = absurd (cc)

stored_at_address : (s : State) (n t : ℕ) (a : Address) (asked : KeyCommand) (object : Object) → stored_at s n t a asked ≡ Some object
    → a ∷ [] ≡ object.address ∷ []
stored_at_address s n t a asked object is = ap (λ (b : Address). b ∷ []) (stored_there s n t a (key_stored s a asked) object is)

pub stored_writes : (s : State) (n t : ℕ) (command : Command) (object : Object) → stored_by s n t command ≡ Some object
    → writes command ≡ object.address ∷ []
stored_writes s n t (commands.Key bucket key (key_commands.Put put)) object is =
    stored_at_address s n t (record { bucket = bucket; key = key }) (key_commands.Put put) object is
stored_writes s n t (commands.Key bucket key (key_commands.Copy copy)) object is =
    stored_at_address s n t (record { bucket = bucket; key = key }) (key_commands.Copy copy) object is
stored_writes s n t (commands.Upload bucket key id (upload_commands.Complete listed condition)) object is =
    let upload = place_of bucket key id in
    ap (λ (b : Address). b ∷ []) (stored_there s n t upload.address (upload_stored (open_at s upload) (upload_commands.Complete listed condition)) object is)
stored_writes s n t _ object is = absurd (cc)

-- what an entry leaves that stores an object: its answer tells it, and it stands as the newest version of its key
pub record Added (s now : State) (e : Entry) (object : Object) : Type 0 where
  pub told : Tells object e
  pub versioning : Versioning
  pub versions : versions_at now object.address
      ≡ after_change versioning (VersionPut e.answer.number object.moment object.stored) (versions_at s object.address)
  pub stands : version_at now object.address.bucket object.address.key object.id
      ≡ Some (made versioning e.answer.number object.moment (Stored object.stored))

module _ (places : ChangesAreByPlace (List ℕ)) (follow : FollowRules) where
  pub entry_stores : (rules : Rules) (s : State) (n : ℕ) (e : Entry) (object : Object) → IsAnswer rules s n e → Stores s e object
      → Added s (after_entry rules s e) e object
  entry_stores rules s n e object answer stores =
      let outcome = outcome_is rules s n e answer in
      let changes = entry_changes places follow rules s n e object.address answer
      (is_in (writes e.command) object.address object.address (stored_writes s e.answer.number e.moment e.command object stores.by) refl)
      stores.accepted in
      elim changes.adds [
        | inl adds ↦
            subst (λ (o : Object). Added s (after_entry rules s e) e o) (same_Some _ object (sym adds.by ∙ stores.by)) (record {
              told = record {
                written = adds.written;
                under = ap (λ (o : Outcome). touched e.command o adds.address) outcome ∙ adds.touches;
                tagged = ap acknowledged outcome ∙ adds.tagged;
              };
              versioning = versioning_of s adds.address.bucket;
              versions = adds.versions;
              stands = adds.makes;
            })
        | inr nothing ↦ absurd (cc (nothing.by, stores.by))
      ]

  pub stored_is_told : EveryHistory StoredIsTold
  stored_is_told rules s n entries legal before later write object parts stores =
      (entry_stores rules (after rules s before) _ write object (right_at rules s n entries before later write legal parts) stores).told

  pub stored_is_kept : PutsAreCurrent (List ℕ) → EveryHistory StoredIsKept
  stored_is_kept current rules s n entries legal before between later write read object parts stores leaves reads =
      let at = parts_of rules s n entries before between later write read legal parts in
      let here = after rules s before in
      let there = after rules (after_entry rules here write) between in
      let a = object.address in
      let added = entry_stores rules here at.m write object at.right stores in
      let versions = key_left places follow rules (after_entry rules here write) at.k between a at.legal leaves ∙ added.versions in
      let now = current added.versioning write.answer.number object.moment object.stored (versions_at here a) in
      gives read there a.bucket (overrides_of read.command) object.stored added.versioning write.answer.number object.moment (pick None (versions_at there a))
      (outcome_is rules there at.j read at.right_last
      ∙ step_reads rules there read.answer.number read.moment read.command (whole a None) _ reads (ap (asked_for None) versions ∙ now.0))
      (ap (pick None) versions ∙ now.1)

  pub versions_are_kept : EveryHistory VersionsAreKept
  versions_are_kept rules s n entries legal before between later write read object parts stores spares reads =
      let at = parts_of rules s n entries before between later write read legal parts in
      let here = after rules s before in
      let there = after rules (after_entry rules here write) between in
      let a = object.address in
      let added = entry_stores rules here at.m write object at.right stores in
      let stands = version_spared places follow rules (after_entry rules here write) at.k between a object.id at.legal spares
      ∙ added.stands in
      gives read there a.bucket (overrides_of read.command) object.stored added.versioning write.answer.number object.moment
      (pick (Some object.id) (versions_at there a))
      (outcome_is rules there at.j read at.right_last
      ∙ step_reads rules there read.answer.number read.moment read.command (whole a (Some object.id)) _ reads stands)
      (ap (judged (Some object.id)) stands)
