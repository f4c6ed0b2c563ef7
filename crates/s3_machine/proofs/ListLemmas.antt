-- Lists and reads tell the same, and what is listed was stored.
use Rattle.std.proofs.Common.{◌≡◌, refl, sym, ap, subst, ◌∙◌, ⊎_elim, inl, inr, ◌↔◌, Bool, true, false, not, ℕ, List, [], ◌∷◌, ◌++◌, Option, Some, None, is_some, option_map, Result, Ok, Err}
use Rattle.std.proofs.lemmas.Bool.{false≢true}
use Rattle.std.specs.List.{Contains}
use Rattle.std.specs.FinMap as map
use Rattle.std.specs.Result.{result_ok}
use Rattle.s3_terms.specs.declared.code.Code.TheVariants.{NoSuchBucket}
use Rattle.s3_terms.specs.Fault.{◌>>◌}
use Rattle.s3_conditions.specs.Conditions.{plain}
use Rattle.s3_versions.specs.declared.picking.Facts.{Facts}
use Rattle.s3_versions.specs.declared.picking.Refusal.{Refusal}
use Rattle.s3_versions.specs.declared.version.Data.{Data}
use Rattle.s3_versions.specs.declared.version.Version.{Version}
use Rattle.s3_versions.specs.Metadata.{Entry as MetadataEntry}
use Rattle.s3_versions.specs.Rules.{id_of, pick, facts_of, facts_read}
use Rattle.s3_versions.specs.Laws.{PutsAreCurrent, IdsAreTold}
use Rattle.s3_records.specs.Catalogue.{Bucket, Catalogue, has_bucket, versions_in, versions_of, versioning_of}
use Rattle.s3_records.specs.Places.{ChangesAreByPlace}
use Rattle.s3_records.specs.Rows.{key_rows}
use Rattle.s3_prefixes.specs.declared.asked.ObjectsAsked.{ObjectsAsked}
use Rattle.s3_listings.specs.Laws.{ListedAreRead}
use Rattle.s3_prefixes.specs.Items.{Object as Item}
use Rattle.s3_listings.specs.Objects.{objects_asked, objects_told}
use Rattle.s3_documents.specs.Document as documents
use Rattle.s3_machine.specs.declared.command.BucketCommand.TheVariants as bucket_commands
use Rattle.s3_machine.specs.declared.command.Command.{Command}
use Rattle.s3_machine.specs.declared.command.Command.TheVariants as commands
use Rattle.s3_machine.specs.declared.command.KeyCommand.TheVariants as key_commands
use Rattle.s3_machine.specs.declared.command.Outcome.{Outcome}
use Rattle.s3_machine.specs.declared.command.Outcome.TheVariants as outcomes
use Rattle.s3_machine.specs.declared.rules.Rules.{Rules}
use Rattle.s3_machine.specs.Fault.{refuse}
use Rattle.s3_machine.specs.Effects.{Object, given_whole, facts_found, succeeds}
use Rattle.s3_machine.specs.History.{Entry, Legal, after, after_entry}
use Rattle.s3_machine.specs.Bases.{EverySoundHistory}
use Rattle.s3_machine.specs.Kept.{EveryHistory, WasStored, Stayed, facts_stored, StoredIsListed, ListedIsStored}
use Rattle.s3_machine.specs.Laws.{reading, all_keys, IsListed, ListsShowWhatReadsGive}
use Rattle.s3_machine.specs.Step.{State, Stepped, found_in, bucket_done, key_done, done, stepped, step}
use Rattle.s3_machine.proofs.EffectLemmas.{FollowRules, versions_at}
use Rattle.s3_machine.proofs.HistoryLemmas.{Legal-append, after-append, right_at}
use Rattle.s3_machine.proofs.KeptLemmas.{outcome_is, picked, got, whole_given, key_left, entry_stores}
use Rattle.s3_machine.proofs.OriginLemmas.{picked_stands, only_stored_stands}
use Rattle.s3_machine.proofs.StateLemmas.{Numbers}

-- what is listed is current
abbrev pub ListedIsCurrent : Type 0
ListedIsCurrent =
    (c : Catalogue (List ℕ)) (name key : List ℕ) (facts : Facts)
    → Contains (objects_asked all_keys (key_rows c name)) (Item key facts) ↔ (facts_read (pick None (versions_of c name key)) ≡ Ok facts)

pub listed_is_current : ListedAreRead (List ℕ) → ListedIsCurrent
listed_is_current law c name key facts =
    let both = law all_keys c name key facts (record { delimiter = refl; start_after = refl; token = refl }) in
    (λ stands. (both.0 stands).0, λ is. both.1 (is, refl))

-- what is known of what a read of these versions is given
abbrev pub facts_picked : List (Version (List ℕ)) → Option Facts
facts_picked vs = result_ok (facts_read (pick None vs))

abbrev pub facts_given : Stepped → Option Facts
facts_given st = option_map facts_found (given_whole st.1)

pub picked_facts : (s : State) (name : List ℕ) (overrides : List MetadataEntry) (read : Result (Version (List ℕ) × Data (List ℕ)) Refusal)
    → option_map facts_found (given_whole (picked s name plain overrides read)) ≡ result_ok (facts_read read)
picked_facts s name overrides (Ok read) =
    ap (option_map facts_found) (whole_given (found_in (versioning_of s name) read) overrides (facts_of read))
picked_facts s name overrides (Err refusal) = refl

-- nothing is under a key of a bucket that isn't there
pub none_there : (found : Option (Bucket (List ℕ))) (key : List ℕ) → is_some found ≡ false → versions_in found key ≡ []
none_there None key is = refl
none_there (Some b) key is = absurd (cc)

pub in_bucket : (s : State) (name key : List ℕ) (there : Bool) (next : Result Stepped Refusal) → has_bucket s name ≡ there
    → facts_given (stepped s next) ≡ facts_picked (versions_of s name key)
    → facts_given (stepped s (refuse (not there) NoSuchBucket >> next)) ≡ facts_picked (versions_of s name key)
in_bucket s name key true next is goes = goes
in_bucket s name key false next is goes = sym (ap facts_picked (none_there (map.get s name) key is))

read_facts : (rules : Rules) (s : State) (n t : ℕ) (name key : List ℕ)
    → facts_given (step rules s n t (reading name key None plain [])) ≡ facts_picked (versions_of s name key)
unfolding done key_done
read_facts rules s n t name key =
    let read = pick None (versions_of s name key) in
    in_bucket s name key (has_bucket s name) (key_done s n t name key (key_commands.Read (record { version = None; conditions = plain; overrides = [] }))) refl
    (ap (λ o. option_map facts_found (given_whole o)) (got s name plain [] read) ∙ picked_facts s name [] read)

pub ok_facts : (read : Result Facts Refusal) (facts : Facts) → result_ok read ≡ Some facts → read ≡ Ok facts
ok_facts (Ok other) facts is = let same : other ≡ facts = cc in ap (λ (f : Facts). Ok f) same
ok_facts (Err refusal) facts is = absurd (cc)

pub lists_show_what_reads_give : ListedIsCurrent → ListsShowWhatReadsGive
lists_show_what_reads_give law rules s n t a facts =
    let is = read_facts rules s n t a.bucket a.key in
    let listed = law s a.bucket a.key facts in (
      λ stands. is ∙ ap result_ok (listed.0 stands),
      λ gives. listed.1 (ok_facts (facts_read (pick None (versions_of s a.bucket a.key))) facts (sym is ∙ gives)),
    )

-- ---- histories

-- what is read has these facts
facts_known : (read : Result (Version (List ℕ) × Data (List ℕ)) Refusal) (facts : Facts) → facts_read read ≡ Ok facts
    → (picks : Version (List ℕ) × Data (List ℕ)) × (read ≡ Ok picks) × (facts_of picks ≡ facts)
facts_known (Ok picks) facts is = (picks, refl, cc)
facts_known (Err refusal) facts is = absurd (cc)

module _ (law : ListedIsCurrent) (places : ChangesAreByPlace (List ℕ)) (follow : FollowRules) where
  pub stored_is_listed : PutsAreCurrent (List ℕ) → EveryHistory StoredIsListed
  stored_is_listed current rules s n entries legal before between write object parts stores leaves =
      let here = after rules s before in
      let a = object.address in
      let joined = Legal-append rules s n before (write ∷ between) (subst (Legal rules s n) parts legal) in
      let added = entry_stores places follow rules here _ write object joined.1.0 stores in
      let versions = key_left places follow rules (after_entry rules here write) _ between a joined.1.1 leaves ∙ added.versions in
      let now = current added.versioning write.answer.number object.moment object.stored (versions_at here a) in
      let is : after rules s entries ≡ after rules (after_entry rules here write) between =
      ap (after rules s) parts ∙ after-append rules s before (write ∷ between) in
      subst (λ (t : State). IsListed t a (facts_stored object)) (sym is)
      ((law (after rules (after_entry rules here write) between) a.bucket a.key (facts_stored object)).1
      (ap (λ (vs : List (Version (List ℕ))). facts_read (pick None vs)) versions ∙ ap facts_read now.1))

  pub listed_is_stored : Numbers → IdsAreTold (List ℕ) → EverySoundHistory ListedIsStored
  listed_is_stored numbers ids rules s n entries sound legal a facts stands =
      let there = after rules s entries in
      let read = facts_known (pick None (versions_at there a)) facts ((law there a.bucket a.key facts).0 stands) in
      let picks = picked_stands ids there a None read.0 read.1 in
      let object : Object = record { address = a; id = id_of read.0.0; moment = read.0.0.moment; stored = read.0.1 } in
      ⊎_elim (λ (was : WasStored rules s entries object). inl (record { object = object; at = refl; known = read.2; stored = was }))
      (λ (was : Stayed s entries object). inr (record { object = object; at = refl; known = read.2; stayed = was }))
      (only_stored_stands places follow numbers rules s n entries sound legal object picks.1)

-- ---- what lists tell

-- a list that isn't refused is told
pub page_told : (s : State) (fault : Bool) (outcome : Outcome) → succeeds (stepped s (refuse fault NoSuchBucket >> Ok (s, outcome))).1 ≡ true
    → (stepped s (refuse fault NoSuchBucket >> Ok (s, outcome))).1 ≡ outcome
page_told s true outcome success = absurd (false≢true success)
page_told s false outcome success = refl

pub objects_step : (rules : Rules) (s : State) (n t : ℕ) (name : List ℕ) (asked : ObjectsAsked)
    → succeeds (step rules s n t (commands.Bucket name (bucket_commands.ListObjects asked))).1 ≡ true
    → (step rules s n t (commands.Bucket name (bucket_commands.ListObjects asked))).1
    ≡ outcomes.Told (documents.objects name asked (objects_told asked (key_rows s name)))
unfolding done bucket_done
objects_step rules s n t name asked success = page_told s (not (has_bucket s name)) _ success

-- an entry of this command has the outcome of its step
pub command_outcome : (rules : Rules) (s : State) (n : ℕ) (entries before later : List Entry) (e : Entry) (command : Command)
    → Legal rules s n entries → entries ≡ before ++ e ∷ later → e.command ≡ command
    → e.answer.outcome ≡ (step rules (after rules s before) e.answer.number e.moment command).1
command_outcome rules s n entries before later e command legal parts is =
    outcome_is rules (after rules s before) _ e (right_at rules s n entries before later e legal parts)
    ∙ ap (λ (c : Command). (step rules (after rules s before) e.answer.number e.moment c).1) is
