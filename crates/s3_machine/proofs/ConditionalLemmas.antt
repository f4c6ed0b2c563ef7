-- What a write meets that wants no object under its key, or one with some tag, and what stands there between two of the first.
use Rattle.std.proofs.Common.{◌≡◌, ◌≢◌, refl, sym, ap, subst, ◌∙◌, Bool, true, false, not, ℕ, suc, inl, inr, List, [], ◌∷◌, ◌++◌, append_assoc, Contains, Option, Some, None, is_some, Result, Ok, Err, ok_or}
use Rattle.std.proofs.lemmas.Bool.{false≢true}
use Rattle.std.proofs.lemmas.Option.{same_Some}
use Rattle.std.specs.List.{list_all, list_any}
use Rattle.std.specs.Option.{option_map}
use Rattle.std.specs.Prelude.{option_and_then}
use Rattle.s3_terms.specs.declared.code.Code.{Code}
use Rattle.s3_terms.specs.declared.code.Code.TheVariants.{NoSuchBucket, NoSuchKey, NoSuchUpload, PreconditionFailed, InvalidPartOrder, InvalidPart, EntityTooSmall}
use Rattle.s3_terms.specs.Fault as faults
use Rattle.s3_terms.specs.Fault.{◌>>◌, ◌>>=◌}
use Rattle.s3_versions.specs.declared.picking.Refusal.{Refusal}
use Rattle.s3_versions.specs.declared.version.Data.{Data}
use Rattle.s3_versions.specs.declared.version.Version.{Version}
use Rattle.s3_versions.specs.Rules.{stored, current}
use Rattle.s3_versions.specs.Laws.{PutsAreCurrent}
use Rattle.s3_uploads.specs.Completion.{numbers_listed, is_sent, is_small, front_of, parts_listed, completed_parts, joined_data, completed}
use Rattle.s3_uploads.specs.Parts.{PartList, rises}
use Rattle.s3_uploads.specs.declared.listed.ListedPart.{ListedPart}
use Rattle.s3_uploads.specs.declared.part.Part.{Part}
use Rattle.s3_uploads.specs.declared.upload.Upload.{Upload}
use Rattle.s3_records.specs.Catalogue.{has_bucket, versions_of}
use Rattle.s3_records.specs.OpenUploads.{upload_at}
use Rattle.s3_records.specs.Places.{ChangesAreByPlace}
use Rattle.s3_machine.specs.declared.command.Command.{Command}
use Rattle.s3_machine.specs.declared.command.Command.TheVariants as commands
use Rattle.s3_machine.specs.declared.command.KeyCommand.TheVariants as key_commands
use Rattle.s3_machine.specs.declared.command.UploadCommand.TheVariants as upload_commands
use Rattle.s3_machine.specs.declared.command.Outcome.{Outcome}
use Rattle.s3_machine.specs.declared.command.Outcome.TheVariants as outcomes
use Rattle.s3_machine.specs.declared.command.WriteCondition.{WriteCondition}
use Rattle.s3_machine.specs.declared.command.WriteCondition.TheVariants as write_conditions
use Rattle.s3_machine.specs.declared.rules.Rules.{Rules}
use Rattle.s3_machine.specs.Fault.{refuse, as_refusal}
use Rattle.s3_machine.specs.Effects.{Address, place_of, object_of, stored_by, where_absent, wants_absent, where_matching, wants_matching, writes, is_refused, succeeds}
use Rattle.s3_machine.specs.Conditional.{has_object, has_matching, IsTakenAway, AcceptedFindsNone, RefusedFindsOne, StoredKeepsOthersOut, OneIsAccepted, AcceptedFindsMatching, UnmatchedChangesNothing, RefusalsTellWhy}
use Rattle.s3_machine.specs.History.{Entry, IsAnswer, Legal, after, after_entry}
use Rattle.s3_machine.specs.Kept.{EveryHistory}
use Rattle.s3_machine.specs.Laws.{QuietStepsChangeNothing}
use Rattle.s3_machine.specs.Step.{State, Stepped, is_taken, tag_at, is_barred, barred_code, data_of, key_done, upload_done, done, stepped, step}
use Rattle.s3_machine.proofs.ContainsLemmas.{contains_or}
use Rattle.s3_machine.proofs.EffectLemmas.{FollowRules, versions_at, address_or, completing}
use Rattle.s3_machine.proofs.HistoryLemmas.{after-push, parts_of, right_at}
use Rattle.s3_machine.proofs.JoinedLemmas.{command_completed}
use Rattle.s3_machine.proofs.KeptLemmas.{outcome_is, entry_does, entry_stores}

-- who wants no object at an address has the condition, and is of that address
pub wanted : (condition : WriteCondition) (a b : Address) → where_absent condition a ≡ Some b → (condition ≡ write_conditions.IfAbsent) × (a ≡ b)
wanted write_conditions.IfAbsent a b is = (refl, cc)
wanted write_conditions.Unconditional a b is = absurd (cc)
wanted (write_conditions.IfMatch tags) a b is = absurd (cc)

-- what has a tag is there
pub tagged : (found : Option (Data (List ℕ))) → is_some (option_map (λ (what : Data (List ℕ)). what.tag) found) ≡ is_some found
tagged None = refl
tagged (Some what) = refl

-- where the condition holds that was made, no object is there, and where it fails, one is
pub unmet : (condition : WriteCondition) (s : State) (name key : List ℕ) → condition ≡ write_conditions.IfAbsent
    → is_barred condition (tag_at s name key) ≡ is_taken s name key
unmet condition s name key is =
    ap (λ (c : WriteCondition). is_barred c (tag_at s name key)) is ∙ tagged (option_and_then stored (current (versions_of s name key)))

-- ---- what succeeds

-- what succeeds behind a line that may refuse wasn't refused there
past : (s : State) (fault : Bool) (code : Code) (next : Result Stepped Refusal) → succeeds (stepped s (refuse fault code >> next)).1 ≡ true
    → (fault ≡ false) × (succeeds (stepped s next).1 ≡ true)
past s true code next success = absurd (false≢true success)
past s false code next success = (refl, success)

past_open : (s : State) (found : Option (Upload (List ℕ))) (next : Upload (List ℕ) → Result Stepped Refusal)
    → succeeds (stepped s (as_refusal (ok_or found NoSuchUpload) >>= next)).1 ≡ true
    → (u : Upload (List ℕ)) × (succeeds (stepped s (next u)).1 ≡ true)
past_open s None next success = absurd (false≢true success)
past_open s (Some u) next success = (u, success)

-- a write that wants no object finds none where it succeeds
none_found : (rules : Rules) (s : State) (n t : ℕ) (command : Command) (a : Address) → wants_absent command ≡ Some a
    → succeeds (step rules s n t command).1 ≡ true → has_object s a ≡ false
unfolding done key_done upload_done
none_found rules s n t (commands.Key name key (key_commands.Put put)) a wants success =
    let asked = wanted put.condition (record { bucket = name; key = key }) a wants in
    let there = past s (not (has_bucket s name)) NoSuchBucket (key_done s n t name key (key_commands.Put put)) success in
    let free = past s (is_barred put.condition (tag_at s name key)) (barred_code (tag_at s name key)) _ there.1 in
    sym (ap (has_object s) asked.1) ∙ sym (unmet put.condition s name key asked.0) ∙ free.0
none_found rules s n t (commands.Upload name key id (upload_commands.Complete listed condition)) a wants success =
    let asked = wanted condition (record { bucket = name; key = key }) a wants in
    let there = past s (not (has_bucket s name)) NoSuchBucket (upload_done rules s n t name key id (upload_commands.Complete listed condition)) success in
    let found = past_open s (upload_at s name key id) _ there.1 in
    let free = past s (is_barred condition (tag_at s name key)) (barred_code (tag_at s name key)) _ found.1 in
    sym (ap (has_object s) asked.1) ∙ sym (unmet condition s name key asked.0) ∙ free.0
none_found rules s n t _ a wants success = absurd (cc)

pub accepted_finds_none : EveryHistory AcceptedFindsNone
accepted_finds_none rules s n entries legal before later put address parts puts =
    let here = after rules s before in
    none_found rules here put.answer.number put.moment put.command address puts.wants
    (sym (ap succeeds (outcome_is rules here _ put (right_at rules s n entries before later put legal parts))) ∙ puts.accepted)

-- ---- what is refused

-- the outcome is the refusal by this code
abbrev Fails : Code → Bool → Outcome → Type 0
Fails told marker outcome = outcome ≡ outcomes.Refused told marker

-- the code tells of a condition: no rule that is judged beside one has it
record IsOfCondition (told : Code) : Type 0 where
  bucket : NoSuchBucket ≢ told
  upload : NoSuchUpload ≢ told
  order : InvalidPartOrder ≢ told
  part : InvalidPart ≢ told
  size : EntityTooSmall ≢ told

failed_is_of_condition : IsOfCondition PreconditionFailed
failed_is_of_condition =
    record {
      bucket = λ same. cc;
      upload = λ same. cc;
      order = λ same. cc;
      part = λ same. cc;
      size = λ same. cc;
    }

no_key_is_of_condition : IsOfCondition NoSuchKey
no_key_is_of_condition =
    record {
      bucket = λ same. cc;
      upload = λ same. cc;
      order = λ same. cc;
      part = λ same. cc;
      size = λ same. cc;
    }

-- what fails behind a line that refuses for another reason fails there
fails_behind : (s : State) (told : Code) (marker fault : Bool) (code : Code) (next : Result Stepped Refusal) → code ≢ told
    → Fails told marker (stepped s (refuse fault code >> next)).1 → Fails told marker (stepped s next).1
fails_behind s told marker true code next other fails = absurd (other (cc))
fails_behind s told marker false code next other fails = fails

fails_open : (s : State) (told : Code) (marker : Bool) (found : Option (Upload (List ℕ)))
    (next : Upload (List ℕ) → Result Stepped Refusal) → IsOfCondition told
    → Fails told marker (stepped s (as_refusal (ok_or found NoSuchUpload) >>= next)).1
    → (u : Upload (List ℕ)) × Fails told marker (stepped s (next u)).1
fails_open s told marker None next of fails = absurd (of.upload (cc))
fails_open s told marker (Some u) next of fails = (u, fails)

-- what fails fails at its condition, if nothing behind that does, and by the code of that
fails_at : (s : State) (told : Code) (marker fault : Bool) (code : Code) (next : Result Stepped Refusal)
    → Fails told marker (stepped s (refuse fault code >> next)).1 → (Fails told marker (stepped s next).1 → ⊥)
    → (fault ≡ true) × (code ≡ told)
fails_at s told marker true code next fails never = (refl, cc)
fails_at s told marker false code next fails never = absurd (never fails)

-- no rule of uploads is a condition
refused_other : {A : Type 0} (fault : Bool) (code wanted : Code) (next : Result A Code) → code ≢ wanted
    → (faults.refuse fault code >> next) ≡ Err wanted → next ≡ Err wanted
refused_other true code wanted next other is = absurd (other (cc))
refused_other false code wanted next other is = is

parts_unconditional : (told : Code) (least : ℕ) (listed : List ListedPart) (parts : PartList (List ℕ)) → IsOfCondition told
    → completed_parts least listed parts ≢ Err told
unfolding completed_parts
parts_unconditional told least listed parts of is =
    let last : ◌≡◌ {A = Result (List (Part (List ℕ))) Code} (Ok (parts_listed listed parts)) (Err told) =
    refused_other (list_any (is_small least parts) (front_of listed)) EntityTooSmall told _ of.size
    (refused_other (not (list_all (is_sent parts) listed)) InvalidPart told _ of.part
    (refused_other (not (rises (numbers_listed listed))) InvalidPartOrder told _ of.order is)) in
    cc

joined_unconditional : (told : Code) (u : Upload (List ℕ)) (rule : Result (List (Part (List ℕ))) Code) → rule ≢ Err told
    → (rule >>= (λ parts. Ok (joined_data u parts))) ≢ Err told
joined_unconditional told u (Ok parts) other is = cc
joined_unconditional told u (Err code) other is = other (cc)

completed_unconditional : (told : Code) (least : ℕ) (listed : List ListedPart) (u : Upload (List ℕ)) → IsOfCondition told
    → completed least listed u ≢ Err told
unfolding completed
completed_unconditional told least listed u of =
    joined_unconditional told u (completed_parts least listed u.parts) (parts_unconditional told least listed u.parts of)

completing_unconditional : (s : State) (n t : ℕ) (name key : List ℕ) (id : ℕ) (told : Code) (marker : Bool)
    (rule : Result (Data (List ℕ)) Code) → rule ≢ Err told
    → Fails told marker (stepped s (as_refusal rule >>= completing s n t name key id)).1 → ⊥
completing_unconditional s n t name key id told marker (Ok what) other fails = cc
completing_unconditional s n t name key id told marker (Err code) other fails = other (cc)

-- a write that wants no object finds one where it is refused for that
one_found : (rules : Rules) (s : State) (n t : ℕ) (command : Command) (a : Address) (marker : Bool) → wants_absent command ≡ Some a
    → Fails PreconditionFailed marker (step rules s n t command).1 → has_object s a ≡ true
unfolding done key_done upload_done
one_found rules s n t (commands.Key name key (key_commands.Put put)) a marker wants fails =
    let asked = wanted put.condition (record { bucket = name; key = key }) a wants in
    let there = fails_behind s PreconditionFailed marker (not (has_bucket s name)) NoSuchBucket
    (key_done s n t name key (key_commands.Put put)) (λ same. cc) fails in
    let unfree = fails_at s PreconditionFailed marker (is_barred put.condition (tag_at s name key))
    (barred_code (tag_at s name key)) _ there (λ told. cc) in
    sym (ap (has_object s) asked.1) ∙ sym (unmet put.condition s name key asked.0) ∙ unfree.0
one_found rules s n t (commands.Upload name key id (upload_commands.Complete listed condition)) a marker wants fails =
    let asked = wanted condition (record { bucket = name; key = key }) a wants in
    let there = fails_behind s PreconditionFailed marker (not (has_bucket s name)) NoSuchBucket
    (upload_done rules s n t name key id (upload_commands.Complete listed condition)) (λ same. cc) fails in
    let found = fails_open s PreconditionFailed marker (upload_at s name key id) _ failed_is_of_condition there in
    let unfree = fails_at s PreconditionFailed marker (is_barred condition (tag_at s name key))
    (barred_code (tag_at s name key)) _ found.1
    (completing_unconditional s n t name key id PreconditionFailed marker (completed rules.least_part listed found.0)
    (completed_unconditional PreconditionFailed rules.least_part listed found.0 failed_is_of_condition)) in
    sym (ap (has_object s) asked.1) ∙ sym (unmet condition s name key asked.0) ∙ unfree.0
one_found rules s n t _ a marker wants fails = absurd (cc)

pub refused_finds_one : QuietStepsChangeNothing → EveryHistory RefusedFindsOne
refused_finds_one quiet rules s n entries legal before later put address marker parts wants fails =
    let here = after rules s before in
    let outcome = sym (outcome_is rules here _ put (right_at rules s n entries before later put legal parts)) ∙ fails in (
      one_found rules here put.answer.number put.moment put.command address marker wants outcome,
      after-push rules s before put ∙ quiet rules here put.answer.number put.moment put.command (inl (ap is_refused outcome)),
    )

-- ---- what stands between two of them

-- an address has an object where its versions begin with one
object_with : (s : State) (a : Address) (v : Version (List ℕ)) (d : Data (List ℕ)) → current (versions_at s a) ≡ Some v → stored v ≡ Some d
    → has_object s a ≡ true
object_with s a v d is holds =
    ap (λ (found : Option (Version (List ℕ))). is_some (option_and_then stored found)) is ∙ ap is_some holds

-- and the same versions have the same
same_object : (s after : State) (a : Address) → versions_at after a ≡ versions_at s a → has_object after a ≡ has_object s a
same_object s after a same = ap (λ (vs : List (Version (List ℕ))). is_some (option_and_then stored (current vs))) same

module _ (places : ChangesAreByPlace (List ℕ)) (follow : FollowRules) (rules : Rules) where
  -- an entry behind which no object is at an address where one was wrote there
  entry_takes : (s : State) (n : ℕ) (e : Entry) (a : Address) → IsAnswer rules s n e → has_object s a ≡ true
      → has_object (after_entry rules s e) a ≡ false → Contains (writes e.command) a × (succeeds e.answer.outcome ≡ true)
  entry_takes s n e a answer found leaves =
      elim (entry_does places follow rules s n e answer).effect [
        | inl same ↦
            absurd (false≢true (sym leaves ∙ same_object s (after_entry rules s e) a (same.versions a.bucket a.key) ∙ found))
        | inr changes ↦
            elim (contains_or address_or (writes e.command) a) [
              | inl written ↦ (written, ap succeeds (outcome_is rules s n e answer) ∙ changes.accepted)
              | inr never ↦
                  absurd (false≢true (sym leaves ∙ same_object s (after_entry rules s e) a (changes.other_keys a never) ∙ found))
            ]
      ]

  -- where an object is and won't be, the first of some entries takes it away, or one behind it
  taken_first : (s : State) (n : ℕ) (e : Entry) (es : List Entry) (a : Address) (now : Bool) → has_object (after_entry rules s e) a ≡ now
      → IsAnswer rules s n e → has_object s a ≡ true
      → (has_object (after_entry rules s e) a ≡ true → IsTakenAway rules (after_entry rules s e) es a)
      → IsTakenAway rules s (e ∷ es) a
  taken_first s n e es a true now answer found behind =
      let rest = behind now in
      record {
        before = e ∷ rest.before;
        taking = rest.taking;
        later = rest.later;
        parts = ap (λ (xs : List Entry). e ∷ xs) rest.parts;
        takes = rest.takes;
      }
  taken_first s n e es a false now answer found behind =
      let does = entry_takes s n e a answer found now in
      record {
        before = [];
        taking = e;
        later = es;
        parts = refl;
        takes = record { written = does.0; accepted = does.1; found = found; leaves = now };
      }

  taken_away : (s : State) (n : ℕ) (es : List Entry) (a : Address) → Legal rules s n es → has_object s a ≡ true
      → has_object (after rules s es) a ≡ false → IsTakenAway rules s es a
  taken_away s n [] a legal found leaves = absurd (false≢true (sym leaves ∙ found))
  taken_away s n (e ∷ es) a legal found leaves =
      taken_first s n e es a (has_object (after_entry rules s e) a) refl legal.0 found
      (λ now. taken_away (after_entry rules s e) (suc n) es a legal.1 now leaves)

module _ (places : ChangesAreByPlace (List ℕ)) (follow : FollowRules) (puts : PutsAreCurrent (List ℕ)) where
  pub stored_keeps_others_out : EveryHistory StoredKeepsOthersOut
  stored_keeps_others_out rules s n entries legal before between later first second object parts stores absent =
      let at = parts_of rules s n entries before between later first second legal parts in
      let here = after rules s before in
      let there = after_entry rules here first in
      let added = entry_stores places follow rules here at.m first object at.right stores in
      let now = puts added.versioning first.answer.number object.moment object.stored (versions_at here object.address) in
      let found = object_with there object.address _ object.stored (ap current added.versions ∙ now.0) refl in
      let last = after rules there between in
      let leaves = none_found rules last second.answer.number second.moment second.command object.address absent.wants
      (sym (ap succeeds (outcome_is rules last at.j second at.right_last)) ∙ absent.accepted) in
      subst (λ (state : State). IsTakenAway rules state between object.address) (sym (after-push rules s before first))
      (taken_away places follow rules there at.k between object.address at.legal found leaves)

-- a write that wants no object stores one where it succeeds
stores_one : (rules : Rules) (s : State) (n t : ℕ) (command : Command) (a : Address) → wants_absent command ≡ Some a
    → succeeds (step rules s n t command).1 ≡ true → (what : Data (List ℕ)) × (stored_by s n t command ≡ Some (object_of s n t a what))
stores_one rules s n t (commands.Key name key (key_commands.Put put)) a wants success =
    let asked = wanted put.condition (record { bucket = name; key = key }) a wants in
    (data_of put, ap (λ (b : Address). Some (object_of s n t b (data_of put))) asked.1)
stores_one rules s n t (commands.Upload name key id (upload_commands.Complete listed condition)) a wants success =
    let asked = wanted condition (record { bucket = name; key = key }) a wants in
    let done = command_completed rules s n t (commands.Upload name key id (upload_commands.Complete listed condition))
    (place_of name key id) listed refl success in
    (done.what, done.by ∙ ap (λ (b : Address). Some (object_of s n t b done.what)) asked.1)
stores_one rules s n t _ a wants success = absurd (cc)

pub one_is_accepted : EveryHistory StoredKeepsOthersOut → EveryHistory OneIsAccepted
one_is_accepted law rules s n entries legal before between later first second address parts one another =
    let here = after rules s before in
    let right = right_at rules s n entries before (between ++ second ∷ later) first legal
    (parts ∙ append_assoc before (first ∷ between) (second ∷ later)) in
    let stores = stores_one rules here first.answer.number first.moment first.command address one.wants
    (sym (ap succeeds (outcome_is rules here _ first right)) ∙ one.accepted) in
    law rules s n entries legal before between later first second
    (object_of here first.answer.number first.moment address stores.0) parts
    (record { by = stores.1; accepted = one.accepted }) another

-- ---- what has to match

-- who wants an object with some tags at an address has the condition, and is of that address
pub wanted_match : (condition : WriteCondition) (a b : Address) (tags : List ℕ) → where_matching condition a ≡ Some (b, tags)
    → (condition ≡ write_conditions.IfMatch tags) × (a ≡ b)
wanted_match (write_conditions.IfMatch asked) a b tags is =
    let same = same_Some (a, asked) (b, tags) is in
    (ap (λ (p : Address × List ℕ). write_conditions.IfMatch p.1) same, ap (λ (p : Address × List ℕ). p.0) same)
wanted_match write_conditions.Unconditional a b tags is = absurd (cc)
wanted_match write_conditions.IfAbsent a b tags is = absurd (cc)

-- the condition is barred exactly where no object with such a tag is there
unmatched : (condition : WriteCondition) (s : State) (name key : List ℕ) (a : Address) (tags : List ℕ)
    → (condition ≡ write_conditions.IfMatch tags) × (record { bucket = name; key = key } ≡ a)
    → is_barred condition (tag_at s name key) ≡ not (has_matching s a tags)
unmatched condition s name key a tags asked =
    ap (λ (c : WriteCondition). is_barred c (tag_at s name key)) asked.0 ∙ ap (λ (b : Address). not (has_matching s b tags)) asked.1

-- what isn't false is true
unbarred : (met : Bool) → not met ≡ false → met ≡ true
unbarred true is = refl
unbarred false is = absurd (false≢true (sym is))

-- so a write that wants an object with one of these tags finds one where it succeeds
match_found : (rules : Rules) (s : State) (n t : ℕ) (command : Command) (a : Address) (tags : List ℕ) → wants_matching command ≡ Some (a, tags)
    → succeeds (step rules s n t command).1 ≡ true → has_matching s a tags ≡ true
unfolding done key_done upload_done
match_found rules s n t (commands.Key name key (key_commands.Put put)) a tags wants success =
    let asked = wanted_match put.condition (record { bucket = name; key = key }) a tags wants in
    let there = past s (not (has_bucket s name)) NoSuchBucket (key_done s n t name key (key_commands.Put put)) success in
    let met = past s (is_barred put.condition (tag_at s name key)) (barred_code (tag_at s name key)) _ there.1 in
    unbarred (has_matching s a tags) (sym (unmatched put.condition s name key a tags asked) ∙ met.0)
match_found rules s n t (commands.Key name key (key_commands.DeleteMatching listed)) a tags wants success =
    let condition = write_conditions.IfMatch listed in
    let asked = wanted_match condition (record { bucket = name; key = key }) a tags wants in
    let there = past s (not (has_bucket s name)) NoSuchBucket (key_done s n t name key (key_commands.DeleteMatching listed)) success in
    let met = past s (is_barred condition (tag_at s name key)) (barred_code (tag_at s name key)) _ there.1 in
    unbarred (has_matching s a tags) (sym (unmatched condition s name key a tags asked) ∙ met.0)
match_found rules s n t (commands.Upload name key id (upload_commands.Complete listed condition)) a tags wants success =
    let asked = wanted_match condition (record { bucket = name; key = key }) a tags wants in
    let there = past s (not (has_bucket s name)) NoSuchBucket (upload_done rules s n t name key id (upload_commands.Complete listed condition)) success in
    let found = past_open s (upload_at s name key id) _ there.1 in
    let met = past s (is_barred condition (tag_at s name key)) (barred_code (tag_at s name key)) _ found.1 in
    unbarred (has_matching s a tags) (sym (unmatched condition s name key a tags asked) ∙ met.0)
match_found rules s n t _ a tags wants success = absurd (cc)

pub accepted_finds_matching : EveryHistory AcceptedFindsMatching
accepted_finds_matching rules s n entries legal before later put address tags parts wants accepted =
    let here = after rules s before in
    match_found rules here put.answer.number put.moment put.command address tags wants
    (sym (ap succeeds (outcome_is rules here _ put (right_at rules s n entries before later put legal parts))) ∙ accepted)

-- what is refused at a line
refused_at : (s : State) (fault : Bool) (code : Code) (next : Result Stepped Refusal) → fault ≡ true
    → is_refused (stepped s (refuse fault code >> next)).1 ≡ true
refused_at s true code next is = refl
refused_at s false code next is = absurd (false≢true is)

-- and behind one that may refuse
refused_behind : (s : State) (fault : Bool) (code : Code) (next : Result Stepped Refusal) → is_refused (stepped s next).1 ≡ true
    → is_refused (stepped s (refuse fault code >> next)).1 ≡ true
refused_behind s true code next is = refl
refused_behind s false code next is = is

refused_open : (s : State) (found : Option (Upload (List ℕ))) (next : Upload (List ℕ) → Result Stepped Refusal)
    → ((u : Upload (List ℕ)) → is_refused (stepped s (next u)).1 ≡ true)
    → is_refused (stepped s (as_refusal (ok_or found NoSuchUpload) >>= next)).1 ≡ true
refused_open s None next each = refl
refused_open s (Some u) next each = each u

-- a write that wants an object with one of these tags is refused where there is none
match_refused : (rules : Rules) (s : State) (n t : ℕ) (command : Command) (a : Address) (tags : List ℕ) → wants_matching command ≡ Some (a, tags)
    → has_matching s a tags ≡ false → is_refused (step rules s n t command).1 ≡ true
unfolding done key_done upload_done
match_refused rules s n t (commands.Key name key (key_commands.Put put)) a tags wants none =
    let asked = wanted_match put.condition (record { bucket = name; key = key }) a tags wants in
    refused_behind s (not (has_bucket s name)) NoSuchBucket (key_done s n t name key (key_commands.Put put))
    (refused_at s (is_barred put.condition (tag_at s name key)) (barred_code (tag_at s name key)) _
    (unmatched put.condition s name key a tags asked ∙ ap not none))
match_refused rules s n t (commands.Key name key (key_commands.DeleteMatching listed)) a tags wants none =
    let condition = write_conditions.IfMatch listed in
    let asked = wanted_match condition (record { bucket = name; key = key }) a tags wants in
    refused_behind s (not (has_bucket s name)) NoSuchBucket (key_done s n t name key (key_commands.DeleteMatching listed))
    (refused_at s (is_barred condition (tag_at s name key)) (barred_code (tag_at s name key)) _
    (unmatched condition s name key a tags asked ∙ ap not none))
match_refused rules s n t (commands.Upload name key id (upload_commands.Complete listed condition)) a tags wants none =
    let asked = wanted_match condition (record { bucket = name; key = key }) a tags wants in
    refused_behind s (not (has_bucket s name)) NoSuchBucket (upload_done rules s n t name key id (upload_commands.Complete listed condition))
    (refused_open s (upload_at s name key id) _
    (λ u. refused_at s (is_barred condition (tag_at s name key)) (barred_code (tag_at s name key)) _
    (unmatched condition s name key a tags asked ∙ ap not none)))
match_refused rules s n t _ a tags wants none = absurd (cc)

pub unmatched_changes_nothing : QuietStepsChangeNothing → EveryHistory UnmatchedChangesNothing
unmatched_changes_nothing quiet rules s n entries legal before later put address tags parts wants none =
    let here = after rules s before in
    let refused = match_refused rules here put.answer.number put.moment put.command address tags wants none in
    let outcome = outcome_is rules here _ put (right_at rules s n entries before later put legal parts) in (
      ap is_refused outcome ∙ refused,
      after-push rules s before put ∙ quiet rules here put.answer.number put.moment put.command (inl refused),
    )

-- ---- what the code of a refusal tells

-- what isn't true is false
barred : (met : Bool) → not met ≡ true → met ≡ false
barred true is = absurd (false≢true is)
barred false is = refl

-- a write that wants an object with one of these tags finds none where it is refused by a code of conditions, and that code is the
-- one of what it finds
match_missed : (rules : Rules) (s : State) (n t : ℕ) (command : Command) (a : Address) (tags : List ℕ) (told : Code) (marker : Bool)
    → wants_matching command ≡ Some (a, tags) → IsOfCondition told → Fails told marker (step rules s n t command).1
    → (has_matching s a tags ≡ false) × (barred_code (tag_at s a.bucket a.key) ≡ told)
unfolding done key_done upload_done
match_missed rules s n t (commands.Key name key (key_commands.Put put)) a tags told marker wants of fails =
    let asked = wanted_match put.condition (record { bucket = name; key = key }) a tags wants in
    let there = fails_behind s told marker (not (has_bucket s name)) NoSuchBucket
    (key_done s n t name key (key_commands.Put put)) of.bucket fails in
    let unmet = fails_at s told marker (is_barred put.condition (tag_at s name key))
    (barred_code (tag_at s name key)) _ there (λ stored. cc) in (
      barred (has_matching s a tags) (sym (unmatched put.condition s name key a tags asked) ∙ unmet.0),
      sym (ap (λ (b : Address). barred_code (tag_at s b.bucket b.key)) asked.1) ∙ unmet.1,
    )
match_missed rules s n t (commands.Key name key (key_commands.DeleteMatching listed)) a tags told marker wants of fails =
    let condition = write_conditions.IfMatch listed in
    let asked = wanted_match condition (record { bucket = name; key = key }) a tags wants in
    let there = fails_behind s told marker (not (has_bucket s name)) NoSuchBucket
    (key_done s n t name key (key_commands.DeleteMatching listed)) of.bucket fails in
    let unmet = fails_at s told marker (is_barred condition (tag_at s name key))
    (barred_code (tag_at s name key)) _ there (λ deleted. cc) in (
      barred (has_matching s a tags) (sym (unmatched condition s name key a tags asked) ∙ unmet.0),
      sym (ap (λ (b : Address). barred_code (tag_at s b.bucket b.key)) asked.1) ∙ unmet.1,
    )
match_missed rules s n t (commands.Upload name key id (upload_commands.Complete listed condition)) a tags told marker wants of now =
    let asked = wanted_match condition (record { bucket = name; key = key }) a tags wants in
    let there = fails_behind s told marker (not (has_bucket s name)) NoSuchBucket
    (upload_done rules s n t name key id (upload_commands.Complete listed condition)) of.bucket now in
    let found = fails_open s told marker (upload_at s name key id) _ of there in
    let unmet = fails_at s told marker (is_barred condition (tag_at s name key)) (barred_code (tag_at s name key)) _ found.1
    (completing_unconditional s n t name key id told marker (completed rules.least_part listed found.0)
    (completed_unconditional told rules.least_part listed found.0 of)) in (
      barred (has_matching s a tags) (sym (unmatched condition s name key a tags asked) ∙ unmet.0),
      sym (ap (λ (b : Address). barred_code (tag_at s b.bucket b.key)) asked.1) ∙ unmet.1,
    )
match_missed rules s n t _ a tags told marker wants of fails = absurd (cc)

-- which code tells of an object, and which of none
told_of_one : (found : Option (List ℕ)) → barred_code found ≡ PreconditionFailed → is_some found ≡ true
told_of_one (Some tag) is = refl
told_of_one None is = absurd (cc)

told_of_none : (found : Option (List ℕ)) → barred_code found ≡ NoSuchKey → is_some found ≡ false
told_of_none None is = refl
told_of_none (Some tag) is = absurd (cc)

-- a key has an object where it has a tag
tag_is_there : (s : State) (a : Address) → has_object s a ≡ is_some (tag_at s a.bucket a.key)
tag_is_there s a = sym (tagged (option_and_then stored (current (versions_of s a.bucket a.key))))

pub refusals_tell_why : EveryHistory RefusalsTellWhy
refusals_tell_why rules s n entries legal before later put address tags marker parts wants =
    let here = after rules s before in
    let outcome = sym (outcome_is rules here _ put (right_at rules s n entries before later put legal parts)) in
    let missed = λ (told : Code) (of : IsOfCondition told) (fails : put.answer.outcome ≡ outcomes.Refused told marker).
    match_missed rules here put.answer.number put.moment put.command address tags told marker wants of (outcome ∙ fails) in (
      λ fails. (
        tag_is_there here address ∙ told_of_one _ (missed PreconditionFailed failed_is_of_condition fails).1,
        (missed PreconditionFailed failed_is_of_condition fails).0,
      ),
      λ fails. tag_is_there here address ∙ told_of_none _ (missed NoSuchKey no_key_is_of_condition fails).1,
    )
