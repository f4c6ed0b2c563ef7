-- What comes of commands, from what is told of the records.
use Rattle.std.proofs.Common.{◌≡◌, ◌≢◌, refl, ap, ◌∙◌, ℕ, Bool, true, false, List, Option, Some, None, Result, Ok, Err, option_map, option_and_then}
use Rattle.std.specs.Prelude.{is_ok, if◌then◌else◌}
use Rattle.std.specs.FinMap as map
use Rattle.s3_terms.specs.declared.code.Code.{Code}
use Rattle.s3_names.specs.declared.ids.VersionId.{VersionId}
use Rattle.s3_conditions.specs.declared.conditions.Conditions.{Conditions}
use Rattle.s3_conditions.specs.declared.conditions.Selection.{Selection}
use Rattle.s3_conditions.specs.declared.conditions.Selection.TheVariants.{Whole, Part, Unchanged, Outside}
use Rattle.s3_versions.specs.declared.picking.Refusal.{Refusal}
use Rattle.s3_versions.specs.declared.version.Content.{Content}
use Rattle.s3_versions.specs.declared.version.Content.TheVariants.{DeleteMarker, Stored}
use Rattle.s3_versions.specs.declared.version.Data.{Data}
use Rattle.s3_versions.specs.declared.version.Version.{Version}
use Rattle.s3_versions.specs.declared.version.Versioning.{Versioning}
use Rattle.s3_versions.specs.declared.version.Versioning.TheVariants.{Unversioned}
use Rattle.s3_versions.specs.Metadata.{Entry}
use Rattle.s3_versions.specs.Rules.{stored, stored_in, current, asked_for, id_of, judged, pick, facts_of as version_facts, facts_read, read_as}
use Rattle.s3_records.specs.declared.records.BucketFacts.{BucketFacts}
use Rattle.s3_records.specs.Catalogue.{Bucket, facts_of, facts_in, listed_buckets, versions_of, versioning_in, versioning_of}
use Rattle.s3_documents.specs.Document as documents
use Rattle.s3_machine.specs.Effects.{is_refused}
use Rattle.s3_machine.specs.declared.command.BucketCommand.{BucketCommand}
use Rattle.s3_machine.specs.declared.command.Command.TheVariants as commands
use Rattle.s3_machine.specs.declared.command.Found.{Found}
use Rattle.s3_machine.specs.declared.command.KeyCommand.TheVariants as key_commands
use Rattle.s3_machine.specs.declared.command.ObjectCopy.{ObjectCopy}
use Rattle.s3_machine.specs.declared.command.ObjectPut.{ObjectPut}
use Rattle.s3_machine.specs.declared.command.ObjectRead.{ObjectRead}
use Rattle.s3_machine.specs.declared.command.Outcome.{Outcome}
use Rattle.s3_machine.specs.declared.command.Outcome.TheVariants as outcomes
use Rattle.s3_machine.specs.declared.command.WriteCondition.TheVariants as write_conditions
use Rattle.s3_machine.specs.declared.rules.Rules.{Rules}
use Rattle.s3_terms.specs.Fault.{◌>>◌, ◌>>=◌}
use Rattle.s3_machine.specs.Fault.{refuse}
use Rattle.s3_machine.specs.Step.{State, step, tag_at, is_barred, barred_code, data_of, copied, key_done, done, Stepped, stepped, found_in, outcome_shown, shown_by, shown_in}
use Rattle.s3_store.specs.Steps.{bucket_step, key_step, bar_at, tag_told, put_step, copy_step, copied_as, read_as_found, selected_of, selected_by, got_of, tags_of}

-- a bucket that is there tells its versioning
abbrev told_versioning : Option BucketFacts → Versioning
told_versioning None = Unversioned
told_versioning (Some facts) = facts.versioning

told_in : {B : Type 0} (found : Option (Bucket B)) → told_versioning (option_map facts_of found) ≡ versioning_in found
told_in None = refl
told_in (Some b) = refl

pub versioning_told : (s : State) (name : List ℕ) (facts : BucketFacts) → Some facts ≡ facts_in s name → facts.versioning ≡ versioning_of s name
versioning_told s name facts is = ap told_versioning is ∙ told_in (map.get s name)

module _ (rules : Rules) (s : State) (n t : ℕ) where
  pub lists : step rules s n t commands.ListBuckets ≡ (s, outcomes.Told (documents.buckets (listed_buckets s)))
  unfolding done
  lists = refl

  pub on_bucket : (name : List ℕ) (asked : BucketCommand) → step rules s n t (commands.Bucket name asked) ≡ bucket_step rules s t name asked
  unfolding done
  on_bucket name asked = refl

-- a version with its bytes, and what it stores
abbrev pub Read : Type 0
Read = Version (List ℕ) × Data (List ℕ)

-- what a rule answers that shows what conditions select of a version, and says this of it
abbrev showing : State → Versioning → Conditions → List Entry → Result Read Refusal → Result Stepped Refusal
showing s v conditions said read =
    read >>= (λ r. shown_by conditions (version_facts r) >>= (λ selection. Ok (s, outcome_shown (found_in v r) said selection)))

-- what is shown of its bytes
shows_chosen : (s : State) (v : Versioning) (said : List Entry) (read : Read) (chosen : Result Selection Refusal) (selection : Selection)
    → selected_of (version_facts read) chosen ≡ Ok selection
    → stepped s (chosen >>= (λ c. Ok (s, outcome_shown (found_in v read) said c))) ≡ (s, outcomes.Got (found_in v read) selection said)
shows_chosen s v said read (Ok Whole) selection selects = cc
shows_chosen s v said read (Ok (Part first last)) selection selects = cc
shows_chosen s v said read (Ok Unchanged) selection selects = cc
shows_chosen s v said read (Ok Outside) selection selects = absurd (cc)
shows_chosen s v said read (Err refusal) selection selects = absurd (cc)

-- and what comes of a read that shows none of them
tells_chosen : (s : State) (v : Versioning) (said : List Entry) (read : Read) (chosen : Result Selection Refusal) (outcome : Outcome)
    → selected_of (version_facts read) chosen ≡ Err outcome
    → stepped s (chosen >>= (λ c. Ok (s, outcome_shown (found_in v read) said c))) ≡ (s, outcome)
tells_chosen s v said read (Ok Whole) outcome selects = absurd (cc)
tells_chosen s v said read (Ok (Part first last)) outcome selects = absurd (cc)
tells_chosen s v said read (Ok Unchanged) outcome selects = absurd (cc)
tells_chosen s v said read (Ok Outside) outcome selects = cc
tells_chosen s v said read (Err refusal) outcome selects = cc

shows : (s : State) (v : Versioning) (conditions : Conditions) (said : List Entry) (read : Result Read Refusal) (selection : Selection)
    → selected_by conditions (facts_read read) ≡ Ok selection
    → stepped s (showing s v conditions said read) ≡ (s, got_of selection said (read_as_found v read))
shows s v conditions said (Ok read) selection selects = shows_chosen s v said read (shown_by conditions (version_facts read)) selection selects
shows s v conditions said (Err refusal) selection selects = absurd (cc)

refuses : (s : State) (v : Versioning) (conditions : Conditions) (said : List Entry) (read : Result Read Refusal) (outcome : Outcome)
    → selected_by conditions (facts_read read) ≡ Err outcome
    → stepped s (showing s v conditions said read) ≡ (s, outcome)
refuses s v conditions said (Ok read) outcome selects = tells_chosen s v said read (shown_by conditions (version_facts read)) outcome selects
refuses s v conditions said (Err refusal) outcome selects = cc

accepts : (s : State) (v : Versioning) (conditions : Conditions) (said : List Entry) (read : Result Read Refusal) (selection : Selection)
    → selected_by conditions (facts_read read) ≡ Ok selection → is_refused (stepped s (showing s v conditions said read)).1 ≡ false
accepts s v conditions said (Ok read) selection selects =
    ap (λ (st : Stepped). is_refused st.1) (shows_chosen s v said read (shown_by conditions (version_facts read)) selection selects)
accepts s v conditions said (Err refusal) selection selects = absurd (cc)

module _ (s : State) (n t : ℕ) (name key : List ℕ) (asked : ObjectRead) where
  pub read_shown : (selection : Selection)
      → selected_by asked.conditions (facts_read (pick asked.version (versions_of s name key))) ≡ Ok selection
      → key_step s n t name key (key_commands.Read asked) ≡ (s, got_of selection asked.overrides (read_as_found (versioning_of s name) (pick asked.version (versions_of s name key))))
  unfolding key_done
  read_shown selection = shows s (versioning_of s name) asked.conditions asked.overrides (pick asked.version (versions_of s name key)) selection

  pub read_refused : (outcome : Outcome)
      → selected_by asked.conditions (facts_read (pick asked.version (versions_of s name key))) ≡ Err outcome
      → key_step s n t name key (key_commands.Read asked) ≡ (s, outcome)
  unfolding key_done
  read_refused outcome = refuses s (versioning_of s name) asked.conditions asked.overrides (pick asked.version (versions_of s name key)) outcome

  pub read_accepted : (selection : Selection)
      → selected_by asked.conditions (facts_read (pick asked.version (versions_of s name key))) ≡ Ok selection
      → is_refused (key_step s n t name key (key_commands.Read asked)).1 ≡ false
  unfolding key_done
  read_accepted selection = accepts s (versioning_of s name) asked.conditions asked.overrides (pick asked.version (versions_of s name key)) selection

-- what is told of a version that is read is told of the one found
abbrev pub IsToldOf : Versioning → Option (Version (List ℕ)) → Found (List ℕ) → Type 0
IsToldOf versioning found f = (v : Version (List ℕ)) (d : Data (List ℕ)) → found ≡ Some v → stored v ≡ Some d → f ≡ found_in versioning (v, d)

told_as : (versioning : Versioning) (refusal : Refusal) (v : Version (List ℕ)) (c : Content (List ℕ)) (read : Read) (f : Found (List ℕ))
    → v.content ≡ c → read_as refusal v c ≡ Ok read → IsToldOf versioning (Some v) f → Ok f ≡ read_as_found versioning (read_as refusal v c)
told_as versioning refusal v DeleteMarker read f is reads told = absurd (cc)
told_as versioning refusal v (Stored d) read f is reads told = ap Ok (told v d refl (ap stored_in is))

pub told_of : (versioning : Versioning) (asked : Option VersionId) (found : Option (Version (List ℕ))) (read : Read) (f : Found (List ℕ))
    → judged asked found ≡ Ok read → IsToldOf versioning found f → Ok f ≡ read_as_found versioning (judged asked found)
told_of versioning None None read f reads told = absurd (cc)
told_of versioning None (Some v) read f reads told = told_as versioning _ v v.content read f refl reads told
told_of versioning (Some id) None read f reads told = absurd (cc)
told_of versioning (Some id) (Some v) read f reads told = told_as versioning _ v v.content read f refl reads told

-- what comes of a look at a version whose tags are asked for
tags_looked : (s : State) (v : Versioning) (read : Result Read Refusal)
    → stepped s (read >>= (λ r. Ok (s, outcomes.NoTags (shown_in v (id_of r.0))))) ≡ (s, tags_of (read_as_found v read))
tags_looked s v (Ok read) = refl
tags_looked s v (Err refusal) = refl

tags_in : (v : Versioning) (w : Version (List ℕ)) (c : Content (List ℕ)) (refusal : Refusal) → stored_in c ≢ None
    → is_refused (tags_of (read_as_found v (read_as refusal w c))) ≡ false
tags_in v w DeleteMarker refusal there = absurd (there refl)
tags_in v w (Stored d) refusal there = refl

tags_there : (v : Versioning) (version : Option VersionId) (found : Option (Version (List ℕ))) → option_and_then stored found ≢ None
    → is_refused (tags_of (read_as_found v (judged version found))) ≡ false
tags_there v version None there = absurd (there refl)
tags_there v None (Some w) there = tags_in v w w.content _ there
tags_there v (Some id) (Some w) there = tags_in v w w.content _ there

module _ (s : State) (n t : ℕ) (name key : List ℕ) (version : Option VersionId) where
  pub tags_told : key_step s n t name key (key_commands.ReadTags version)
      ≡ (s, tags_of (read_as_found (versioning_of s name) (pick version (versions_of s name key))))
  unfolding key_done
  tags_told = tags_looked s (versioning_of s name) (pick version (versions_of s name key))

  pub tags_accepted : option_and_then stored (asked_for version (versions_of s name key)) ≢ None
      → is_refused (key_step s n t name key (key_commands.ReadTags version)).1 ≡ false
  tags_accepted there =
      ap (λ (st : Stepped). is_refused st.1) tags_told
      ∙ tags_there (versioning_of s name) version (asked_for version (versions_of s name key)) there

-- ---- writes with a condition

-- what comes after a condition that holds, and after one that fails
freed : (s : State) (barred : Bool) (code : Code) (after : Stepped) → (if barred then Some code else None) ≡ None
    → stepped s (refuse barred code >> Ok after) ≡ after
freed s true code after is = absurd (cc)
freed s false code after is = refl

pub barred_by : (s : State) (barred : Bool) (code told : Code) (next : Result Stepped Refusal) → (if barred then Some code else None) ≡ Some told
    → stepped s (refuse barred code >> next) ≡ (s, outcomes.Refused told false)
barred_by s true code told next is = cc
barred_by s false code told next is = absurd (cc)

module _ (s : State) (n t : ℕ) (name key : List ℕ) (put : ObjectPut) where
  pub put_stored : bar_at s name key put.condition ≡ None → key_step s n t name key (key_commands.Put put) ≡ put_step s n t name key (data_of put)
  unfolding key_done
  put_stored =
      freed s (is_barred put.condition (tag_at s name key)) (barred_code (tag_at s name key)) (put_step s n t name key (data_of put))

  pub put_accepted : bar_at s name key put.condition ≡ None → is_refused (key_step s n t name key (key_commands.Put put)).1 ≡ false
  put_accepted free = ap (λ (st : Stepped). is_refused st.1) (put_stored free)

  pub put_barred : (code : Code) → bar_at s name key put.condition ≡ Some code
      → key_step s n t name key (key_commands.Put put) ≡ (s, outcomes.Refused code false)
  unfolding key_done
  put_barred code = barred_by s (is_barred put.condition (tag_at s name key)) (barred_code (tag_at s name key)) code _

-- a delete whose condition holds is one that names no version
module _ (s : State) (n t : ℕ) (name key tags : List ℕ) where
  pub match_deleted : bar_at s name key (write_conditions.IfMatch tags) ≡ None
      → key_step s n t name key (key_commands.DeleteMatching tags) ≡ key_step s n t name key (key_commands.Delete None)
  unfolding key_done
  match_deleted = freed s (is_barred (write_conditions.IfMatch tags) (tag_at s name key)) (barred_code (tag_at s name key)) _

  pub match_barred : (code : Code) → bar_at s name key (write_conditions.IfMatch tags) ≡ Some code
      → key_step s n t name key (key_commands.DeleteMatching tags) ≡ (s, outcomes.Refused code false)
  unfolding key_done
  match_barred code = barred_by s (is_barred (write_conditions.IfMatch tags) (tag_at s name key)) (barred_code (tag_at s name key)) code _

-- a read of the current version is told the tag of an object, where there is one
content_tag : (v : Version (List ℕ)) (c : Content (List ℕ)) (refusal : Refusal)
    → tag_told (facts_read (read_as refusal v c)) ≡ option_map (λ (what : Data (List ℕ)). what.tag) (stored_in c)
content_tag v DeleteMarker refusal = refl
content_tag v (Stored d) refusal = refl

current_tag : (found : Option (Version (List ℕ)))
    → tag_told (facts_read (judged None found)) ≡ option_map (λ (what : Data (List ℕ)). what.tag) (option_and_then stored found)
current_tag None = refl
current_tag (Some v) = content_tag v v.content _

pub tag_read : (s : State) (name key : List ℕ) → tag_told (facts_read (pick None (versions_of s name key))) ≡ tag_at s name key
tag_read s name key = current_tag (current (versions_of s name key))

pub ruleset put_steps = (put_stored, put_accepted, put_barred)

pub ruleset match_steps = (match_deleted, match_barred)

-- ---- copies

copied_after : (s : State) (n t : ℕ) (name key : List ℕ) (source : Result (Data (List ℕ)) Refusal)
    → stepped s (source >>= (λ stored. Ok (copy_step s n t name key stored))) ≡ copied_as s n t name key source
copied_after s n t name key (Ok stored) = refl
copied_after s n t name key (Err refusal) = refl

pub copies : (s : State) (n t : ℕ) (name key : List ℕ) (asked : ObjectCopy) → key_step s n t name key (key_commands.Copy asked) ≡ copied_as s n t name key (copied s asked)
unfolding key_done
copies s n t name key asked = copied_after s n t name key (copied s asked)

pub copy_accepted : (s : State) (n t : ℕ) (name key : List ℕ) (source : Result (Data (List ℕ)) Refusal) → is_ok source ≡ true → is_refused (copied_as s n t name key source).1 ≡ false
copy_accepted s n t name key (Ok stored) is = refl
copy_accepted s n t name key (Err refusal) is = absurd (cc)

pub ruleset copy_steps = (copies, copy_accepted)

pub ruleset all_steps = (lists, on_bucket)

pub ruleset read_steps = (read_shown, read_refused, read_accepted)

pub ruleset tags_steps = (tags_told, tags_accepted)
