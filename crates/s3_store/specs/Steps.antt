-- One step of a store.
use Rattle.std.specs.Prelude.{◌≡◌, refl, ℕ, ◌+◌, false, not, if◌then◌else◌, IsTrue, List, Option, Some, None, Result, Ok, Err, ⊤}
use Rattle.std.specs.Coded.{Coded, code_by, coded×, coded_ℕ}
use Rattle.s3_terms.specs.declared.code.Code.{Code}
use Rattle.s3_terms.specs.declared.code.Code.TheVariants.{InvalidArgument, NoSuchUpload, PreconditionFailed}
use Rattle.s3_terms.specs.Fault.{◌>>◌, ◌>>=◌}
use Rattle.s3_versions.specs.Codes.{coded_bytes}
use Rattle.s3_conditions.specs.declared.conditions.Conditions.{Conditions}
use Rattle.s3_conditions.specs.declared.conditions.Selection.{Selection}
use Rattle.s3_conditions.specs.declared.conditions.Selection.TheVariants.{Outside}
use Rattle.s3_versions.specs.declared.picking.Facts.{Facts}
use Rattle.s3_versions.specs.declared.picking.Refusal.{Refusal}
use Rattle.s3_versions.specs.declared.version.Data.{Data}
use Rattle.s3_versions.specs.declared.version.Version.{Version}
use Rattle.s3_versions.specs.declared.version.Versioning.{Versioning}
use Rattle.s3_versions.specs.Metadata.{Entry}
use Rattle.s3_versions.specs.Rules.{new_id, VersionPut}
use Rattle.s3_deletions.specs.Deletions.{rows_told}
use Rattle.s3_deletions.specs.declared.named.Deletion.{Deletion}
use Rattle.s3_uploads.specs.Parts.{part_tag}
use Rattle.s3_uploads.specs.declared.upload.Upload.{Upload}
use Rattle.s3_records.specs.Catalogue.{has_bucket, versioning_of}
use Rattle.s3_records.specs.Changes.{KeyChanged, PartPut, UploadCompleted, changed}
use Rattle.s3_records.specs.Codes.{coded_catalogue}
use Rattle.s3_records.specs.Deletions.{all_deleted, markers_of}
use Rattle.s3_records.specs.Places.{AreBelow}
use Rattle.s3_documents.specs.Document as documents
use Rattle.s3_machine.specs.declared.command.BucketCommand.{BucketCommand}
use Rattle.s3_machine.specs.declared.command.Command.{Command}
use Rattle.s3_machine.specs.declared.command.CopyRange.{CopyRange}
use Rattle.s3_machine.specs.declared.command.Description.{Description}
use Rattle.s3_machine.specs.declared.command.Found.{Found}
use Rattle.s3_machine.specs.declared.command.KeyCommand.{KeyCommand}
use Rattle.s3_machine.specs.declared.command.Outcome.{Outcome}
use Rattle.s3_machine.specs.declared.command.Outcome.TheVariants as outcomes
use Rattle.s3_machine.specs.declared.command.Source.{Source}
use Rattle.s3_machine.specs.declared.command.UploadCommand.{UploadCommand}
use Rattle.s3_machine.specs.declared.command.WriteCondition.{WriteCondition}
use Rattle.s3_machine.specs.declared.rules.Rules.{Rules}
use Rattle.s3_machine.specs.Fault.{refuse}
use Rattle.s3_machine.specs.Step.{State, Stepped, tag_at, is_barred, barred_code, step, stepped, bucket_done, key_done, upload_done, described, found_in, lies_in, may_be_copied, part_copied, shown_by, shown_in, source_code, source_found}

-- what a store is seen as: the state, and the number of the next entry
pub record Standing : Type 0 where
  pub state : State
  pub number : ℕ

-- the store opens with nothing answered
abbrev pub opened : State → Standing
opened state = record { state = state; number = 0 }

-- a step of it: the state changes by the machine's rule, and the next entry gets the next number
abbrev pub after_step : Rules → Standing → ℕ → Command → Standing
after_step rules s t command = record { state = (step rules s.state s.number t command).0; number = s.number + 1 }

abbrev pub outcome_of : Rules → Standing → ℕ → Command → Outcome
outcome_of rules s t command = (step rules s.state s.number t command).1

-- the step of a command on a bucket, and of one on a key or on an upload in a bucket that is there
abbrev pub bucket_step : Rules → State → ℕ → List ℕ → BucketCommand → Stepped
bucket_step rules s t name asked = stepped s (bucket_done rules s t name asked)

abbrev pub key_step : State → ℕ → ℕ → List ℕ → List ℕ → KeyCommand → Stepped
key_step s n t name key asked = stepped s (key_done s n t name key asked)

abbrev pub upload_step : Rules → State → ℕ → ℕ → List ℕ → List ℕ → ℕ → UploadCommand → Stepped
upload_step rules s n t name key id asked = stepped s (upload_done rules s n t name key id asked)

-- entry n may change what is under the keys of a bucket: the bucket is there, with this versioning, and the number is above
-- those of all versions
pub record MayEnter (s : State) (n : ℕ) (name : List ℕ) (versioning : Versioning) : Type 0 where
  pub below : AreBelow n s
  pub there : IsTrue (has_bucket s name)
  pub is_of : versioning ≡ versioning_of s name

-- what is told of a version that was read
abbrev pub read_as_found : {B : Type 0} → Versioning → Result (Version B × Data B) Refusal → Result (Found B) Refusal
read_as_found versioning (Ok read) = Ok (found_in versioning read)
read_as_found versioning (Err refusal) = Err refusal

-- what is shown of the bytes of a version of which this is known, or what comes of a read that shows none of them
abbrev pub selected_of : Facts → Result Selection Refusal → Result Selection Outcome
selected_of facts (Ok Outside) = Err (outcomes.OutOfRange facts.size)
selected_of facts (Ok selection) = Ok selection
selected_of facts (Err refusal) = Err (outcomes.Refused refusal.code refusal.is_delete_marker)

-- the same of a version that is read, by conditions and by what is known of it
abbrev pub selected_by : Conditions → Result Facts Refusal → Result Selection Outcome
selected_by conditions (Ok facts) = selected_of facts (shown_by conditions facts)
selected_by conditions (Err refusal) = Err (outcomes.Refused refusal.code refusal.is_delete_marker)

-- what came of a read that is shown this, and of which this is to be said
abbrev pub got_of : Selection → List Entry → Result (Found (List ℕ)) Refusal → Outcome
got_of selection overrides (Ok found) = outcomes.Got found selection overrides
got_of selection overrides (Err refusal) = outcomes.Refused refusal.code refusal.is_delete_marker

-- what came of a look at a version whose tags are asked for
abbrev pub tags_of : Result (Found (List ℕ)) Refusal → Outcome
tags_of (Ok found) = outcomes.NoTags found.shown
tags_of (Err refusal) = outcomes.Refused refusal.code refusal.is_delete_marker

-- the code that keeps a write with this condition from storing, where the object of its key has this tag, or there is none
abbrev pub bar_by : WriteCondition → Option (List ℕ) → Option Code
bar_by condition found = if is_barred condition found then Some (barred_code found) else None

-- the same of a write under a key
abbrev pub bar_at : State → List ℕ → List ℕ → WriteCondition → Option Code
bar_at s name key condition = bar_by condition (tag_at s name key)

-- the tag of a version that is read, if one is
abbrev pub tag_told : Result Facts Refusal → Option (List ℕ)
tag_told (Ok facts) = Some facts.tag
tag_told (Err refusal) = None

-- what a put does whose condition holds
abbrev pub put_step : State → ℕ → ℕ → List ℕ → List ℕ → Data (List ℕ) → Stepped
put_step s n t name key stored = (
  changed s name (KeyChanged key (VersionPut n t stored)),
  outcomes.Put stored.tag (shown_in (versioning_of s name) (new_id (versioning_of s name) n)),
)

-- what a copy does once it is known what its source has
abbrev pub copy_step : State → ℕ → ℕ → List ℕ → List ℕ → Data (List ℕ) → Stepped
copy_step s n t name key stored = (
  changed s name (KeyChanged key (VersionPut n t stored)),
  outcomes.Copied stored.tag t (shown_in (versioning_of s name) (new_id (versioning_of s name) n)),
)

abbrev pub copied_as : State → ℕ → ℕ → List ℕ → List ℕ → Result (Data (List ℕ)) Refusal → Stepped
copied_as s n t name key (Ok stored) = copy_step s n t name key stored
copied_as s n t name key (Err refusal) = (s, outcomes.Refused refusal.code refusal.is_delete_marker)

-- the version that a copy is from, where the range lies in it
abbrev pub source_in : State → Source → Option CopyRange → Result (Found (List ℕ)) Refusal
source_in s source range = do
  found ← source_found s source
  refuse (not (lies_in range found.stored.size)) InvalidArgument
  Ok found

-- what a copy is told of a version that is known so, or why none is read
abbrev pub facts_for_copy : Result Facts Refusal → Result Facts Refusal
facts_for_copy (Ok facts) = Ok facts
facts_for_copy (Err refusal) = Err (record { code = source_code refusal.code; is_delete_marker = false })

-- whether a version may be copied of which this is known, by the conditions and the range
abbrev pub source_judged : Conditions → Option CopyRange → Result Facts Refusal → Result ⊤ Refusal
source_judged conditions range read = do
  facts ← facts_for_copy read
  refuse (not (may_be_copied conditions facts)) PreconditionFailed
  refuse (not (lies_in range facts.size)) InvalidArgument

-- what is copied of a version that was found, and is described so
abbrev pub data_found : Option Description → Result (Found (List ℕ)) Refusal → Result (Data (List ℕ)) Refusal
data_found said (Ok found) = Ok (described said found.stored)
data_found said (Err refusal) = Err refusal

-- what is copied to an upload, if that is open
abbrev pub part_source : Option (Upload (List ℕ)) → Result (Found (List ℕ)) Refusal → Result (Found (List ℕ)) Refusal
part_source None found = Err (record { code = NoSuchUpload; is_delete_marker = false })
part_source (Some u) found = found

-- what the copy of a part does once it is known what its source has
abbrev pub part_step : State → ℕ → List ℕ → List ℕ → ℕ → ℕ → Option CopyRange → Found (List ℕ) → Stepped
part_step s t name key id number range found = (
  changed s name (PartPut key id number (part_copied t range found.stored)),
  outcomes.PartCopied (part_tag (part_copied t range found.stored)) t found.shown,
)

abbrev pub part_step_as : State → ℕ → List ℕ → List ℕ → ℕ → ℕ → Option CopyRange → Result (Found (List ℕ)) Refusal → Stepped
part_step_as s t name key id number range (Ok found) = part_step s t name key id number range found
part_step_as s t name key id number range (Err refusal) = (s, outcomes.Refused refusal.code refusal.is_delete_marker)

-- what a completion does once it is known what it stores
abbrev pub completion_step : State → ℕ → ℕ → List ℕ → List ℕ → ℕ → Data (List ℕ) → Stepped
completion_step s n t name key id stored = (
  changed s name (UploadCompleted key id (VersionPut n t stored)),
  outcomes.Completed
      (documents.completed name key stored.tag) stored.tag (shown_in (versioning_of s name) (new_id (versioning_of s name) n)),
)

abbrev pub completed_as : State → ℕ → ℕ → List ℕ → List ℕ → ℕ → Result (Data (List ℕ)) Code → Stepped
completed_as s n t name key id (Ok stored) = completion_step s n t name key id stored
completed_as s n t name key id (Err code) = (s, outcomes.Refused code false)

-- how a completion is refused that this code keeps from storing: whether its upload is open is judged before its condition
abbrev pub completion_code : Code → Option (Upload (List ℕ)) → Code
completion_code code None = NoSuchUpload
completion_code code (Some u) = code

-- what the deletion of several objects does in a bucket that is there
abbrev pub deletion_step : State → ℕ → ℕ → List ℕ → Deletion → Stepped
deletion_step s n t name deletion = (
  all_deleted s name n t deletion.objects,
  outcomes.Told
      (documents.deletions deletion.is_quiet (rows_told deletion.objects (markers_of s name n t deletion.objects))),
)

-- how std numbers it
abbrev pub coded_standing : Coded Standing
coded_standing =
    code_by (State × ℕ) (coded× (coded_catalogue coded_bytes) coded_ℕ)
    (λ s. (s.state, s.number))
    (λ p. record { state = p.0; number = p.1 })
    (λ _. refl)
