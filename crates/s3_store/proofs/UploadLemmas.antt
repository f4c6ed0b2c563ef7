-- What comes of commands on uploads, from what is told of the records.
use Rattle.std.proofs.Common.{◌≡◌, refl, ap, ℕ, Bool, true, false, List, Option, Some, None, Result, Ok, Err}
use Rattle.std.specs.Prelude.{if◌then◌else◌, is_some, is_ok, not, ok_or}
use Rattle.std.specs.List.{list_all, list_any}
use Rattle.s3_terms.specs.Fault.{◌>>◌, ◌>>=◌}
use Rattle.s3_terms.specs.Fault as faults
use Rattle.s3_terms.specs.declared.code.Code.{Code}
use Rattle.s3_terms.specs.declared.code.Code.TheVariants.{EntityTooSmall, InvalidPart, InvalidPartOrder, NoSuchUpload}
use Rattle.s3_bodies.specs.Payload.{tag_of}
use Rattle.s3_versions.specs.declared.picking.Refusal.{Refusal}
use Rattle.s3_versions.specs.declared.version.Data.{Data}
use Rattle.s3_uploads.specs.Completion.{completed, completed_parts, front_of, is_sent, is_small, joined_body, joined_data, numbers_listed, parts_listed}
use Rattle.s3_uploads.specs.Parts.{part_sent, rises}
use Rattle.s3_uploads.specs.declared.listed.ListedPart.{ListedPart}
use Rattle.s3_uploads.specs.declared.part.Part.{Part}
use Rattle.s3_uploads.specs.declared.upload.Upload.{Upload}
use Rattle.s3_records.specs.Changes.{PartPut, UploadDropped, changed}
use Rattle.s3_records.specs.OpenUploads.{upload_at, parts_at, parts_sent, bytes_listed, completed_at}
use Rattle.s3_listings.specs.declared.asked.PartsAsked.{PartsAsked}
use Rattle.s3_listings.specs.Parts.{parts_page}
use Rattle.s3_documents.specs.Document as documents
use Rattle.s3_machine.specs.Effects.{is_refused}
use Rattle.s3_machine.specs.Fault.{refuse, as_refusal}
use Rattle.s3_machine.specs.declared.command.Outcome.TheVariants as outcomes
use Rattle.s3_machine.specs.declared.command.UploadCommand.{UploadCommand}
use Rattle.s3_machine.specs.declared.command.UploadCommand.TheVariants as upload_commands
use Rattle.s3_machine.specs.declared.command.WriteCondition.{WriteCondition}
use Rattle.s3_machine.specs.declared.rules.Rules.{Rules}
use Rattle.s3_machine.specs.Step.{State, Stepped, tag_at, is_barred, barred_code, stepped, upload_done}
use Rattle.s3_store.specs.Steps.{bar_at, upload_step, completion_step, completed_as, completion_code}
use Rattle.s3_store.proofs.StepLemmas.{barred_by}

-- what is asked for, if it is open
abbrev pub opened : Option (Upload (List ℕ)) → Result (Upload (List ℕ)) Refusal
opened found = as_refusal (ok_or found NoSuchUpload)

-- a rule that an open upload meets
met : (s : State) (found : Option (Upload (List ℕ))) (after : Stepped) → is_some found ≡ true → stepped s (opened found >>= (λ _. Ok after)) ≡ after
met s None after is = absurd (cc)
met s (Some u) after is = refl

-- every rule refuses one that isn't open
missed : (s : State) (found : Option (Upload (List ℕ))) (rule : Upload (List ℕ) → Result Stepped Refusal) → is_some found ≡ false
    → stepped s (opened found >>= rule) ≡ (s, outcomes.Refused NoSuchUpload false)
missed s None rule is = refl
missed s (Some u) rule is = absurd (cc)

told_parts : (s : State) (name key : List ℕ) (id : ℕ) (asked : PartsAsked) (found : Option (Upload (List ℕ))) → is_some found ≡ true
    → stepped s (opened found >>= (λ u. Ok (s, outcomes.Told (documents.parts name key id asked (parts_page asked u.parts)))))
    ≡ (s, outcomes.Told (documents.parts name key id asked (parts_page asked (parts_sent found))))
told_parts s name key id asked None is = absurd (cc)
told_parts s name key id asked (Some u) is = refl

module _ (rules : Rules) (s : State) (n t : ℕ) (name key : List ℕ) (id : ℕ) where
  pub upload_lost : (asked : UploadCommand) → is_some (upload_at s name key id) ≡ false
      → upload_step rules s n t name key id asked ≡ (s, outcomes.Refused NoSuchUpload false)
  unfolding upload_done
  upload_lost (upload_commands.PutPart number payload) is = missed s (upload_at s name key id) _ is
  upload_lost other is = missed s (upload_at s name key id) _ is

  pub part_put : (number : ℕ) (payload : List ℕ) → is_some (upload_at s name key id) ≡ true
      → upload_step rules s n t name key id (upload_commands.PutPart number payload)
      ≡ (changed s name (PartPut key id number (part_sent t payload)), outcomes.PartPut (tag_of payload))
  unfolding upload_done
  part_put number payload = met s (upload_at s name key id) _

  pub upload_dropped : is_some (upload_at s name key id) ≡ true
      → upload_step rules s n t name key id upload_commands.Abort ≡ (changed s name (UploadDropped key id), outcomes.UploadDropped)
  unfolding upload_done
  upload_dropped = met s (upload_at s name key id) _

  pub parts_told : (asked : PartsAsked) → is_some (upload_at s name key id) ≡ true
      → upload_step rules s n t name key id (upload_commands.ListParts asked)
      ≡ (s, outcomes.Told (documents.parts name key id asked (parts_page asked (parts_at s name key id))))
  unfolding upload_done
  parts_told asked = told_parts s name key id asked (upload_at s name key id)

  -- ---- completions

  completes_as : (r : Result (Data (List ℕ)) Code)
      → stepped s (as_refusal r >>= (λ stored. Ok (completion_step s n t name key id stored))) ≡ completed_as s n t name key id r
  completes_as (Ok stored) = refl
  completes_as (Err code) = refl

  -- after a condition that holds
  completes_found : (listed : List ListedPart) (barred : Bool) (code : Code) (found : Option (Upload (List ℕ))) → (if barred then Some code else None) ≡ None
      → stepped s (opened found >>= (λ u. refuse barred code
      >> (as_refusal (completed rules.least_part listed u) >>= (λ stored. Ok (completion_step s n t name key id stored)))))
      ≡ completed_as s n t name key id (completed_at rules.least_part listed found)
  completes_found listed true code found free = absurd (cc)
  completes_found listed false code None free = refl
  completes_found listed false code (Some u) free = completes_as (completed rules.least_part listed u)

  pub completes : (listed : List ListedPart) (condition : WriteCondition) → bar_at s name key condition ≡ None
      → upload_step rules s n t name key id (upload_commands.Complete listed condition)
      ≡ completed_as s n t name key id (completed_at rules.least_part listed (upload_at s name key id))
  unfolding upload_done
  completes listed condition =
      completes_found listed (is_barred condition (tag_at s name key)) (barred_code (tag_at s name key)) (upload_at s name key id)

  -- and after one that fails
  barred_found : (barred : Bool) (code told : Code) (found : Option (Upload (List ℕ))) (rule : Upload (List ℕ) → Result Stepped Refusal)
      → (if barred then Some code else None) ≡ Some told
      → stepped s (opened found >>= (λ u. refuse barred code >> rule u)) ≡ (s, outcomes.Refused (completion_code told found) false)
  barred_found barred code told None rule is = refl
  barred_found barred code told (Some u) rule is = barred_by s barred code told (rule u) is

  pub completion_barred : (listed : List ListedPart) (condition : WriteCondition) (code : Code) → bar_at s name key condition ≡ Some code
      → upload_step rules s n t name key id (upload_commands.Complete listed condition)
      ≡ (s, outcomes.Refused (completion_code code (upload_at s name key id)) false)
  unfolding upload_done
  completion_barred listed condition code =
      barred_found (is_barred condition (tag_at s name key)) (barred_code (tag_at s name key)) code (upload_at s name key id) _

  pub completion_accepted : (r : Result (Data (List ℕ)) Code) → is_ok r ≡ true → is_refused (completed_as s n t name key id r).1 ≡ false
  completion_accepted (Ok stored) is = refl
  completion_accepted (Err code) is = absurd (cc)

-- ---- what a completion stores

-- behind the three faults that its list may have
joined_behind : (order sent small : Bool) (u : Upload (List ℕ)) (parts : List (Part (List ℕ))) (stored : Data (List ℕ))
    → ((faults.refuse order InvalidPartOrder >> (faults.refuse sent InvalidPart >> (faults.refuse small EntityTooSmall >> Ok parts)))
    >>= (λ parts. Ok (joined_data u parts))) ≡ Ok stored
    → joined_body parts ≡ stored.body
joined_behind true sent small u parts stored is = absurd (cc)
joined_behind false true small u parts stored is = absurd (cc)
joined_behind false false true u parts stored is = absurd (cc)
joined_behind false false false u parts stored is = cc

joined_is : (least : ℕ) (listed : List ListedPart) (u : Upload (List ℕ)) (stored : Data (List ℕ)) → completed least listed u ≡ Ok stored
    → joined_body (parts_listed listed u.parts) ≡ stored.body
unfolding completed completed_parts
joined_is least listed u stored is =
    joined_behind (not (rises (numbers_listed listed))) (not (list_all (is_sent u.parts) listed)) (list_any (is_small least u.parts) (front_of listed))
    u (parts_listed listed u.parts) stored is

-- the bytes that it stores are those of the parts that it lists
pub bytes_joined : (least : ℕ) (listed : List ListedPart) (found : Option (Upload (List ℕ))) (stored : Data (List ℕ))
    → completed_at least listed found ≡ Ok stored → bytes_listed listed found ≡ Some stored.body
bytes_joined least listed None stored is = absurd (cc)
bytes_joined least listed (Some u) stored is = ap Some (joined_is least listed u stored is)

-- how it is refused, by whether its upload is open
pub open_code : (code : Code) (found : Option (Upload (List ℕ))) → is_some found ≡ true → completion_code code found ≡ code
open_code code None is = absurd (cc)
open_code code (Some u) is = refl

pub closed_code : (code : Code) (found : Option (Upload (List ℕ))) → is_some found ≡ false → completion_code code found ≡ NoSuchUpload
closed_code code None is = refl
closed_code code (Some u) is = absurd (cc)

pub ruleset barred_codes = (open_code, closed_code)

pub ruleset upload_steps = (upload_lost, part_put, upload_dropped, parts_told)

pub ruleset completion_steps = (completes, completion_barred)

pub ruleset joined_parts = (completion_accepted, bytes_joined)
