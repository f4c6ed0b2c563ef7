-- What comes of commands, from what the calls ensure that carry them out.
use Rattle.std.proofs.Common.{◌≡◌, ap, ◌∙◌, sym, subst, ℕ, Bool, true, false, List, Option, Some, None, Result, Ok, Err, IfOk, OnErr}
use Rattle.std.specs.Prelude.{is_ok, is_some}
use Rattle.s3_terms.specs.declared.code.Code.{Code}
use Rattle.s3_terms.specs.declared.code.Code.TheVariants.{BucketAlreadyOwnedByYou, NoSuchUpload}
use Rattle.s3_terms.specs.Fault.{◌>>◌}
use Rattle.s3_bodies.specs.Payload.{tag_of}
use Rattle.s3_conditions.specs.declared.conditions.Selection.{Selection}
use Rattle.s3_versions.specs.declared.picking.Facts.{Facts}
use Rattle.s3_versions.specs.declared.picking.Refusal.{Refusal}
use Rattle.s3_versions.specs.declared.version.Data.{Data}
use Rattle.s3_versions.specs.declared.version.Versioning.{Versioning}
use Rattle.s3_versions.specs.Rules.{facts_read, pick}
use Rattle.s3_uploads.specs.Parts.{part_sent}
use Rattle.s3_uploads.specs.declared.listed.ListedPart.{ListedPart}
use Rattle.s3_records.specs.declared.records.BucketFacts.{BucketFacts}
use Rattle.s3_records.specs.Catalogue.{has_bucket, versions_of, versioning_of, bytes_asked}
use Rattle.s3_records.specs.Changes.{BucketAdded, PartPut, changed}
use Rattle.s3_records.specs.OpenUploads.{completed_at, upload_at}
use Rattle.s3_machine.specs.Effects.{is_refused}
use Rattle.s3_machine.specs.Fault.{refuse}
use Rattle.s3_machine.specs.declared.command.BucketCommand.TheVariants as bucket_commands
use Rattle.s3_machine.specs.declared.command.Found.{Found}
use Rattle.s3_machine.specs.declared.command.KeyCommand.TheVariants as key_commands
use Rattle.s3_machine.specs.declared.command.ObjectCopy.{ObjectCopy}
use Rattle.s3_machine.specs.declared.command.ObjectRead.{ObjectRead}
use Rattle.s3_machine.specs.declared.command.PartCopy.{PartCopy}
use Rattle.s3_machine.specs.declared.command.Outcome.{Outcome}
use Rattle.s3_machine.specs.declared.command.Outcome.TheVariants as outcomes
use Rattle.s3_machine.specs.declared.command.UploadCommand.TheVariants as upload_commands
use Rattle.s3_machine.specs.declared.command.WriteCondition.{WriteCondition}
use Rattle.s3_machine.specs.declared.command.WriteCondition.TheVariants as write_conditions
use Rattle.s3_machine.specs.declared.rules.Rules.{Rules}
use Rattle.s3_machine.specs.Step.{State, Stepped, bucket_done, copied, stepped}
use Rattle.s3_store.specs.Steps.{bucket_step, key_step, upload_step, copy_step, copied_as, part_source, part_step, part_step_as, source_in, bar_at, completed_as, completion_code, read_as_found, selected_by, got_of, MayEnter}
use Rattle.s3_store.proofs.StepLemmas.{read_shown, read_refused, read_accepted, match_deleted, copies, copy_accepted}
use Rattle.s3_store.proofs.CopyLemmas.{copied_bytes}
use Rattle.s3_store.proofs.SourceLemmas.{part_copies, part_copy_accepted, found_open}
use Rattle.s3_store.proofs.UploadLemmas.{upload_lost, part_put, completes, completion_barred}

pub on_err : {T E P : Type 0} (r : Result T E) → P → OnErr r P
on_err (Ok x) p = tt
on_err (Err e) p = p

-- a call that takes the step b takes the step a, where they are one
pub then_steps : {E : Type 0} (r : Result Outcome E) (a b : Stepped) (after : State) → a ≡ b → IfOk r (λ o. b ≡ (after, o)) → IfOk r (λ o. a ≡ (after, o))
then_steps (Ok o) a b after is steps = is ∙ steps
then_steps (Err e) a b after is steps = tt

-- and one that is refused only where b is, is refused only where a is
pub then_accepted : {T E : Type 0} (P : Type 0) (r : Result T E) (a b : Stepped) → a ≡ b → OnErr r (P → is_refused b.1 ≡ false) → OnErr r (P → is_refused a.1 ≡ false)
then_accepted P (Ok x) a b is accepts = tt
then_accepted P (Err e) a b is accepts = λ p. ap (λ (st : Stepped). is_refused st.1) is ∙ accepts p

-- a look leaves the state as it was
pub may_enter : (s now : State) (n : ℕ) (name : List ℕ) (v : Versioning) → now ≡ s → MayEnter s n name v → MayEnter now n name v
may_enter s now n name v same may = subst (λ s. MayEnter s n name v) (sym same) may

-- ---- reads

module _ (s now : State) (name key : List ℕ) (asked : ObjectRead) (facts : Result Facts Refusal) (chosen : Result Selection Outcome) where
  -- what is told of the version, and what is chosen of it
  pub record IsChosen : Type 0 where
    pub told : facts ≡ facts_read (pick asked.version (versions_of s name key))
    pub is : chosen ≡ selected_by asked.conditions facts
    pub same : now ≡ s

  chosen_as : IsChosen → (r : Result Selection Outcome) → chosen ≡ r → selected_by asked.conditions (facts_read (pick asked.version (versions_of s name key))) ≡ r
  chosen_as h r is = ap (selected_by asked.conditions) (sym h.told) ∙ sym h.is ∙ is

  pub read_told : IsChosen → (after : State) (v : Versioning) (selection : Selection) (read : Result (Found (List ℕ)) Refusal) (outcome : Outcome)
      → chosen ≡ Ok selection → v ≡ versioning_of s name → read ≡ read_as_found v (pick asked.version (versions_of now name key)) → after ≡ now → outcome ≡ got_of selection asked.overrides read
      → (n t : ℕ) → key_step s n t name key (key_commands.Read asked) ≡ (after, outcome)
  read_told h after v selection read outcome is of reads same got n t = let step = read_shown s n t name key asked selection (chosen_as h (Ok selection) is) in cc

  pub read_fails : IsChosen → (outcome : Outcome) → chosen ≡ Err outcome
      → (n t : ℕ) → key_step s n t name key (key_commands.Read asked) ≡ (now, outcome)
  read_fails h outcome is n t = let step = read_refused s n t name key asked outcome (chosen_as h (Err outcome) is) in cc

  pub read_unrefused : IsChosen → (selection : Selection) → chosen ≡ Ok selection → (n t : ℕ) → is_refused (key_step s n t name key (key_commands.Read asked)).1 ≡ false
  read_unrefused h selection is n t = read_accepted s n t name key asked selection (chosen_as h (Ok selection) is)

-- ---- copies

-- what is copied has the bytes of the version that is asked for
pub copy_has_bytes : (s : State) (asked : ObjectCopy) (now : State) (read : Result (Data (List ℕ)) Refusal) (d : Data (List ℕ)) → read ≡ copied s asked → read ≡ Ok d → now ≡ s
    → bytes_asked now asked.source.bucket asked.source.key asked.source.version ≡ Some d.body
copy_has_bytes s asked now read d reads is same =
    ap (λ (s : State). bytes_asked s asked.source.bucket asked.source.key asked.source.version) same ∙ copied_bytes s asked d (sym reads ∙ is)

module _ (s : State) (n t : ℕ) (name key : List ℕ) (asked : ObjectCopy) where
  pub copy_unrefused : is_ok (copied s asked) ≡ true → is_refused (key_step s n t name key (key_commands.Copy asked)).1 ≡ false
  copy_unrefused is = ap (λ (st : Stepped). is_refused st.1) (copies s n t name key asked) ∙ copy_accepted s n t name key (copied s asked) is

  pub copy_fails : (now : State) (read : Result (Data (List ℕ)) Refusal) (refusal : Refusal) (outcome : Outcome) → read ≡ copied s asked → read ≡ Err refusal → now ≡ s
      → outcome ≡ outcomes.Refused refusal.code refusal.is_delete_marker → key_step s n t name key (key_commands.Copy asked) ≡ (now, outcome)
  copy_fails now read refusal outcome reads is same refused = let step = copies s n t name key asked ∙ ap (copied_as s n t name key) (sym reads ∙ is) in cc

  pub copy_puts : (now : State) (read : Result (Data (List ℕ)) Refusal) (d : Data (List ℕ)) → read ≡ copied s asked → read ≡ Ok d → now ≡ s
      → key_step s n t name key (key_commands.Copy asked) ≡ copy_step now n t name key d
  copy_puts now read d reads is same =
      copies s n t name key asked ∙ ap (copied_as s n t name key) (sym reads ∙ is) ∙ ap (λ s. copy_step s n t name key d) (sym same)

-- ---- parts

module _ (s : State) (t : ℕ) (name key : List ℕ) (id number : ℕ) (payload : List ℕ) where
  pub part_puts : {E : Type 0} (now : State) (r : Result Outcome E) (after : State) → is_some (upload_at s name key id) ≡ true → now ≡ s
      → IfOk r (λ o. after ≡ changed now name (PartPut key id number (part_sent t payload))) → IfOk r (λ o. o ≡ outcomes.PartPut (tag_of payload))
      → IfOk r (λ o. (rules : Rules) (n : ℕ) → upload_step rules s n t name key id (upload_commands.PutPart number payload) ≡ (after, o))
  part_puts now (Ok o) after there same puts tells = λ rules n. let step = part_put rules s n t name key id number payload there in cc
  part_puts now (Err e) after there same puts tells = tt

  pub part_unrefused : is_some (upload_at s name key id) ≡ true → (rules : Rules) (n : ℕ) → is_refused (upload_step rules s n t name key id (upload_commands.PutPart number payload)).1 ≡ false
  part_unrefused there rules n = ap (λ (st : Stepped). is_refused st.1) (part_put rules s n t name key id number payload there)

  pub part_fails : (now : State) (outcome : Outcome) → is_some (upload_at s name key id) ≡ false → now ≡ s → outcome ≡ outcomes.Refused NoSuchUpload false
      → (rules : Rules) (n : ℕ) → upload_step rules s n t name key id (upload_commands.PutPart number payload) ≡ (now, outcome)
  part_fails now outcome lost same refused rules n = let step = upload_lost rules s n t name key id (upload_commands.PutPart number payload) lost in cc

-- ---- parts that are copied

module _ (s : State) (t : ℕ) (name key : List ℕ) (id number : ℕ) (copy : PartCopy) where
  -- what is found for the part
  abbrev IsFoundAs : Result (Found (List ℕ)) Refusal → Type 0
  IsFoundAs read = read ≡ part_source (upload_at s name key id) (source_in s copy.source copy.range)

  part_copied_as : (read r : Result (Found (List ℕ)) Refusal) → IsFoundAs read → read ≡ r → (rules : Rules) (n : ℕ)
      → upload_step rules s n t name key id (upload_commands.CopyPart number copy) ≡ part_step_as s t name key id number copy.range r
  part_copied_as read r reads is rules n =
      part_copies rules s n t name key id number copy ∙ ap (part_step_as s t name key id number copy.range) (sym reads ∙ is)

  pub part_copy_unrefused : is_ok (part_source (upload_at s name key id) (source_in s copy.source copy.range)) ≡ true → (rules : Rules) (n : ℕ)
      → is_refused (upload_step rules s n t name key id (upload_commands.CopyPart number copy)).1 ≡ false
  part_copy_unrefused is rules n =
      ap (λ (st : Stepped). is_refused st.1) (part_copies rules s n t name key id number copy)
      ∙ part_copy_accepted s t name key id number copy.range (part_source (upload_at s name key id) (source_in s copy.source copy.range)) is

  pub part_copy_fails : (now : State) (read : Result (Found (List ℕ)) Refusal) (refusal : Refusal) (outcome : Outcome) → IsFoundAs read → read ≡ Err refusal → now ≡ s
      → outcome ≡ outcomes.Refused refusal.code refusal.is_delete_marker
      → (rules : Rules) (n : ℕ) → upload_step rules s n t name key id (upload_commands.CopyPart number copy) ≡ (now, outcome)
  part_copy_fails now read refusal outcome reads is same refused rules n = let step = part_copied_as read (Err refusal) reads is rules n in cc

  pub part_copy_open : (now : State) (read : Result (Found (List ℕ)) Refusal) (f : Found (List ℕ)) → IsFoundAs read → read ≡ Ok f → now ≡ s
      → is_some (upload_at now name key id) ≡ true
  part_copy_open now read f reads is same =
      ap (λ (s : State). is_some (upload_at s name key id)) same
      ∙ found_open (upload_at s name key id) (source_in s copy.source copy.range) (ap is_ok (sym reads ∙ is))

  pub part_copy_puts : {E : Type 0} (now : State) (read : Result (Found (List ℕ)) Refusal) (f : Found (List ℕ)) (r : Result Outcome E) (after : State)
      → IsFoundAs read → read ≡ Ok f → now ≡ s → IfOk r (λ o. part_step now t name key id number copy.range f ≡ (after, o))
      → IfOk r (λ o. (rules : Rules) (n : ℕ) → upload_step rules s n t name key id (upload_commands.CopyPart number copy) ≡ (after, o))
  part_copy_puts now read f (Ok o) after reads is same steps = λ rules n.
      part_copied_as read (Ok f) reads is rules n ∙ ap (λ s. part_step s t name key id number copy.range f) (sym same) ∙ steps
  part_copy_puts now read f (Err e) after reads is same steps = tt

-- ---- deletes with a condition

module _ (s now : State) (n t : ℕ) (name key tags : List ℕ) (same : now ≡ s) where
  pub match_deletes : bar_at s name key (write_conditions.IfMatch tags) ≡ None
      → key_step s n t name key (key_commands.DeleteMatching tags) ≡ key_step now n t name key (key_commands.Delete None)
  match_deletes free =
      match_deleted s n t name key tags free ∙ ap (λ (s : State). key_step s n t name key (key_commands.Delete None)) (sym same)

-- ---- completions

module _ (rules : Rules) (s now : State) (n t : ℕ) (name key : List ℕ) (id : ℕ) (listed : List ListedPart) (condition : WriteCondition) (same : now ≡ s) where
  pub joins : bar_at s name key condition ≡ None
      → upload_step rules s n t name key id (upload_commands.Complete listed condition) ≡ completed_as now n t name key id (completed_at rules.least_part listed (upload_at now name key id))
  joins free =
      completes rules s n t name key id listed condition free
      ∙ ap (λ (s : State). completed_as s n t name key id (completed_at rules.least_part listed (upload_at s name key id))) (sym same)

  pub completion_fails : {E : Type 0} (r : Result Outcome E) (after : State) (code : Code) → bar_at s name key condition ≡ Some code → after ≡ now
      → IfOk r (λ o. o ≡ outcomes.Refused (completion_code code (upload_at now name key id)) false)
      → IfOk r (λ o. upload_step rules s n t name key id (upload_commands.Complete listed condition) ≡ (after, o))
  completion_fails (Ok o) after code barred left refused = let step = completion_barred rules s n t name key id listed condition code barred in cc
  completion_fails (Err e) after code barred left refused = tt

-- ---- buckets that are made

module _ (s : State) (t : ℕ) (name : List ℕ) (facts : Option BucketFacts) (there : is_some facts ≡ has_bucket s name) where
  bucket_chosen : (rules : Rules) (b : Bool) → is_some facts ≡ b
      → bucket_step rules s t name bucket_commands.Create
      ≡ stepped s (refuse b BucketAlreadyOwnedByYou >> Ok (changed s name (BucketAdded t), outcomes.BucketMade name))
  unfolding bucket_done
  bucket_chosen rules b is =
      ap (λ (b : Bool). stepped s (refuse b BucketAlreadyOwnedByYou >> Ok (changed s name (BucketAdded t), outcomes.BucketMade name))) (sym there ∙ is)

  pub bucket_made : (now after : State) (kept made : List ℕ) → facts ≡ None → now ≡ s → kept ≡ name → made ≡ name → after ≡ changed now kept (BucketAdded t)
      → (rules : Rules) → bucket_step rules s t name bucket_commands.Create ≡ (after, outcomes.BucketMade made)
  bucket_made now after kept made is same keeps makes adds rules = let step = bucket_chosen rules false (ap is_some is) in cc

  pub bucket_unrefused : facts ≡ None → (rules : Rules) → is_refused (bucket_step rules s t name bucket_commands.Create).1 ≡ false
  bucket_unrefused is rules = ap (λ (st : Stepped). is_refused st.1) (bucket_chosen rules false (ap is_some is))

  pub bucket_stands : (now : State) (f : BucketFacts) (outcome : Outcome) → facts ≡ Some f → now ≡ s → outcome ≡ outcomes.Refused BucketAlreadyOwnedByYou false
      → (rules : Rules) → bucket_step rules s t name bucket_commands.Create ≡ (now, outcome)
  bucket_stands now f outcome is same refused rules = let step = bucket_chosen rules true (ap is_some is) in cc
