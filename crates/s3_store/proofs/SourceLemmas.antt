-- Where copies are from, and what comes of those that store a version or a part.
use Rattle.std.proofs.Common.{◌≡◌, refl, ap, ◌∙◌, sym, ℕ, ◌+◌, ◌-◌, Bool, true, false, not, List, Option, Some, None, Result, Ok, Err, length, take, drop, arith}
use Rattle.std.specs.Prelude.{is_ok, is_some, min}
use Rattle.std.proofs.lemmas.List.{take_min, drop_min, drop-take, length-take}
use Rattle.s3_terms.specs.Fault.{◌>>◌, ◌>>=◌}
use Rattle.s3_terms.specs.declared.code.Code.TheVariants.{InvalidArgument, NoSuchBucket, NoSuchUpload, PreconditionFailed}
use Rattle.s3_conditions.specs.declared.conditions.Conditions.{Conditions}
use Rattle.s3_versions.specs.declared.picking.Refusal.{Refusal}
use Rattle.s3_versions.specs.declared.version.Versioning.{Versioning}
use Rattle.s3_versions.specs.Rules.{pick, facts_of as version_facts, facts_read}
use Rattle.s3_uploads.specs.declared.upload.Upload.{Upload}
use Rattle.s3_records.specs.Catalogue.{has_bucket, versions_of, versioning_of}
use Rattle.s3_records.specs.OpenUploads.{upload_at}
use Rattle.s3_machine.specs.Effects.{is_refused}
use Rattle.s3_machine.specs.Fault.{refuse}
use Rattle.s3_machine.specs.declared.command.CopyRange.{CopyRange}
use Rattle.s3_machine.specs.declared.command.Description.{Description}
use Rattle.s3_machine.specs.declared.command.Found.{Found}
use Rattle.s3_machine.specs.declared.command.ObjectCopy.{ObjectCopy}
use Rattle.s3_machine.specs.declared.command.PartCopy.{PartCopy}
use Rattle.s3_machine.specs.declared.command.Source.{Source}
use Rattle.s3_machine.specs.declared.command.UploadCommand.TheVariants as upload_commands
use Rattle.s3_machine.specs.declared.rules.Rules.{Rules}
use Rattle.s3_machine.specs.Step.{State, copied, described, found_in, lies_in, may_be_copied, read_for_copy, source_found, stepped, upload_done}
use Rattle.s3_store.specs.Steps.{data_found, part_source, part_step, part_step_as, read_as_found, source_in, source_judged, upload_step}
use Rattle.s3_store.proofs.StepLemmas.{Read}
use Rattle.s3_store.proofs.UploadLemmas.{opened}

-- ---- sources

-- a version that is read, as the source of a copy
abbrev source_by : Versioning → Conditions → Option CopyRange → Result Read Refusal → Result (Found (List ℕ)) Refusal
source_by v conditions range read =
    (read_for_copy read >>= (λ r. refuse (not (may_be_copied conditions (version_facts r))) PreconditionFailed >> Ok (found_in v r)))
    >>= (λ found. refuse (not (lies_in range found.stored.size)) InvalidArgument >> Ok found)

-- the range lies in it,
range_kept : (lies : Bool) (f : Found (List ℕ)) → refuse (not lies) InvalidArgument ≡ Ok tt → (refuse (not lies) InvalidArgument >> Ok f) ≡ Ok f
range_kept true f is = refl
range_kept false f is = absurd (cc)

range_missed : (lies : Bool) (f : Found (List ℕ)) (refusal : Refusal) → refuse (not lies) InvalidArgument ≡ Err refusal → (refuse (not lies) InvalidArgument >> Ok f) ≡ Err refusal
range_missed true f refusal is = absurd (cc)
range_missed false f refusal is = cc

-- and it may be copied
kept : (may : Bool) (lies : Found (List ℕ) → Bool) (f : Found (List ℕ))
    → (refuse (not may) PreconditionFailed >> refuse (not (lies f)) InvalidArgument) ≡ Ok tt
    → ((refuse (not may) PreconditionFailed >> Ok f) >>= (λ found. refuse (not (lies found)) InvalidArgument >> Ok found)) ≡ Ok f
kept true lies f is = range_kept (lies f) f is
kept false lies f is = absurd (cc)

missed : (may : Bool) (lies : Found (List ℕ) → Bool) (f : Found (List ℕ)) (refusal : Refusal)
    → (refuse (not may) PreconditionFailed >> refuse (not (lies f)) InvalidArgument) ≡ Err refusal
    → ((refuse (not may) PreconditionFailed >> Ok f) >>= (λ found. refuse (not (lies found)) InvalidArgument >> Ok found)) ≡ Err refusal
missed true lies f refusal is = range_missed (lies f) f refusal is
missed false lies f refusal is = cc

module _ (v : Versioning) (conditions : Conditions) (range : Option CopyRange) where
  source_picked : (read : Result Read Refusal) → source_judged conditions range (facts_read read) ≡ Ok tt
      → source_by v conditions range read ≡ read_as_found v read
  source_picked (Ok read) is = kept (may_be_copied conditions (version_facts read)) (λ found. lies_in range found.stored.size) (found_in v read) is
  source_picked (Err refusal) is = absurd (cc)

  source_is_ok : (read : Result Read Refusal) → source_judged conditions range (facts_read read) ≡ Ok tt
      → is_ok (source_by v conditions range read) ≡ true
  source_is_ok (Ok read) is = ap is_ok (source_picked (Ok read) is)
  source_is_ok (Err refusal) is = absurd (cc)

  source_barred : (read : Result Read Refusal) (refusal : Refusal) → source_judged conditions range (facts_read read) ≡ Err refusal
      → source_by v conditions range read ≡ Err refusal
  source_barred (Ok read) refusal is =
      missed (may_be_copied conditions (version_facts read)) (λ found. lies_in range found.stored.size) (found_in v read) refusal is
  source_barred (Err other) refusal is = cc

module _ (s : State) (source : Source) (range : Option CopyRange) where
  -- in a bucket that is there or not
  source_there : (there : Bool) → has_bucket s source.bucket ≡ there
      → source_in s source range
      ≡ ((refuse (not there) NoSuchBucket >> (read_for_copy (pick source.version (versions_of s source.bucket source.key))
      >>= (λ r. refuse (not (may_be_copied source.conditions (version_facts r))) PreconditionFailed >> Ok (found_in (versioning_of s source.bucket) r))))
      >>= (λ found. refuse (not (lies_in range found.stored.size)) InvalidArgument >> Ok found))
  unfolding source_found
  source_there there is =
      ap (λ (b : Bool). (refuse (not b) NoSuchBucket >> (read_for_copy (pick source.version (versions_of s source.bucket source.key))
      >>= (λ r. refuse (not (may_be_copied source.conditions (version_facts r))) PreconditionFailed >> Ok (found_in (versioning_of s source.bucket) r))))
      >>= (λ found. refuse (not (lies_in range found.stored.size)) InvalidArgument >> Ok found)) is

  pub source_lost : has_bucket s source.bucket ≡ false → source_in s source range ≡ Err (record { code = NoSuchBucket; is_delete_marker = false })
  source_lost none = source_there false none

  pub source_read : has_bucket s source.bucket ≡ true
      → source_judged source.conditions range (facts_read (pick source.version (versions_of s source.bucket source.key))) ≡ Ok tt
      → source_in s source range ≡ read_as_found (versioning_of s source.bucket) (pick source.version (versions_of s source.bucket source.key))
  source_read there is = source_there true there ∙ source_picked _ source.conditions range (pick source.version (versions_of s source.bucket source.key)) is

  pub source_accepted : has_bucket s source.bucket ≡ true
      → source_judged source.conditions range (facts_read (pick source.version (versions_of s source.bucket source.key))) ≡ Ok tt
      → is_ok (source_in s source range) ≡ true
  source_accepted there is =
      ap is_ok (source_there true there) ∙ source_is_ok _ source.conditions range (pick source.version (versions_of s source.bucket source.key)) is

  pub source_refused : (refusal : Refusal) → has_bucket s source.bucket ≡ true
      → source_judged source.conditions range (facts_read (pick source.version (versions_of s source.bucket source.key))) ≡ Err refusal
      → source_in s source range ≡ Err refusal
  source_refused refusal there is =
      source_there true there ∙ source_barred _ source.conditions range (pick source.version (versions_of s source.bucket source.key)) refusal is

pub ruleset source_steps = (source_lost, source_read, source_accepted, source_refused)

-- ---- copies to a key

found_copied : (said : Option Description) (found : Result (Found (List ℕ)) Refusal)
    → (found >>= (λ f. Ok (described said f.stored))) ≡ data_found said (found >>= (λ f. refuse (not (lies_in None f.stored.size)) InvalidArgument >> Ok f))
found_copied said (Ok found) = refl
found_copied said (Err refusal) = refl

found_is_ok : (said : Option Description) (found : Result (Found (List ℕ)) Refusal) → is_ok found ≡ true → is_ok (data_found said found) ≡ true
found_is_ok said (Ok found) is = refl
found_is_ok said (Err refusal) is = absurd (cc)

module _ (s : State) (asked : ObjectCopy) where
  pub source_copied : copied s asked ≡ data_found asked.description (source_in s asked.source None)
  unfolding copied
  source_copied = found_copied asked.description (source_found s asked.source)

  pub copied_is_ok : is_ok (source_in s asked.source None) ≡ true → is_ok (copied s asked) ≡ true
  copied_is_ok is = ap is_ok source_copied ∙ found_is_ok asked.description (source_in s asked.source None) is

-- ---- copies to a part

module _ (s : State) (t : ℕ) (name key : List ℕ) (id number : ℕ) (range : Option CopyRange) where
  range_copied : (lies : Bool) (f : Found (List ℕ))
      → stepped s (refuse (not lies) InvalidArgument >> Ok (part_step s t name key id number range f))
      ≡ part_step_as s t name key id number range (refuse (not lies) InvalidArgument >> Ok f)
  range_copied true f = refl
  range_copied false f = refl

  found_put : (found : Result (Found (List ℕ)) Refusal)
      → stepped s (found >>= (λ f. refuse (not (lies_in range f.stored.size)) InvalidArgument >> Ok (part_step s t name key id number range f)))
      ≡ part_step_as s t name key id number range (found >>= (λ f. refuse (not (lies_in range f.stored.size)) InvalidArgument >> Ok f))
  found_put (Ok f) = range_copied (lies_in range f.stored.size) f
  found_put (Err refusal) = refl

  -- to an upload that is open, or not
  upload_put : (upload : Option (Upload (List ℕ))) (found : Result (Found (List ℕ)) Refusal)
      → stepped s (opened upload >>= (λ _. found >>= (λ f. refuse (not (lies_in range f.stored.size)) InvalidArgument >> Ok (part_step s t name key id number range f))))
      ≡ part_step_as s t name key id number range
      (part_source upload (found >>= (λ f. refuse (not (lies_in range f.stored.size)) InvalidArgument >> Ok f)))
  upload_put None found = refl
  upload_put (Some u) found = found_put found

  pub part_copy_accepted : (r : Result (Found (List ℕ)) Refusal) → is_ok r ≡ true → is_refused (part_step_as s t name key id number range r).1 ≡ false
  part_copy_accepted (Ok found) is = refl
  part_copy_accepted (Err refusal) is = absurd (cc)

module _ (rules : Rules) (s : State) (n t : ℕ) (name key : List ℕ) (id number : ℕ) (copy : PartCopy) where
  pub part_copies : upload_step rules s n t name key id (upload_commands.CopyPart number copy)
      ≡ part_step_as s t name key id number copy.range (part_source (upload_at s name key id) (source_in s copy.source copy.range))
  unfolding upload_done
  part_copies = upload_put s t name key id number copy.range (upload_at s name key id) (source_found s copy.source)

pub upload_open : (upload : Option (Upload (List ℕ))) (found : Result (Found (List ℕ)) Refusal) → is_some upload ≡ true → part_source upload found ≡ found
upload_open None found is = absurd (cc)
upload_open (Some u) found is = refl

pub upload_closed : (upload : Option (Upload (List ℕ))) (found : Result (Found (List ℕ)) Refusal) → is_some upload ≡ false
    → part_source upload found ≡ Err (record { code = NoSuchUpload; is_delete_marker = false })
upload_closed None found is = refl
upload_closed (Some u) found is = absurd (cc)

pub found_open : (upload : Option (Upload (List ℕ))) (found : Result (Found (List ℕ)) Refusal) → is_ok (part_source upload found) ≡ true → is_some upload ≡ true
found_open None found is = absurd (cc)
found_open (Some u) found is = refl

pub ruleset part_sources = (upload_open, upload_closed)

-- ---- the bytes of a range

-- the bytes up to an end, from a place on or from that end
cut_at : (first end : ℕ) (kept body : List ℕ) → take end body ≡ kept → length kept ≡ end
    → take (end - min first end) (drop (min first end) body) ≡ drop first kept
cut_at first end kept body is long =
    sym (drop-take (min first end) (end - min first end) body)
    ∙ ap (λ k. drop (min first end) (take k body)) (omega arith)
    ∙ ap (drop (min first end)) is
    ∙ ap (λ k. drop (min first k) kept) (sym long)
    ∙ drop_min first kept

pub cut_within : (first last : ℕ) (body : List ℕ)
    → take (min (last + 1) (length body) - min first (min (last + 1) (length body))) (drop (min first (min (last + 1) (length body))) body)
    ≡ drop first (take (last + 1) body)
cut_within first last body =
    cut_at first (min (last + 1) (length body)) (take (last + 1) body) body (take_min (last + 1) body) (length-take (last + 1) body)
