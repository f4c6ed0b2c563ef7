-- What one step does to an upload.
use Rattle.std.proofs.Common.{◌≡◌, refl, sym, ap, ap₂, ◌∙◌, Bool, true, false, not, ℕ, ◌⊎◌, inl, inr, IsTrue, List, Option, Some, None, option_map, Result, Ok, Err, ok_or}
use Rattle.std.proofs.lemmas.Bool.{not-false}
use Rattle.std.proofs.lemmas.Bool.Decides.{eqb_tells}
use Rattle.std.proofs.lemmas.Option.{same_Some}
use Rattle.std.specs.Result.{result_ok}
use Rattle.s3_text.proofs.MapLemmas.{same_or}
use Rattle.s3_terms.specs.declared.code.Code.{Code}
use Rattle.s3_terms.specs.declared.code.Code.TheVariants.{NoSuchBucket, BucketAlreadyOwnedByYou, BucketNotEmpty, InvalidArgument, NoSuchUpload}
use Rattle.s3_terms.specs.Fault.{◌>>◌, ◌>>=◌}
use Rattle.s3_conditions.specs.declared.conditions.Conditions.{Conditions}
use Rattle.s3_versions.specs.declared.picking.Refusal.{Refusal}
use Rattle.s3_versions.specs.declared.version.Data.{Data}
use Rattle.s3_versions.specs.declared.version.Version.{Version}
use Rattle.s3_versions.specs.Metadata.{Entry as MetadataEntry}
use Rattle.s3_versions.specs.Rules.{pick, facts_of, KeyChange, VersionPut, KeyDeleted, VersionDropped}
use Rattle.s3_uploads.specs.Completion.{completed}
use Rattle.s3_uploads.specs.Parts.{part_sent}
use Rattle.s3_uploads.specs.Uploads.{with_part}
use Rattle.s3_uploads.specs.declared.part.Part.{Part}
use Rattle.s3_uploads.specs.declared.upload.Upload.{Upload}
use Rattle.s3_records.specs.Catalogue.{has_bucket, is_empty_bucket, versions_of, versioning_of}
use Rattle.s3_records.specs.Changes.{Change, BucketAdded, BucketDropped, VersioningSet, KeyChanged, UploadAdded, PartPut, UploadDropped, UploadCompleted, changed}
use Rattle.s3_records.specs.Deletions.{all_deleted}
use Rattle.s3_records.specs.OpenUploads.{upload_at}
use Rattle.s3_records.specs.Places.{OneUploadChanges, ChangesAreByUpload}
use Rattle.s3_machine.specs.declared.command.BucketCommand.{BucketCommand}
use Rattle.s3_machine.specs.declared.command.BucketCommand.TheVariants as bucket_commands
use Rattle.s3_machine.specs.declared.command.Command.{Command}
use Rattle.s3_machine.specs.declared.command.Command.TheVariants as commands
use Rattle.s3_machine.specs.declared.command.KeyCommand.{KeyCommand}
use Rattle.s3_machine.specs.declared.command.KeyCommand.TheVariants as key_commands
use Rattle.s3_machine.specs.declared.command.Description.{Description}
use Rattle.s3_machine.specs.declared.command.Found.{Found}
use Rattle.s3_machine.specs.declared.command.ObjectCopy.{ObjectCopy}
use Rattle.s3_machine.specs.declared.command.PartCopy.{PartCopy}
use Rattle.s3_machine.specs.declared.command.UploadCommand.{UploadCommand}
use Rattle.s3_machine.specs.declared.command.UploadCommand.TheVariants as upload_commands
use Rattle.s3_machine.specs.declared.command.Outcome.{Outcome}
use Rattle.s3_machine.specs.declared.command.WriteCondition.TheVariants as write_conditions
use Rattle.s3_machine.specs.declared.rules.Rules.{Rules}
use Rattle.s3_machine.specs.Fault.{refuse, as_refusal}
use Rattle.s3_machine.specs.Effects.{Address, UploadPlace, PartPlace, place_of, open_at, begins, sends, copied_part, puts_part, ends, succeeds}
use Rattle.s3_machine.specs.Step.{State, Stepped, tag_at, is_barred, barred_code, copied, source_found, lies_in, part_copied, data_of, outcome_shown, shown_by, found_in, upload_begun, open_upload, bucket_done, key_done, upload_done, done, stepped, step}
use Rattle.s3_machine.proofs.DeletionLemmas.{IsIn, uploads_stay}
use Rattle.s3_machine.proofs.EffectLemmas.{after_line, copy_done, part_copying, shown, completing}

-- a step leaves an upload, or the place of one: what the command may be to do there it doesn't do
pub record IsLeft (s : State) (n : ℕ) (command : Command) (st : Stepped) (upload : UploadPlace) : Type 0 where
  pub same : open_at st.0 upload ≡ open_at s upload
  pub unbegun : (asked : Description) → begins command ≡ Some (upload.address, asked) → upload.id ≡ n → succeeds st.1 ≡ false
  pub unsent : (number : ℕ) → sends command ≡ Some (record { upload = upload; number = number }) → succeeds st.1 ≡ false
  pub unended : ends command ≡ Some upload → succeeds st.1 ≡ false

-- it begins it
pub record IsBegun (n t : ℕ) (command : Command) (st : Stepped) (upload : UploadPlace) : Type 0 where
  pub asked : Description
  pub at : begins command ≡ Some (upload.address, asked)
  pub numbered : upload.id ≡ n
  pub accepted : succeeds st.1 ≡ true
  pub now : open_at st.0 upload ≡ Some (upload_begun t asked)

-- it puts a part to it
pub record IsSent (s : State) (t : ℕ) (command : Command) (st : Stepped) (upload : UploadPlace) : Type 0 where
  pub number : ℕ
  pub part : Part (List ℕ)
  pub at : sends command ≡ Some (record { upload = upload; number = number })
  pub puts : puts_part s t command ≡ Some part
  pub accepted : succeeds st.1 ≡ true
  pub found : Upload (List ℕ)
  pub there : open_at s upload ≡ Some found
  pub now : open_at st.0 upload ≡ Some (with_part number part found)

-- or it ends it
pub record IsEnded (command : Command) (st : Stepped) (upload : UploadPlace) : Type 0 where
  pub at : ends command ≡ Some upload
  pub accepted : succeeds st.1 ≡ true
  pub now : open_at st.0 upload ≡ None

pub data Fate (s : State) (n t : ℕ) (command : Command) (st : Stepped) (upload : UploadPlace) : Type 0 where
  Left : IsLeft s n command st upload → Fate s n t command st upload
  Begun : IsBegun n t command st upload → Fate s n t command st upload
  Sent : IsSent s t command st upload → Fate s n t command st upload
  Ended : IsEnded command st upload → Fate s n t command st upload

-- what is refused leaves it
left_refused : (s : State) (n t : ℕ) (command : Command) (outcome : Outcome) (upload : UploadPlace) → succeeds outcome ≡ false
    → Fate s n t command (s, outcome) upload
left_refused s n t command outcome upload refused =
    Left (record { same = refl; unbegun = λ asked at numbered. refused; unsent = λ number at. refused; unended = λ at. refused })

-- so does what is to do nothing to an upload
left_alone : (s after : State) (n t : ℕ) (command : Command) (outcome : Outcome) (upload : UploadPlace) → open_at after upload ≡ open_at s upload
    → begins command ≡ None → sends command ≡ None → ends command ≡ None → Fate s n t command (after, outcome) upload
left_alone s after n t command outcome upload same unbegun unsent unended =
    Left (record {
      same = same;
      unbegun = λ asked at numbered. absurd (cc);
      unsent = λ number at. absurd (cc);
      unended = λ at. absurd (cc);
    })

idle : (s : State) (n t : ℕ) (command : Command) (outcome : Outcome) (upload : UploadPlace)
    → begins command ≡ None → sends command ≡ None → ends command ≡ None → Fate s n t command (s, outcome) upload
idle s n t command outcome upload unbegun unsent unended = left_alone s s n t command outcome upload refl unbegun unsent unended

-- two uploads are the same or not
same_place : (upload : UploadPlace) (name key : List ℕ) (id : ℕ)
    → (upload ≡ place_of name key id) ⊎ ¬ ((upload.address.bucket ≡ name) × ((upload.address.key ≡ key) × (upload.id ≡ id)))
same_place upload name key id =
    elim (same_or upload.address.bucket name) [
      | inl bucket ↦
          elim (same_or upload.address.key key) [
            | inl keys ↦
                elim (eqb_tells upload.id id) [
                  | inl ids ↦
                      let address : List ℕ → List ℕ → Address = λ x y. record { bucket = x; key = y } in
                      let built : Address → ℕ → UploadPlace = λ a i. record { address = a; id = i } in
                      inl (ap₂ built (ap₂ address bucket keys) ids.1)
                  | inr differ ↦ inr (λ all. differ.1 all.1.1)
                ]
            | inr differ ↦ inr (λ all. differ all.1.0)
          ]
      | inr differ ↦ inr (λ all. differ all.0)
    ]

-- the part of a number of an upload
abbrev part_of : ℕ → UploadPlace → Option PartPlace
part_of number upload = Some (record { upload = upload; number = number })

-- what a command sends and what it ends is of its own upload
abbrev SamePlace : UploadPlace → List ℕ → List ℕ → ℕ → Type 0
SamePlace upload name key id = (upload.address.bucket ≡ name) × ((upload.address.key ≡ key) × (upload.id ≡ id))

parts_place : (name key : List ℕ) (id : ℕ) (upload : UploadPlace) → place_of name key id ≡ upload → SamePlace upload name key id
parts_place name key id upload is = (
  sym (ap (λ (u : UploadPlace). u.address.bucket) is),
  (sym (ap (λ (u : UploadPlace). u.address.key) is), sym (ap (λ (u : UploadPlace). u.id) is)),
)

sent_there : (name key : List ℕ) (id : ℕ) (asked : UploadCommand) (upload : UploadPlace) (number : ℕ)
    → sends (commands.Upload name key id asked) ≡ Some (record { upload = upload; number = number }) → SamePlace upload name key id
sent_there name key id (upload_commands.PutPart m payload) upload number at =
    let same : record { upload = place_of name key id; number = m } ≡ record { upload = upload; number = number } = cc in
    parts_place name key id upload (ap (λ (p : PartPlace). p.upload) same)
sent_there name key id (upload_commands.CopyPart m copy) upload number at =
    let same : record { upload = place_of name key id; number = m } ≡ record { upload = upload; number = number } = cc in
    parts_place name key id upload (ap (λ (p : PartPlace). p.upload) same)
sent_there name key id _ upload number at = absurd (cc)

ended_there : (name key : List ℕ) (id : ℕ) (asked : UploadCommand) (upload : UploadPlace)
    → ends (commands.Upload name key id asked) ≡ Some upload → SamePlace upload name key id
ended_there name key id (upload_commands.Complete listed condition) upload at = parts_place name key id upload (cc)
ended_there name key id upload_commands.Abort upload at = parts_place name key id upload (cc)
ended_there name key id _ upload at = absurd (cc)

-- a rule whose first line may refuse
fate_line : (s : State) (n t : ℕ) (command : Command) (upload : UploadPlace) (fault : Bool) (code : Code) (next : Result Stepped Refusal)
    → (fault ≡ false → Fate s n t command (stepped s next) upload)
    → Fate s n t command (stepped s (refuse fault code >> next)) upload
fate_line s n t command upload fault code next goes =
    after_line (λ st. Fate s n t command st upload) s fault code next (left_refused s n t command _ upload refl) goes

module _ (law : ChangesAreByUpload (List ℕ)) where
  bucket_fate : (rules : Rules) (s : State) (n t : ℕ) (name : List ℕ) (asked : BucketCommand) (upload : UploadPlace)
      → Fate s n t (commands.Bucket name asked) (stepped s (bucket_done rules s t name asked)) upload
  unfolding bucket_done
  bucket_fate rules s n t name bucket_commands.Create upload =
      fate_line s n t _ upload (has_bucket s name) BucketAlreadyOwnedByYou _
      (λ none. left_alone s (changed s name (BucketAdded t)) n t _ _ upload
      (law s name (BucketAdded t) (ap not none) upload.address.bucket upload.address.key upload.id) refl refl refl)
  bucket_fate rules s n t name bucket_commands.Delete upload =
      fate_line s n t _ upload (not (has_bucket s name)) NoSuchBucket _
      (λ there. fate_line s n t _ upload (not (is_empty_bucket s name)) BucketNotEmpty _
      (λ empty. left_alone s (changed s name BucketDropped) n t _ _ upload
      (law s name BucketDropped (not-false (is_empty_bucket s name) empty) upload.address.bucket upload.address.key upload.id) refl refl refl))
  bucket_fate rules s n t name (bucket_commands.PutVersioning status) upload =
      fate_line s n t _ upload (not (has_bucket s name)) NoSuchBucket _
      (λ there. left_alone s (changed s name (VersioningSet status)) n t _ _ upload
      (law s name (VersioningSet status) refl upload.address.bucket upload.address.key upload.id) refl refl refl)
  bucket_fate rules s n t name other upload =
      fate_line s n t _ upload (not (has_bucket s name)) NoSuchBucket _ (λ there. idle s n t _ _ upload refl refl refl)

  -- a change of the versions under a key leaves all uploads
  key_changed : (s : State) (n t : ℕ) (name key : List ℕ) (command : Command) (what : KeyChange (List ℕ)) (outcome : Outcome) (upload : UploadPlace)
      → IsTrue (has_bucket s name) → begins command ≡ None → sends command ≡ None → ends command ≡ None
      → Fate s n t command (changed s name (KeyChanged key what), outcome) upload
  key_changed s n t name key command what outcome upload there =
      left_alone s (changed s name (KeyChanged key what)) n t command outcome upload
      (law s name (KeyChanged key what) there upload.address.bucket upload.address.key upload.id)

  copy_fate : (s : State) (n t : ℕ) (name key : List ℕ) (copy : ObjectCopy) (source : Result (Data (List ℕ)) Refusal) (upload : UploadPlace)
      → IsTrue (has_bucket s name)
      → Fate s n t (commands.Key name key (key_commands.Copy copy)) (stepped s (source >>= copy_done s n t name key)) upload
  unfolding copy_done
  copy_fate s n t name key copy (Ok what) upload there = key_changed s n t name key _ (VersionPut n t what) _ upload there refl refl refl
  copy_fate s n t name key copy (Err refusal) upload there = left_refused s n t _ _ upload refl

  shown_fate : {A : Type 0} (s : State) (n t : ℕ) (command : Command) (read : Result A Refusal) (out : A → Outcome) (upload : UploadPlace)
      → begins command ≡ None → sends command ≡ None → ends command ≡ None
      → Fate s n t command (stepped s (read >>= (λ found. Ok (s, out found)))) upload
  shown_fate s n t command (Ok found) out upload = idle s n t command _ upload
  shown_fate s n t command (Err refusal) out upload = idle s n t command _ upload

  read_fate : (s : State) (n t : ℕ) (command : Command) (read : Result (Version (List ℕ) × Data (List ℕ)) Refusal) (name : List ℕ)
      (conditions : Conditions) (overrides : List MetadataEntry) (upload : UploadPlace)
      → begins command ≡ None → sends command ≡ None → ends command ≡ None
      → Fate s n t command (stepped s (read >>= shown s name conditions overrides)) upload
  read_fate s n t command (Ok r) name conditions overrides upload =
      shown_fate s n t command (shown_by conditions (facts_of r)) (outcome_shown (found_in (versioning_of s name) r) overrides) upload
  read_fate s n t command (Err refusal) name conditions overrides upload = idle s n t command _ upload

  -- an upload begins at its place, and every other stays
  begin_fate : (s : State) (n t : ℕ) (name key : List ℕ) (begin : Description) (outcome : Outcome) (upload : UploadPlace)
      → IsTrue (has_bucket s name) → succeeds outcome ≡ true
      → Fate s n t (commands.Key name key (key_commands.Begin begin)) (changed s name (UploadAdded key n (upload_begun t begin)), outcome) upload
  begin_fate s n t name key begin outcome upload there accepted =
      let after = law s name (UploadAdded key n (upload_begun t begin)) there in
      elim (same_place upload name key n) [
        | inl here ↦
            Begun (record {
              asked = begin;
              at = ap (λ (u : UploadPlace). Some (u.address, begin)) (sym here);
              numbered = ap (λ (u : UploadPlace). u.id) here;
              accepted = accepted;
              now = ap (open_at (changed s name (UploadAdded key n (upload_begun t begin)))) here ∙ after.here;
            })
        | inr other ↦
            Left (record {
              same = after.others upload.address.bucket upload.address.key upload.id other;
              unbegun = λ asked at numbered.
                  let both = same_Some ((record { bucket = name; key = key }), begin) (upload.address, asked) at in
                  let same = ap (λ (p : Address × Description). p.0) both in
                  absurd (other (sym (ap (λ (a : Address). a.bucket) same), (sym (ap (λ (a : Address). a.key) same), numbered)));
              unsent = λ number at. absurd (cc);
              unended = λ at. absurd (cc);
            })
      ]

  key_fate : (s : State) (n t : ℕ) (name key : List ℕ) (asked : KeyCommand) (upload : UploadPlace) → IsTrue (has_bucket s name)
      → Fate s n t (commands.Key name key asked) (stepped s (key_done s n t name key asked)) upload
  unfolding key_done copy_done
  key_fate s n t name key (key_commands.Put put) upload there =
      fate_line s n t _ upload (is_barred put.condition (tag_at s name key)) (barred_code (tag_at s name key)) _
      (λ free. key_changed s n t name key _ (VersionPut n t (data_of put)) _ upload there refl refl refl)
  key_fate s n t name key (key_commands.Copy copy) upload there = copy_fate s n t name key copy (copied s copy) upload there
  key_fate s n t name key (key_commands.Read asked) upload there =
      read_fate s n t _ (pick asked.version (versions_of s name key)) name asked.conditions asked.overrides upload refl refl refl
  key_fate s n t name key (key_commands.ReadTags version) upload there =
      shown_fate s n t _ (pick version (versions_of s name key)) _ upload refl refl refl
  key_fate s n t name key (key_commands.Delete None) upload there = key_changed s n t name key _ (KeyDeleted n t) _ upload there refl refl refl
  key_fate s n t name key (key_commands.Delete (Some id)) upload there =
      key_changed s n t name key _ (VersionDropped id) _ upload there refl refl refl
  key_fate s n t name key (key_commands.DeleteMatching tags) upload there =
      fate_line s n t _ upload (is_barred (write_conditions.IfMatch tags) (tag_at s name key)) (barred_code (tag_at s name key)) _
      (λ met. key_changed s n t name key _ (KeyDeleted n t) _ upload there refl refl refl)
  key_fate s n t name key (key_commands.Begin begin) upload there = begin_fate s n t name key begin _ upload there refl

  -- what is done with an upload, where it is open
  opened_fate : (s : State) (n t : ℕ) (name key : List ℕ) (id : ℕ) (asked : UploadCommand) (next : Upload (List ℕ) → Result Stepped Refusal)
      (upload : UploadPlace)
      → ((u : Upload (List ℕ)) → upload_at s name key id ≡ Some u → Fate s n t (commands.Upload name key id asked) (stepped s (next u)) upload)
      → Fate s n t (commands.Upload name key id asked) (stepped s (open_upload s name key id >>= next)) upload
  opened_fate s n t name key id asked next upload goes =
      elim (upload_at s name key id) as (λ found. upload_at s name key id ≡ found
      → Fate s n t (commands.Upload name key id asked) (stepped s (as_refusal (ok_or found NoSuchUpload) >>= next)) upload) [
        | None ↦ λ none. left_refused s n t (commands.Upload name key id asked) _ upload refl
        | Some u ↦ λ is. goes u is
      ] refl

  -- a change of one upload leaves every other
  left_other : (s after : State) (n t : ℕ) (name key : List ℕ) (id : ℕ) (asked : UploadCommand) (outcome : Outcome) (upload : UploadPlace)
      (now : Option (Upload (List ℕ)))
      → OneUploadChanges s after name key id now
      → ¬ ((upload.address.bucket ≡ name) × ((upload.address.key ≡ key) × (upload.id ≡ id)))
      → Fate s n t (commands.Upload name key id asked) (after, outcome) upload
  left_other s after n t name key id asked outcome upload now changes other =
      Left (record {
        same = changes.others upload.address.bucket upload.address.key upload.id other;
        unbegun = λ begin at numbered. absurd (cc);
        unsent = λ number at. absurd (other (sent_there name key id asked upload number at));
        unended = λ at. absurd (other (ended_there name key id asked upload at));
      })

  -- a part is put to an upload, by a command that is to put it there
  part_fate : (s : State) (n t : ℕ) (name key : List ℕ) (id number : ℕ) (asked : UploadCommand) (part : Part (List ℕ)) (outcome : Outcome)
      (upload : UploadPlace) (u : Upload (List ℕ))
      → sends (commands.Upload name key id asked) ≡ part_of number (place_of name key id)
      → puts_part s t (commands.Upload name key id asked) ≡ Some part
      → upload_at s name key id ≡ Some u → IsTrue (has_bucket s name) → succeeds outcome ≡ true
      → Fate s n t (commands.Upload name key id asked) (changed s name (PartPut key id number part), outcome) upload
  part_fate s n t name key id number asked part outcome upload u at puts is there accepted =
      let change = PartPut key id number part in
      let after = law s name change there in
      elim (same_place upload name key id) [
        | inl here ↦
            Sent (record {
              number = number;
              part = part;
              at = at ∙ ap (part_of number) (sym here);
              puts = puts;
              accepted = accepted;
              found = u;
              there = ap (open_at s) here ∙ is;
              now = ap (open_at (changed s name change)) here ∙ after.here ∙ ap (option_map (with_part number part)) is;
            })
        | inr other ↦ left_other s (changed s name change) n t name key id asked outcome upload _ after other
      ]

  -- so is one that is copied, or the copy is refused
  copied_fate : (s : State) (n t : ℕ) (name key : List ℕ) (id number : ℕ) (copy : PartCopy) (source : Result (Found (List ℕ)) Refusal)
      (upload : UploadPlace) (u : Upload (List ℕ))
      → source_found s copy.source ≡ source → upload_at s name key id ≡ Some u → IsTrue (has_bucket s name)
      → Fate s n t (commands.Upload name key id (upload_commands.CopyPart number copy))
      (stepped s (source >>= part_copying s t name key id number copy)) upload
  copied_fate s n t name key id number copy (Ok found) upload u is here there =
      fate_line s n t _ upload (not (lies_in copy.range found.stored.size)) InvalidArgument _
      (λ within. part_fate s n t name key id number (upload_commands.CopyPart number copy) (part_copied t copy.range found.stored) _
      upload u refl
      (ap (λ (r : Result (Found (List ℕ)) Refusal). option_map (copied_part t copy) (result_ok r)) is) here there refl)
  copied_fate s n t name key id number copy (Err refusal) upload u is here there = left_refused s n t _ _ upload refl

  -- an upload is dropped, by a change that leaves every other
  end_fate : (s : State) (n t : ℕ) (name key : List ℕ) (id : ℕ) (asked : UploadCommand) (change : Change (List ℕ)) (outcome : Outcome)
      (upload : UploadPlace)
      → OneUploadChanges s (changed s name change) name key id None
      → ends (commands.Upload name key id asked) ≡ Some (place_of name key id) → succeeds outcome ≡ true
      → Fate s n t (commands.Upload name key id asked) (changed s name change, outcome) upload
  end_fate s n t name key id asked change outcome upload after at accepted =
      elim (same_place upload name key id) [
        | inl here ↦
            Ended (record {
              at = at ∙ ap Some (sym here);
              accepted = accepted;
              now = ap (open_at (changed s name change)) here ∙ after.here;
            })
        | inr other ↦ left_other s (changed s name change) n t name key id asked outcome upload None after other
      ]

  completed_fate : (s : State) (n t : ℕ) (name key : List ℕ) (id : ℕ) (asked : UploadCommand) (rule : Result (Data (List ℕ)) Code)
      (upload : UploadPlace)
      → ends (commands.Upload name key id asked) ≡ Some (place_of name key id) → IsTrue (has_bucket s name)
      → Fate s n t (commands.Upload name key id asked) (stepped s (as_refusal rule >>= completing s n t name key id)) upload
  completed_fate s n t name key id asked (Ok what) upload at there =
      let change = UploadCompleted key id (VersionPut n t what) in
      end_fate s n t name key id asked change _ upload (law s name change there) at refl
  completed_fate s n t name key id asked (Err code) upload at there = left_refused s n t _ _ upload refl

  upload_fate : (rules : Rules) (s : State) (n t : ℕ) (name key : List ℕ) (id : ℕ) (asked : UploadCommand) (upload : UploadPlace)
      → IsTrue (has_bucket s name)
      → Fate s n t (commands.Upload name key id asked) (stepped s (upload_done rules s n t name key id asked)) upload
  unfolding upload_done
  upload_fate rules s n t name key id (upload_commands.PutPart number payload) upload there =
      opened_fate s n t name key id (upload_commands.PutPart number payload) _ upload
      (λ u is. part_fate s n t name key id number (upload_commands.PutPart number payload) (part_sent t payload) _
      upload u refl refl is there refl)
  upload_fate rules s n t name key id (upload_commands.CopyPart number copy) upload there =
      opened_fate s n t name key id (upload_commands.CopyPart number copy) _ upload
      (λ u is. copied_fate s n t name key id number copy (source_found s copy.source) upload u refl is there)
  upload_fate rules s n t name key id (upload_commands.Complete listed condition) upload there =
      opened_fate s n t name key id (upload_commands.Complete listed condition) _ upload
      (λ u is. fate_line s n t _ upload (is_barred condition (tag_at s name key)) (barred_code (tag_at s name key)) _
      (λ free. completed_fate s n t name key id (upload_commands.Complete listed condition) (completed rules.least_part listed u) upload refl there))
  upload_fate rules s n t name key id upload_commands.Abort upload there =
      opened_fate s n t name key id upload_commands.Abort _ upload
      (λ u is. end_fate s n t name key id upload_commands.Abort (UploadDropped key id) _ upload (law s name (UploadDropped key id) there) refl refl)
  upload_fate rules s n t name key id other upload there =
      opened_fate s n t name key id other _ upload (λ u is. idle s n t _ _ upload refl refl refl)

  pub step_fate : (rules : Rules) (s : State) (n t : ℕ) (command : Command) (upload : UploadPlace)
      → Fate s n t command (step rules s n t command) upload
  unfolding done
  step_fate rules s n t commands.ListBuckets upload = idle s n t commands.ListBuckets _ upload refl refl refl
  step_fate rules s n t (commands.Bucket name asked) upload = bucket_fate rules s n t name asked upload
  step_fate rules s n t (commands.Key name key asked) upload =
      fate_line s n t _ upload (not (has_bucket s name)) NoSuchBucket (key_done s n t name key asked)
      (λ there. key_fate s n t name key asked upload (not-false (has_bucket s name) there))
  step_fate rules s n t (commands.Upload name key id asked) upload =
      fate_line s n t _ upload (not (has_bucket s name)) NoSuchBucket (upload_done rules s n t name key id asked)
      (λ there. upload_fate rules s n t name key id asked upload (not-false (has_bucket s name) there))
  step_fate rules s n t (commands.DeleteObjects name deletion) upload =
      fate_line s n t _ upload (not (has_bucket s name)) NoSuchBucket _
      (λ there.
      let is : IsIn (versioning_of s name) name s = record { there = not-false (has_bucket s name) there; versioning = refl } in
      left_alone s (all_deleted s name n t deletion.objects) n t (commands.DeleteObjects name deletion) _ upload
      (uploads_stay (versioning_of s name) name n t law s deletion.objects is upload.address.bucket upload.address.key upload.id) refl refl refl)
