-- What one step does: to the versions under keys, and that a refusal and a command that only reads do nothing.
use Rattle.std.proofs.Common.{◌≡◌, ◌≢◌, refl, sym, ap, ap₂, subst, ◌∙◌, arith, Bool, true, false, not, ℕ, ◌+◌, ◌⊎◌, ⊎_elim, inl, inr, IsTrue, List, [], ◌∷◌, Contains, Option, Some, None, option_map, IfSome, Result, Ok, Err, ok_or}
use Rattle.std.proofs.lemmas.Bool.{false≢true, not-false}
use Rattle.std.specs.List.{list_all, list_any}
use Rattle.std.specs.Result.{result_ok}
use Rattle.s3_text.proofs.MapLemmas.{same_or}
use Rattle.s3_terms.specs.declared.code.Code.{Code}
use Rattle.s3_terms.specs.declared.code.Code.TheVariants.{NoSuchBucket, BucketAlreadyOwnedByYou, BucketNotEmpty, InvalidArgument, NoSuchUpload, InvalidPartOrder, InvalidPart, EntityTooSmall}
use Rattle.s3_names.specs.declared.ids.VersionId.{VersionId}
use Rattle.s3_conditions.specs.declared.conditions.Conditions.{Conditions}
use Rattle.s3_versions.specs.declared.picking.Refusal.{Refusal}
use Rattle.s3_versions.specs.declared.version.Content.TheVariants.{Stored}
use Rattle.s3_versions.specs.declared.version.Data.{Data}
use Rattle.s3_versions.specs.declared.version.Version.{Version}
use Rattle.s3_versions.specs.declared.version.Versioning.{Versioning}
use Rattle.s3_versions.specs.declared.version.Versioning.TheVariants.{Unversioned, Enabled, Suspended}
use Rattle.s3_versions.specs.Metadata.{Entry as MetadataEntry}
use Rattle.s3_versions.specs.Rules.{made, new_id, stored, pick, facts_of, asked_for, KeyChange, VersionPut, KeyDeleted, VersionDropped, after_change}
use Rattle.s3_versions.specs.Laws.{id_changed, version_made}
use Rattle.s3_deletions.specs.Deletions.{rows_told}
use Rattle.s3_deletions.specs.declared.named.Deletion.{Deletion}
use Rattle.s3_uploads.specs.Completion.{numbers_listed, is_sent, is_small, front_of, parts_listed, completed_parts, joined_data, completed}
use Rattle.s3_uploads.specs.Parts.{PartList, rises, part_sent, part_tag}
use Rattle.s3_uploads.specs.declared.listed.ListedPart.{ListedPart}
use Rattle.s3_uploads.specs.declared.part.Part.{Part}
use Rattle.s3_uploads.specs.declared.upload.Upload.{Upload}
use Rattle.s3_records.specs.Catalogue.{has_bucket, is_empty_bucket, versions_of, versioning_of}
use Rattle.s3_records.specs.Changes.{Change, BucketAdded, BucketDropped, VersioningSet, KeyChanged, UploadAdded, PartPut, UploadDropped, UploadCompleted, changed}
use Rattle.s3_records.specs.Deletions.{all_deleted, markers_of}
use Rattle.s3_records.specs.Laws.{ChangesFollowRules, CompletionsFollowRules}
use Rattle.s3_records.specs.OpenUploads.{upload_at}
use Rattle.s3_records.specs.Places.{version_at, SameVersions, OnePlaceChanges, ChangesAreByPlace, number_in, AreBelow, NumbersStayBelow, LaterIsBelow}
use Rattle.s3_documents.specs.Document as documents
use Rattle.s3_machine.specs.declared.command.BucketCommand.{BucketCommand}
use Rattle.s3_machine.specs.declared.command.BucketCommand.TheVariants as bucket_commands
use Rattle.s3_machine.specs.declared.command.Command.{Command}
use Rattle.s3_machine.specs.declared.command.Command.TheVariants as commands
use Rattle.s3_machine.specs.declared.command.KeyCommand.{KeyCommand}
use Rattle.s3_machine.specs.declared.command.KeyCommand.TheVariants as key_commands
use Rattle.s3_machine.specs.declared.command.Found.{Found}
use Rattle.s3_machine.specs.declared.command.ObjectCopy.{ObjectCopy}
use Rattle.s3_machine.specs.declared.command.PartCopy.{PartCopy}
use Rattle.s3_machine.specs.declared.command.UploadCommand.{UploadCommand}
use Rattle.s3_machine.specs.declared.command.UploadCommand.TheVariants as upload_commands
use Rattle.s3_machine.specs.declared.command.Outcome.{Outcome}
use Rattle.s3_machine.specs.declared.command.Outcome.TheVariants as outcomes
use Rattle.s3_machine.specs.declared.command.WriteCondition.{WriteCondition}
use Rattle.s3_machine.specs.declared.command.WriteCondition.TheVariants as write_conditions
use Rattle.s3_machine.specs.declared.rules.Rules.{Rules}
use Rattle.s3_terms.specs.Fault as faults
use Rattle.s3_terms.specs.Fault.{◌>>◌, ◌>>=◌}
use Rattle.s3_machine.specs.Fault.{refuse, as_refusal}
use Rattle.s3_machine.specs.Effects.{Address, writes, object_of, upload_stored, stored_by, acknowledged, touched, told, is_refused, succeeds, only_reads}
use Rattle.s3_machine.specs.Step.{State, Stepped, tag_at, is_barred, barred_code, copied, source_found, lies_in, part_copied, data_of, shown_in, found_in, outcome_shown, shown_by, upload_begun, open_upload, bucket_done, key_done, upload_done, done, stepped, step}
use Rattle.s3_machine.specs.Laws.{QuietStepsChangeNothing, StepsStayBelow}
use Rattle.s3_machine.proofs.ChangeLemmas.{Comes, Stays, one_change, comes_below}
use Rattle.s3_machine.proofs.ContainsLemmas.{nothing_in, one_in, is_in}
use Rattle.s3_machine.proofs.DeletionLemmas.{nothing_stored, IsIn, all_come}
use Rattle.s3_machine.proofs.DeletionRowLemmas.{unwritten_keys, touched_others, touched_empty}

-- the versions under an address
abbrev pub versions_at : State → Address → List (Version (List ℕ))
versions_at s a = versions_of s a.bucket a.key

-- the command was refused, or only reads
abbrev pub IsQuiet : Command → Outcome → Type 0
IsQuiet command outcome = (is_refused outcome ≡ true) ⊎ (only_reads command ≡ true)

-- every key has the versions that it had, and a write didn't succeed
pub record Same (s : State) (command : Command) (st : Stepped) : Type 0 where
  pub versions : SameVersions s st.0
  pub refused : (a : Address) → Contains (writes command) a → succeeds st.1 ≡ false
  pub quiet : IsQuiet command st.1 → st.0 ≡ s

-- a write stored these data: the object that its command stores at the one place that it writes, whose tag it tells and which is
-- current now
pub record Adds (s : State) (n t : ℕ) (command : Command) (st : Stepped) : Type 0 where
  pub address : Address
  pub what : Data (List ℕ)
  pub by : stored_by s n t command ≡ Some (object_of s n t address what)
  pub written : writes command ≡ address ∷ []
  pub touches : touched command st.1 address ≡ new_id (versioning_of s address.bucket) n ∷ []
  pub tagged : acknowledged st.1 ≡ Some what.tag
  pub makes : version_at st.0 address.bucket address.key (new_id (versioning_of s address.bucket) n)
      ≡ Some (made (versioning_of s address.bucket) n t (Stored what))
  pub versions : versions_at st.0 address
      ≡ after_change (versioning_of s address.bucket) (VersionPut n t what) (versions_at s address)

-- or it stored nothing, and where it changed something nothing stored stands: where its number is above those of all versions
pub record AddsNothing (s : State) (n t : ℕ) (command : Command) (st : Stepped) : Type 0 where
  pub by : stored_by s n t command ≡ None
  pub empty : AreBelow n s → (a : Address) (id : VersionId) (v : Version (List ℕ)) → Contains (writes command) a
      → Contains (touched command st.1 a) id → version_at st.0 a.bucket a.key id ≡ Some v → stored v ≡ None

-- a write succeeded, and changed what stands where it touches it, and nothing else
pub record Changes (s : State) (n t : ℕ) (command : Command) (st : Stepped) : Type 0 where
  pub accepted : succeeds st.1 ≡ true
  pub more : only_reads command ≡ false
  pub other_keys : (a : Address) → ¬ Contains (writes command) a → versions_at st.0 a ≡ versions_at s a
  pub other_ids : (a : Address) (id : VersionId) → (Contains (writes command) a → ¬ Contains (touched command st.1 a) id)
      → version_at st.0 a.bucket a.key id ≡ version_at s a.bucket a.key id
  pub adds : Adds s n t command st ⊎ AddsNothing s n t command st

-- what a step does, by changes of its number
pub record Does (s : State) (n t : ℕ) (command : Command) (st : Stepped) : Type 0 where
  pub comes : Comes n s st.0
  pub effect : Same s command st ⊎ Changes s n t command st

-- a rule whose first line may refuse
pub after_line : (P : Stepped → Type 0) (s : State) (fault : Bool) (code : Code) (next : Result Stepped Refusal) → P (s, outcomes.Refused code false) → (fault ≡ false → P (stepped s next)) → P (stepped s (refuse fault code >> next))
after_line P s true code next refused goes = refused
after_line P s false code next refused goes = goes refl

no_write : (command : Command) (outcome : Outcome) → writes command ≡ [] → (a : Address) → Contains (writes command) a → succeeds outcome ≡ false
no_write command outcome none a is = absurd (nothing_in (writes command) a none is)

untouched : (s : State) (n t : ℕ) (command : Command) (outcome : Outcome) → ((a : Address) → Contains (writes command) a → succeeds outcome ≡ false) → Does s n t command (s, outcome)
untouched s n t command outcome refused =
    record { comes = Stays; effect = inl (record { versions = λ name key. refl; refused = refused; quiet = λ is. refl }) }

-- a command that writes nothing leaves the state, or has the versions that it had
unwritten : {outcome : Outcome} (s : State) (n t : ℕ) (command : Command) → writes command ≡ [] → Does s n t command (s, outcome)
unwritten {outcome} s n t command none = untouched s n t command outcome (no_write command outcome none)

-- what succeeds isn't refused
not_refused : (outcome : Outcome) → succeeds outcome ≡ true → is_refused outcome ≡ false
not_refused (outcomes.Refused code is_delete_marker) is = absurd (false≢true is)
not_refused (outcomes.OutOfRange size) is = absurd (false≢true is)
not_refused _ is = refl

-- a rule's line that may refuse such a command
next_line : (s : State) (n t : ℕ) (command : Command) (fault : Bool) (code : Code) (next : Result Stepped Refusal) → writes command ≡ [] → (fault ≡ false → Does s n t command (stepped s next)) → Does s n t command (stepped s (refuse fault code >> next))
next_line s n t command fault code next none goes = after_line (Does s n t command) s fault code next (unwritten s n t command none) goes

-- a command that changes something isn't quiet
not_quiet : {X : Type 0} (command : Command) (outcome : Outcome) → is_refused outcome ≡ false → only_reads command ≡ false → IsQuiet command outcome → X
not_quiet command outcome accepted more (inl is) = absurd (false≢true (sym accepted ∙ is))
not_quiet command outcome accepted more (inr is) = absurd (false≢true (sym more ∙ is))

-- a change that leaves all versions
same_versions : {outcome : Outcome} (s : State) (name : List ℕ) (change : Change (List ℕ)) (n t : ℕ) (command : Command)
    → writes command ≡ [] → is_refused outcome ≡ false → only_reads command ≡ false → IfSome (number_in change) (λ m. m ≡ n)
    → SameVersions s (changed s name change) → Does s n t command (changed s name change, outcome)
same_versions {outcome} s name change n t command none accepted more numbered same =
    record {
      comes = one_change n s name change numbered;
      effect = inl (record {
        versions = same;
        refused = no_write command outcome none;
        quiet = not_quiet command outcome accepted more;
      });
    }

-- two addresses are the same or not
joined : (a b : Address) → a.bucket ≡ b.bucket → a.key ≡ b.key → a ≡ b
joined a b bucket key =
    let built : List ℕ → List ℕ → Address = λ x y. record { bucket = x; key = y } in
    ap₂ built bucket key

pub same_address : (a b : Address) → (a ≡ b) ⊎ ¬ ((a.bucket ≡ b.bucket) × (a.key ≡ b.key))
same_address a b =
    elim (same_or a.bucket b.bucket) [
      | inl bucket ↦
          elim (same_or a.key b.key) [
            | inl key ↦ inl (joined a b bucket key)
            | inr key ↦ inr (λ both. key both.1)
          ]
      | inr bucket ↦ inr (λ both. bucket both.0)
    ]

pub address_or : (a b : Address) → (a ≡ b) ⊎ (a ≢ b)
address_or a b =
    ⊎_elim inl (λ other. inr (λ is. other (ap (λ (x : Address). x.bucket) is, ap (λ (x : Address). x.key) is))) (same_address a b)

told_new : (b : Versioning) (n : ℕ) → told (shown_in b (new_id b n)) ≡ new_id b n
told_new Unversioned n = refl
told_new Enabled n = refl
told_new Suspended n = refl

-- what a copy does once its source is known
unfoldable pub copy_done : State → ℕ → ℕ → List ℕ → List ℕ → Data (List ℕ) → Result Stepped Refusal
copy_done s n t name key what =
    Ok (
      changed s name (KeyChanged key (VersionPut n t what)),
      outcomes.Copied what.tag t (shown_in (versioning_of s name) (new_id (versioning_of s name) n)),
    )

-- what a copy to a part does once its source is found
abbrev pub part_copying : State → ℕ → (name key : List ℕ) → (id number : ℕ) → PartCopy → Found (List ℕ) → Result Stepped Refusal
part_copying s t name key id number copy found = do
  refuse (not (lies_in copy.range found.stored.size)) InvalidArgument
  Ok (
    changed s name (PartPut key id number (part_copied t copy.range found.stored)),
    outcomes.PartCopied (part_tag (part_copied t copy.range found.stored)) t found.shown,
  )

-- what is done with a version that was read
abbrev pub shown : State → List ℕ → Conditions → List MetadataEntry → Version (List ℕ) × Data (List ℕ) → Result Stepped Refusal
shown s name conditions overrides read =
    shown_by conditions (facts_of read) >>= (λ selection. Ok (s, outcome_shown (found_in (versioning_of s name) read) overrides selection))

-- what a rule is past a line that may refuse, where it doesn't
let_pass : {A : Type 0} (fault : Bool) (code : Code) (next : Result A Code) (a : A) → (faults.refuse fault code >> next) ≡ Ok a → next ≡ Ok a
let_pass true code next a is = absurd (cc)
let_pass false code next a is = is

joined_is : (u : Upload (List ℕ)) (rule : Result (List (Part (List ℕ))) Code) (what : Data (List ℕ))
    → (rule >>= (λ parts. Ok (joined_data u parts))) ≡ Ok what
    → (parts : List (Part (List ℕ))) × (rule ≡ Ok parts) × (joined_data u parts ≡ what)
joined_is u (Ok parts) what is = (parts, refl, cc)
joined_is u (Err code) what is = absurd (cc)

listed_are : (least : ℕ) (listed : List ListedPart) (parts : PartList (List ℕ)) (made : List (Part (List ℕ)))
    → completed_parts least listed parts ≡ Ok made → parts_listed listed parts ≡ made
unfolding completed_parts
listed_are least listed parts made is =
    let last : ◌≡◌ {A = Result (List (Part (List ℕ))) Code} (Ok (parts_listed listed parts)) (Ok made) =
    let_pass (list_any (is_small least parts) (front_of listed)) EntityTooSmall _ made
    (let_pass (not (list_all (is_sent parts) listed)) InvalidPart _ made
    (let_pass (not (rises (numbers_listed listed))) InvalidPartOrder _ made is)) in
    cc

-- so what a completion stores are its listed parts, joined
pub completed_is : (least : ℕ) (listed : List ListedPart) (u : Upload (List ℕ)) (what : Data (List ℕ)) → completed least listed u ≡ Ok what
    → joined_data u (parts_listed listed u.parts) ≡ what
unfolding completed
completed_is least listed u what is =
    let made = joined_is u (completed_parts least listed u.parts) what is in
    ap (joined_data u) (listed_are least listed u.parts made.0 made.1) ∙ made.2

-- what a completion does once it is known what it stores
abbrev pub completing : State → ℕ → ℕ → List ℕ → List ℕ → ℕ → Data (List ℕ) → Result Stepped Refusal
completing s n t name key id what =
    Ok (
      changed s name (UploadCompleted key id (VersionPut n t what)),
      outcomes.Completed
          (documents.completed name key what.tag) what.tag (shown_in (versioning_of s name) (new_id (versioning_of s name) n)),
    )

-- the versions of a key that changes are those that the rules of its bucket give, where a completion changes it, too
pub record FollowRules : Type 0 where
  pub keys : ChangesFollowRules (List ℕ)
  pub completions : CompletionsFollowRules (List ℕ)

module _ (places : ChangesAreByPlace (List ℕ)) (follow : FollowRules) where
  bucket_does : (rules : Rules) (s : State) (n t : ℕ) (name : List ℕ) (asked : BucketCommand) → Does s n t (commands.Bucket name asked) (stepped s (bucket_done rules s t name asked))
  unfolding bucket_done
  bucket_does rules s n t name bucket_commands.Create =
      next_line s n t _ (has_bucket s name) BucketAlreadyOwnedByYou _ refl
      (λ none. same_versions s name (BucketAdded t) n t _ refl refl refl tt (places s name (BucketAdded t) (ap not none)))
  bucket_does rules s n t name bucket_commands.Delete =
      next_line s n t _ (not (has_bucket s name)) NoSuchBucket _ refl
      (λ there. next_line s n t _ (not (is_empty_bucket s name)) BucketNotEmpty _ refl
      (λ empty. same_versions s name BucketDropped n t _ refl refl refl tt (places s name BucketDropped (not-false (is_empty_bucket s name) empty))))
  bucket_does rules s n t name (bucket_commands.PutVersioning status) =
      next_line s n t _ (not (has_bucket s name)) NoSuchBucket _ refl
      (λ there. same_versions s name (VersioningSet status) n t _ refl refl refl tt (places s name (VersioningSet status) refl))
  bucket_does rules s n t name other =
      next_line s n t _ (not (has_bucket s name)) NoSuchBucket _ refl (λ there. unwritten s n t _ refl)

  -- a rule that only reads changes nothing
  showing : {A : Type 0} (s : State) (n t : ℕ) (command : Command) (read : Result A Refusal) (out : A → Outcome) → writes command ≡ [] → Does s n t command (stepped s (read >>= (λ found. Ok (s, out found))))
  showing s n t command (Ok found) out none = unwritten s n t command none
  showing s n t command (Err refusal) out none = unwritten s n t command none

  reading : (s : State) (n t : ℕ) (command : Command) (read : Result (Version (List ℕ) × Data (List ℕ)) Refusal) (name : List ℕ) (conditions : Conditions)
      (overrides : List MetadataEntry) → writes command ≡ [] → Does s n t command (stepped s (read >>= shown s name conditions overrides))
  reading s n t command (Ok r) name conditions overrides none =
      showing s n t command (shown_by conditions (facts_of r)) (outcome_shown (found_in (versioning_of s name) r) overrides) none
  reading s n t command (Err refusal) name conditions overrides none = unwritten s n t command none

  -- a command changes the versions of one id under a key, as entry n
  writing : (s : State) (n t : ℕ) (name key : List ℕ) (command : Command) (change : Change (List ℕ)) (what : KeyChange (List ℕ))
      (outcome : Outcome)
      → OnePlaceChanges s (changed s name change) name key (id_changed (versioning_of s name) what) (version_made (versioning_of s name) what)
      → writes command ≡ record { bucket = name; key = key } ∷ []
      → succeeds outcome ≡ true → only_reads command ≡ false → IfSome (number_in change) (λ m. m ≡ n)
      → touched command outcome (record { bucket = name; key = key }) ≡ id_changed (versioning_of s name) what ∷ []
      → Adds s n t command (changed s name change, outcome) ⊎ AddsNothing s n t command (changed s name change, outcome)
      → Does s n t command (changed s name change, outcome)
  writing s n t name key command change what outcome place written accepted more numbered touches adds =
      let here : Address = record { bucket = name; key = key } in
      let id = id_changed (versioning_of s name) what in
      let after = changed s name change in
      record {
        comes = one_change n s name change numbered;
        effect = inr (record {
          accepted = accepted;
          more = more;
          other_keys = λ a other.
              place.other_keys a.bucket a.key (λ both. other (is_in (writes command) here a written (joined here a (sym both.0) (sym both.1))));
          other_ids = λ a other spared.
              elim (same_address a here) [
                | inl same ↦
                    subst (λ (b : Address). version_at after b.bucket b.key other ≡ version_at s b.bucket b.key other) (sym same)
                    (place.other_ids other (λ is.
                    spared (is_in (writes command) here a written (sym same))
                    (is_in (touched command outcome a) id other (ap (touched command outcome) same ∙ touches) (sym is))))
                | inr differ ↦ ap (asked_for (Some other)) (place.other_keys a.bucket a.key differ)
              ];
          adds = adds;
        });
      }

  -- it stores nothing: what stands where it changes the versions is nothing that is stored
  emptying : (s : State) (n t : ℕ) (name key : List ℕ) (command : Command) (change : Change (List ℕ)) (what : KeyChange (List ℕ))
      (outcome : Outcome)
      → OnePlaceChanges s (changed s name change) name key (id_changed (versioning_of s name) what) (version_made (versioning_of s name) what)
      → writes command ≡ record { bucket = name; key = key } ∷ []
      → succeeds outcome ≡ true → only_reads command ≡ false → IfSome (number_in change) (λ m. m ≡ n)
      → touched command outcome (record { bucket = name; key = key }) ≡ id_changed (versioning_of s name) what ∷ []
      → stored_by s n t command ≡ None
      → ((v : Version (List ℕ)) → version_made (versioning_of s name) what ≡ Some v → stored v ≡ None)
      → Does s n t command (changed s name change, outcome)
  emptying s n t name key command change what outcome place written accepted more numbered touches by empty =
      let here : Address = record { bucket = name; key = key } in
      let id = id_changed (versioning_of s name) what in
      let after = changed s name change in
      writing s n t name key command change what outcome place written accepted more numbered touches
      (inr (record {
        by = by;
        empty = λ below a other v wrote touched_it is.
            let same = one_in (writes command) here a written wrote in
            let under = one_in (touched command outcome a) id other (ap (touched command outcome) (sym same) ∙ touches) touched_it in
            empty v (sym place.here ∙ ap₂ (λ (b : Address) (i : VersionId). version_at after b.bucket b.key i) same under ∙ is);
      }))

  -- it stores these data, by a change that puts them under a key, and tells their tag and the new id
  stores : (s : State) (n t : ℕ) (name key : List ℕ) (command : Command) (change : Change (List ℕ)) (what : Data (List ℕ)) (outcome : Outcome)
      → OnePlaceChanges s (changed s name change) name key (id_changed (versioning_of s name) (VersionPut n t what))
      (version_made (versioning_of s name) (VersionPut n t what))
      → versions_of (changed s name change) name key ≡ after_change (versioning_of s name) (VersionPut n t what) (versions_of s name key)
      → number_in change ≡ Some n
      → writes command ≡ record { bucket = name; key = key } ∷ []
      → stored_by s n t command ≡ Some (object_of s n t (record { bucket = name; key = key }) what)
      → succeeds outcome ≡ true → only_reads command ≡ false → acknowledged outcome ≡ Some what.tag
      → touched command outcome (record { bucket = name; key = key }) ≡ told (shown_in (versioning_of s name) (new_id (versioning_of s name) n)) ∷ []
      → Does s n t command (changed s name change, outcome)
  stores s n t name key command change what outcome place versions numbered written by accepted more tagged touches =
      let under = touches ∙ ap (λ (id : VersionId). id ∷ []) (told_new (versioning_of s name) n) in
      writing s n t name key command change (VersionPut n t what) outcome place written accepted more
      (subst (λ (number : Option ℕ). IfSome number (λ m. m ≡ n)) (sym numbered) refl) under
      (inl (record {
        address = record { bucket = name; key = key };
        what = what;
        by = by;
        written = written;
        touches = under;
        tagged = tagged;
        makes = place.here;
        versions = versions;
      }))

  -- a put under a key stores what it puts
  puts : (s : State) (n t : ℕ) (name key : List ℕ) (command : Command) (what : Data (List ℕ)) (outcome : Outcome)
      → IsTrue (has_bucket s name)
      → writes command ≡ record { bucket = name; key = key } ∷ []
      → stored_by s n t command ≡ Some (object_of s n t (record { bucket = name; key = key }) what)
      → succeeds outcome ≡ true → only_reads command ≡ false → acknowledged outcome ≡ Some what.tag
      → touched command outcome (record { bucket = name; key = key }) ≡ told (shown_in (versioning_of s name) (new_id (versioning_of s name) n)) ∷ []
      → Does s n t command (changed s name (KeyChanged key (VersionPut n t what)), outcome)
  puts s n t name key command what outcome there =
      stores s n t name key command (KeyChanged key (VersionPut n t what)) what outcome
      (places s name (KeyChanged key (VersionPut n t what)) there) (follow.keys s name key (VersionPut n t what) there) refl

  -- a copy stores what its source has, or is refused
  key_copies : (s : State) (n t : ℕ) (name key : List ℕ) (copy : ObjectCopy) (source : Result (Data (List ℕ)) Refusal)
      → copied s copy ≡ source → IsTrue (has_bucket s name)
      → Does s n t (commands.Key name key (key_commands.Copy copy)) (stepped s (source >>= copy_done s n t name key))
  unfolding copy_done
  key_copies s n t name key copy (Ok what) is there =
      puts s n t name key (commands.Key name key (key_commands.Copy copy)) what _ there refl
      (ap (λ (r : Result (Data (List ℕ)) Refusal). option_map (object_of s n t (record { bucket = name; key = key })) (result_ok r)) is) refl refl refl refl
  key_copies s n t name key copy (Err refusal) is there =
      untouched s n t (commands.Key name key (key_commands.Copy copy)) _ (λ a written. refl)

  key_does : (s : State) (n t : ℕ) (name key : List ℕ) (asked : KeyCommand) → IsTrue (has_bucket s name)
      → Does s n t (commands.Key name key asked) (stepped s (key_done s n t name key asked))
  unfolding key_done copy_done
  key_does s n t name key (key_commands.Copy copy) there = key_copies s n t name key copy (copied s copy) refl there
  key_does s n t name key (key_commands.Put put) there =
      after_line (Does s n t (commands.Key name key (key_commands.Put put))) s (is_barred put.condition (tag_at s name key)) (barred_code (tag_at s name key)) _
      (untouched s n t (commands.Key name key (key_commands.Put put)) _ (λ a written. refl))
      (λ free. puts s n t name key (commands.Key name key (key_commands.Put put)) (data_of put) _ there refl refl refl refl refl refl)
  key_does s n t name key (key_commands.Read asked) there =
      reading s n t (commands.Key name key (key_commands.Read asked)) (pick asked.version (versions_of s name key)) name asked.conditions asked.overrides refl
  key_does s n t name key (key_commands.ReadTags version) there =
      showing s n t (commands.Key name key (key_commands.ReadTags version)) (pick version (versions_of s name key)) _ refl
  key_does s n t name key (key_commands.Delete None) there =
      emptying s n t name key (commands.Key name key (key_commands.Delete None)) (KeyChanged key (KeyDeleted n t)) (KeyDeleted n t) _
      (places s name (KeyChanged key (KeyDeleted n t)) there) refl refl refl (omega arith)
      (ap (λ (id : VersionId). id ∷ []) (told_new (versioning_of s name) n)) refl
      (λ v is. nothing_stored (versioning_of s name) n t v is)
  key_does s n t name key (key_commands.Delete (Some id)) there =
      emptying s n t name key (commands.Key name key (key_commands.Delete (Some id))) (KeyChanged key (VersionDropped id))
      (VersionDropped id) _ (places s name (KeyChanged key (VersionDropped id)) there) refl refl refl tt refl refl
      (λ v is. absurd (cc))
  key_does s n t name key (key_commands.DeleteMatching tags) there =
      after_line (Does s n t (commands.Key name key (key_commands.DeleteMatching tags)))
      s (is_barred (write_conditions.IfMatch tags) (tag_at s name key)) (barred_code (tag_at s name key)) _
      (untouched s n t (commands.Key name key (key_commands.DeleteMatching tags)) _ (λ a written. refl))
      (λ met. emptying s n t name key (commands.Key name key (key_commands.DeleteMatching tags)) (KeyChanged key (KeyDeleted n t)) (KeyDeleted n t) _
      (places s name (KeyChanged key (KeyDeleted n t)) there) refl refl refl (omega arith)
      (ap (λ (id : VersionId). id ∷ []) (told_new (versioning_of s name) n)) refl
      (λ v is. nothing_stored (versioning_of s name) n t v is))
  key_does s n t name key (key_commands.Begin begin) there =
      same_versions s name (UploadAdded key n (upload_begun t begin)) n t (commands.Key name key (key_commands.Begin begin))
      refl refl refl tt (places s name (UploadAdded key n (upload_begun t begin)) there)

  -- what is done with an upload, where it is open
  opened : (s : State) (n t : ℕ) (name key : List ℕ) (id : ℕ) (asked : UploadCommand) (next : Upload (List ℕ) → Result Stepped Refusal)
      → ((u : Upload (List ℕ)) → upload_at s name key id ≡ Some u → Does s n t (commands.Upload name key id asked) (stepped s (next u)))
      → Does s n t (commands.Upload name key id asked) (stepped s (open_upload s name key id >>= next))
  opened s n t name key id asked next goes =
      elim (upload_at s name key id) as (λ found. upload_at s name key id ≡ found
      → Does s n t (commands.Upload name key id asked) (stepped s (as_refusal (ok_or found NoSuchUpload) >>= next))) [
        | None ↦ λ none. untouched s n t (commands.Upload name key id asked) _ (λ a is. refl)
        | Some u ↦ λ is. goes u is
      ] refl

  -- a completion stores what the listed parts make, or is refused
  upload_completes : (rules : Rules) (s : State) (n t : ℕ) (name key : List ℕ) (id : ℕ) (listed : List ListedPart) (condition : WriteCondition)
      (u : Upload (List ℕ)) (rule : Result (Data (List ℕ)) Code)
      → completed rules.least_part listed u ≡ rule → upload_at s name key id ≡ Some u → IsTrue (has_bucket s name)
      → Does s n t (commands.Upload name key id (upload_commands.Complete listed condition)) (stepped s (as_refusal rule >>= completing s n t name key id))
  upload_completes rules s n t name key id listed condition u (Ok what) is found there =
      let change = UploadCompleted key id (VersionPut n t what) in
      stores s n t name key (commands.Upload name key id (upload_commands.Complete listed condition)) change what _
      (places s name change there) (follow.completions s name key id (VersionPut n t what) there) refl refl
      (ap (λ (f : Option (Upload (List ℕ))). option_map (object_of s n t (record { bucket = name; key = key })) (upload_stored f (upload_commands.Complete listed condition))) found
      ∙ ap (λ (d : Data (List ℕ)). Some (object_of s n t (record { bucket = name; key = key }) d)) (completed_is rules.least_part listed u what is))
      refl refl refl refl
  upload_completes rules s n t name key id listed condition u (Err code) is found there =
      untouched s n t (commands.Upload name key id (upload_commands.Complete listed condition)) _ (λ a written. refl)

  -- a part that is copied changes no versions
  part_copies : (s : State) (n t : ℕ) (name key : List ℕ) (id number : ℕ) (copy : PartCopy) (source : Result (Found (List ℕ)) Refusal)
      → IsTrue (has_bucket s name)
      → Does s n t (commands.Upload name key id (upload_commands.CopyPart number copy))
      (stepped s (source >>= part_copying s t name key id number copy))
  part_copies s n t name key id number copy (Ok found) there =
      let part = part_copied t copy.range found.stored in
      after_line (Does s n t (commands.Upload name key id (upload_commands.CopyPart number copy)))
      s (not (lies_in copy.range found.stored.size)) InvalidArgument _ (unwritten s n t _ refl)
      (λ within. same_versions s name (PartPut key id number part) n t _ refl refl refl tt
      (places s name (PartPut key id number part) there))
  part_copies s n t name key id number copy (Err refusal) there = unwritten s n t _ refl

  upload_does : (rules : Rules) (s : State) (n t : ℕ) (name key : List ℕ) (id : ℕ) (asked : UploadCommand) → IsTrue (has_bucket s name)
      → Does s n t (commands.Upload name key id asked) (stepped s (upload_done rules s n t name key id asked))
  unfolding upload_done
  upload_does rules s n t name key id (upload_commands.PutPart number payload) there =
      opened s n t name key id (upload_commands.PutPart number payload) _
      (λ u is. same_versions s name (PartPut key id number (part_sent t payload)) n t _ refl refl refl tt
      (places s name (PartPut key id number (part_sent t payload)) there))
  upload_does rules s n t name key id (upload_commands.CopyPart number copy) there =
      opened s n t name key id (upload_commands.CopyPart number copy) _
      (λ u is. part_copies s n t name key id number copy (source_found s copy.source) there)
  upload_does rules s n t name key id (upload_commands.Complete listed condition) there =
      opened s n t name key id (upload_commands.Complete listed condition) _
      (λ u is. after_line (Does s n t (commands.Upload name key id (upload_commands.Complete listed condition)))
      s (is_barred condition (tag_at s name key)) (barred_code (tag_at s name key)) _
      (untouched s n t (commands.Upload name key id (upload_commands.Complete listed condition)) _ (λ a written. refl))
      (λ free. upload_completes rules s n t name key id listed condition u (completed rules.least_part listed u) refl is there))
  upload_does rules s n t name key id upload_commands.Abort there =
      opened s n t name key id upload_commands.Abort _
      (λ u is. same_versions s name (UploadDropped key id) n t _ refl refl refl tt (places s name (UploadDropped key id) there))
  upload_does rules s n t name key id other there =
      opened s n t name key id other _ (λ u is. unwritten s n t _ refl)

  -- several deletions store nothing
  all_delete : (s : State) (n t : ℕ) (name : List ℕ) (deletion : Deletion) → IsTrue (has_bucket s name)
      → Does s n t (commands.DeleteObjects name deletion) (
        all_deleted s name n t deletion.objects,
        outcomes.Told (documents.deletions deletion.is_quiet (rows_told deletion.objects (markers_of s name n t deletion.objects))),
      )
  all_delete s n t name deletion there =
      let b = versioning_of s name in
      let is : IsIn b name s = record { there = there; versioning = refl } in
      record {
        comes = all_come b name n t s deletion.objects is;
        effect = inr (record {
          accepted = refl;
          more = refl;
          other_keys = λ a other. unwritten_keys places b name n t s deletion.objects a is other;
          other_ids = λ a id spared. touched_others places b name n t s deletion.objects a id is spared;
          adds = inr (record {
            by = refl;
            empty = λ below a id v wrote touches at.
                touched_empty places b name n t follow.keys s deletion.objects a id v is below wrote touches at;
          });
        });
      }

  pub step_does : (rules : Rules) (s : State) (n t : ℕ) (command : Command) → Does s n t command (step rules s n t command)
  unfolding done
  step_does rules s n t commands.ListBuckets = unwritten s n t commands.ListBuckets refl
  step_does rules s n t (commands.Bucket name asked) = bucket_does rules s n t name asked
  step_does rules s n t (commands.Key name key asked) =
      after_line (Does s n t (commands.Key name key asked)) s (not (has_bucket s name)) NoSuchBucket (key_done s n t name key asked)
      (untouched s n t (commands.Key name key asked) _ (λ a is. refl))
      (λ there. key_does s n t name key asked (not-false (has_bucket s name) there))
  step_does rules s n t (commands.Upload name key id asked) =
      after_line (Does s n t (commands.Upload name key id asked)) s (not (has_bucket s name)) NoSuchBucket (upload_done rules s n t name key id asked)
      (untouched s n t (commands.Upload name key id asked) _ (λ a is. refl))
      (λ there. upload_does rules s n t name key id asked (not-false (has_bucket s name) there))
  step_does rules s n t (commands.DeleteObjects name deletion) =
      after_line (Does s n t (commands.DeleteObjects name deletion)) s (not (has_bucket s name)) NoSuchBucket _
      (untouched s n t (commands.DeleteObjects name deletion) _ (λ a is. refl))
      (λ there. all_delete s n t name deletion (not-false (has_bucket s name) there))

  -- so a refusal and a command that only reads change nothing
  pub quiet_steps_change_nothing : QuietStepsChangeNothing
  quiet_steps_change_nothing rules s n t command quiet =
      elim (step_does rules s n t command).effect [
        | inl same ↦ same.quiet quiet
        | inr changes ↦ not_quiet command (step rules s n t command).1 (not_refused (step rules s n t command).1 changes.accepted) changes.more quiet
      ]

  -- and the next number is above those of all versions
  pub steps_stay_below : NumbersStayBelow (List ℕ) → LaterIsBelow (List ℕ) → StepsStayBelow
  steps_stay_below stay later rules s n t command below =
      comes_below stay n s (step rules s n t command).0 (step_does rules s n t command).comes (later n (n + 1) s (omega arith) below)
