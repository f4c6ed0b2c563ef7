-- Ids are told once: what an entry makes has its number, or is `null`, and numbers rise.
use Rattle.std.proofs.Common.{◌≡◌, ◌≢◌, refl, sym, ap, subst, ◌∙◌, arith, true, false, not, cond, ℕ, ◌+◌, ◌<◌, ◌≤◌, IsTrue, ◌⊎◌, inl, inr, List, [], ◌∷◌, ◌++◌, append_assoc, length, length-append, filter_map, Contains, Option, Some, None, is_some, Result, Ok, Err, ok_or}
use Rattle.std.specs.Str.{bytes_eq}
use Rattle.s3_terms.specs.declared.code.Code.{Code}
use Rattle.s3_terms.specs.declared.code.Code.TheVariants.{NoSuchBucket, NoSuchUpload}
use Rattle.s3_terms.specs.Fault.{◌>>◌, ◌>>=◌}
use Rattle.s3_names.specs.declared.ids.VersionId.{VersionId}
use Rattle.s3_names.specs.declared.ids.VersionId.TheVariants.{Null, Numbered}
use Rattle.s3_versions.specs.declared.picking.Refusal.{Refusal}
use Rattle.s3_versions.specs.declared.version.Data.{Data}
use Rattle.s3_versions.specs.declared.version.Version.{Version}
use Rattle.s3_versions.specs.declared.version.Versioning.{Versioning}
use Rattle.s3_versions.specs.declared.version.Versioning.TheVariants.{Unversioned, Enabled, Suspended}
use Rattle.s3_versions.specs.Rules.{new_id}
use Rattle.s3_deletions.specs.Deletions.{acts, marker_made_as, marker_by, marker_told, row_told, rows_told}
use Rattle.s3_deletions.specs.declared.named.NamedObject.{NamedObject}
use Rattle.s3_deletions.specs.declared.named.NamedObject.TheVariants.{Object, Fault}
use Rattle.s3_deletions.specs.declared.told.DeletionRow.{DeletionRow}
use Rattle.s3_deletions.specs.declared.told.DeletionRow.TheVariants as rows
use Rattle.s3_uploads.specs.Completion.{completed}
use Rattle.s3_uploads.specs.declared.listed.ListedPart.{ListedPart}
use Rattle.s3_uploads.specs.declared.upload.Upload.{Upload}
use Rattle.s3_records.specs.Catalogue.{has_bucket, versions_of, versioning_of}
use Rattle.s3_records.specs.Deletions.{deleted, marker_of, markers_of}
use Rattle.s3_records.specs.OpenUploads.{upload_at}
use Rattle.s3_records.specs.Places.{version_at, LaterIsBelow}
use Rattle.s3_documents.specs.Document as documents
use Rattle.s3_machine.specs.declared.command.Command.{Command}
use Rattle.s3_machine.specs.declared.command.Command.TheVariants as commands
use Rattle.s3_machine.specs.declared.command.KeyCommand.{KeyCommand}
use Rattle.s3_machine.specs.declared.command.KeyCommand.TheVariants as key_commands
use Rattle.s3_machine.specs.declared.command.ObjectCopy.{ObjectCopy}
use Rattle.s3_machine.specs.declared.command.UploadCommand.{UploadCommand}
use Rattle.s3_machine.specs.declared.command.UploadCommand.TheVariants as upload_commands
use Rattle.s3_machine.specs.declared.command.Outcome.{Outcome}
use Rattle.s3_machine.specs.declared.command.Outcome.TheVariants as outcomes
use Rattle.s3_machine.specs.declared.command.WriteCondition.{WriteCondition}
use Rattle.s3_machine.specs.declared.command.WriteCondition.TheVariants as write_conditions
use Rattle.s3_machine.specs.declared.rules.Rules.{Rules}
use Rattle.s3_machine.specs.Bases.{EverySoundHistory, HistoriesLeaveSound}
use Rattle.s3_machine.specs.Effects.{Address, UploadPlace, open_at, writes, told, marker_in_row, succeeds}
use Rattle.s3_machine.specs.Fault.{as_refusal}
use Rattle.s3_machine.specs.History.{Entry, IsAnswer, Legal, after}
use Rattle.s3_machine.specs.Ids.{ids_made, MakesVersion, BeginsUpload, VersionIdsAreToldOnce, VersionIdsAreNew, UploadIdsAreToldOnce, UploadIdsAreNew}
use Rattle.s3_machine.specs.Kept.{EveryHistory}
use Rattle.s3_machine.specs.Step.{State, Stepped, tag_at, is_barred, barred_code, copied, shown_in, key_done, upload_done, done, stepped, step}
use Rattle.s3_machine.specs.Uploads.{Begins}
use Rattle.s3_machine.specs.UploadsKept.{BegunIsTold}
use Rattle.s3_machine.proofs.ContainsLemmas.{nothing_in, first_or_later, one_in, made_of}
use Rattle.s3_machine.proofs.DeletionLemmas.{not_made, none_made}
use Rattle.s3_machine.proofs.EffectLemmas.{after_line, copy_done, completing}
use Rattle.s3_machine.proofs.HistoryLemmas.{Legal-append, right_at}
use Rattle.s3_machine.proofs.KeptLemmas.{outcome_is}
use Rattle.s3_machine.proofs.TellingLemmas.{begin_told}
use Rattle.s3_machine.proofs.StateLemmas.{numbered_by}

-- ---- what a step tells that it made

-- the id is `null`, or that of this number
abbrev IsOfNumber : ℕ → VersionId → Type 0
IsOfNumber n id = (id ≡ Null) ⊎ (id ≡ Numbered n)

new_of_number : (b : Versioning) (n : ℕ) → IsOfNumber n (told (shown_in b (new_id b n)))
new_of_number Unversioned n = inl refl
new_of_number Enabled n = inr refl
new_of_number Suspended n = inl refl

one_of_number : (b : Versioning) (n : ℕ) (id : VersionId) → Contains (told (shown_in b (new_id b n)) ∷ []) id → IsOfNumber n id
one_of_number b n id within =
    let new = told (shown_in b (new_id b n)) in
    subst (IsOfNumber n) (one_in (new ∷ []) new id refl within) (new_of_number b n)

-- so is what a row tells of a key that was named without a version
marker_of_number : (b : Versioning) (n : ℕ) (id : VersionId) → marker_made_as b n ≡ Some id → IsOfNumber n id
marker_of_number Unversioned n id is = absurd (cc)
marker_of_number Enabled n id is = inr (cc)
marker_of_number Suspended n id is = inl (cc)

told_of_number : (b : Versioning) (n : ℕ) (vs : List (Version (List ℕ))) (id : VersionId) → marker_told b n None vs ≡ Some id
    → IsOfNumber n id
told_of_number b n vs id is =
    elim (acts n None vs) as (λ x. cond x (marker_by b n None vs) None ≡ Some id → IsOfNumber n id) [
      | true ↦ marker_of_number b n id
      | false ↦ λ never. absurd (cc)
    ] is

row_of_number : (s : State) (name : List ℕ) (n : ℕ) (object : NamedObject) (key : List ℕ) (id : VersionId)
    → marker_in_row key (row_told object (marker_of s name n object)) ≡ Some id → IsOfNumber n id
row_of_number s name n (Object d) key id is =
    let b = versioning_of s name in
    let vs = versions_of s name d.key in
    elim d.version as (λ v. marker_in_row key (rows.Deleted d.key v (marker_told b n v vs)) ≡ Some id → IsOfNumber n id) [
      | None ↦ λ alone.
          elim (bytes_eq d.key key) as (λ x. cond x (marker_told b n None vs) None ≡ Some id → IsOfNumber n id) [
            | true ↦ told_of_number b n vs id
            | false ↦ λ never. absurd (cc)
          ] alone
      | Some named ↦ λ never. absurd (cc)
    ] is
row_of_number s name n (Fault fault) key id is = absurd (cc)

rows_of_number : (objects : List NamedObject) (s : State) (name : List ℕ) (n t : ℕ) (key : List ℕ)
    (row : DeletionRow) (id : VersionId)
    → Contains (rows_told objects (markers_of s name n t objects)) row → marker_in_row key row ≡ Some id → IsOfNumber n id
rows_of_number [] s name n t key row id within is = absurd (nothing_in [] row refl within)
rows_of_number (object ∷ objects) s name n t key row id within is =
    let next = deleted s name n t object in
    elim (first_or_later (row_told object (marker_of s name n object)) row
    (rows_told objects (markers_of next name n t objects)) within) [
      | inl same ↦ row_of_number s name n object key id (ap (marker_in_row key) same ∙ is)
      | inr later ↦ rows_of_number objects next name n t key row id later is
    ]

-- each id that is told of what a command made is so
abbrev TellsItsNumber : ℕ → Command → Stepped → Type 0
TellsItsNumber n command st =
    (a : Address) (id : VersionId) → Contains (writes command) a → Contains (ids_made command st.1 a) id → IsOfNumber n id

-- a refusal tells none
none_told : {P : Type 0} (id : VersionId) → Contains [] id → P
none_told id within = absurd (nothing_in [] id refl within)

-- and a command that writes nothing makes none
none_written : {P : Type 0} (a : Address) → Contains [] a → P
none_written a within = absurd (nothing_in [] a refl within)

copy_tells : (s : State) (n t : ℕ) (name key : List ℕ) (copy : ObjectCopy) (source : Result (Data (List ℕ)) Refusal)
    → TellsItsNumber n (commands.Key name key (key_commands.Copy copy)) (stepped s (source >>= copy_done s n t name key))
unfolding copy_done
copy_tells s n t name key copy (Ok what) a id written within = one_of_number (versioning_of s name) n id within
copy_tells s n t name key copy (Err refusal) a id written within = none_told id within

refused_tells : (code : Code) (s : State) (n : ℕ) (name key : List ℕ) (asked : KeyCommand)
    → TellsItsNumber n (commands.Key name key asked) (s, outcomes.Refused code false)
refused_tells code s n name key (key_commands.Delete (Some named)) a id written within = none_told id within
refused_tells code s n name key (key_commands.Delete None) a id written within = none_told id within
refused_tells code s n name key _ a id written within = none_told id within

key_tells : (s : State) (n t : ℕ) (name key : List ℕ) (asked : KeyCommand)
    → TellsItsNumber n (commands.Key name key asked) (stepped s (key_done s n t name key asked))
unfolding key_done copy_done
key_tells s n t name key (key_commands.Put put) =
    after_line (TellsItsNumber n (commands.Key name key (key_commands.Put put)))
    s (is_barred put.condition (tag_at s name key)) (barred_code (tag_at s name key)) _
    (λ a id written within. none_told id within)
    (λ free a id written within. one_of_number (versioning_of s name) n id within)
key_tells s n t name key (key_commands.Copy copy) = copy_tells s n t name key copy (copied s copy)
key_tells s n t name key (key_commands.Delete None) = λ a id written within. one_of_number (versioning_of s name) n id within
key_tells s n t name key (key_commands.Delete (Some named)) = λ a id written within. none_told id within
key_tells s n t name key (key_commands.DeleteMatching tags) =
    after_line (TellsItsNumber n (commands.Key name key (key_commands.DeleteMatching tags)))
    s (is_barred (write_conditions.IfMatch tags) (tag_at s name key)) (barred_code (tag_at s name key)) _
    (λ a id written within. none_told id within)
    (λ met a id written within. one_of_number (versioning_of s name) n id within)
key_tells s n t name key (key_commands.Read asked) = λ a id written within. none_written a written
key_tells s n t name key (key_commands.ReadTags version) = λ a id written within. none_written a written
key_tells s n t name key (key_commands.Begin begin) = λ a id written within. none_written a written

-- what is done with an upload, where it is open
open_tells : (n : ℕ) (command : Command) (s : State) (found : Option (Upload (List ℕ))) (next : Upload (List ℕ)
    → Result Stepped Refusal)
    → TellsItsNumber n command (s, outcomes.Refused NoSuchUpload false)
    → ((u : Upload (List ℕ)) → TellsItsNumber n command (stepped s (next u)))
    → TellsItsNumber n command (stepped s (as_refusal (ok_or found NoSuchUpload) >>= next))
open_tells n command s None next refused goes = refused
open_tells n command s (Some u) next refused goes = goes u

joined_tells : (s : State) (n t : ℕ) (name key : List ℕ) (id : ℕ) (listed : List ListedPart) (condition : WriteCondition)
    (rule : Result (Data (List ℕ)) Code)
    → TellsItsNumber n (commands.Upload name key id (upload_commands.Complete listed condition))
    (stepped s (as_refusal rule >>= completing s n t name key id))
joined_tells s n t name key id listed condition (Ok what) a made written within = one_of_number (versioning_of s name) n made within
joined_tells s n t name key id listed condition (Err code) a made written within = none_told made within

upload_tells : (rules : Rules) (s : State) (n t : ℕ) (name key : List ℕ) (id : ℕ) (asked : UploadCommand)
    → TellsItsNumber n (commands.Upload name key id asked) (stepped s (upload_done rules s n t name key id asked))
unfolding upload_done
upload_tells rules s n t name key id (upload_commands.Complete listed condition) =
    open_tells n (commands.Upload name key id (upload_commands.Complete listed condition)) s (upload_at s name key id) _
    (λ a made written within. none_told made within)
    (λ u. after_line (TellsItsNumber n (commands.Upload name key id (upload_commands.Complete listed condition)))
    s (is_barred condition (tag_at s name key)) (barred_code (tag_at s name key)) _
    (λ a made written within. none_told made within)
    (λ free. joined_tells s n t name key id listed condition (completed rules.least_part listed u)))
upload_tells rules s n t name key id (upload_commands.PutPart number payload) = λ a made written within. none_written a written
upload_tells rules s n t name key id (upload_commands.CopyPart number copy) = λ a made written within. none_written a written
upload_tells rules s n t name key id upload_commands.Abort = λ a made written within. none_written a written
upload_tells rules s n t name key id (upload_commands.ListParts asked) = λ a made written within. none_written a written

-- each row of several deletions
rows_tell : (s : State) (n t : ℕ) (name : List ℕ) (objects : List NamedObject) (key : List ℕ) (id : VersionId)
    → Contains (filter_map (marker_in_row key) (rows_told objects (markers_of s name n t objects))) id → IsOfNumber n id
rows_tell s n t name objects key id within =
    let row = made_of (marker_in_row key) (rows_told objects (markers_of s name n t objects)) id within in
    rows_of_number objects s name n t key row.0 id row.1 row.2

step_tells : (rules : Rules) (s : State) (n t : ℕ) (command : Command) → TellsItsNumber n command (step rules s n t command)
unfolding done
step_tells rules s n t commands.ListBuckets = λ a id written within. none_written a written
step_tells rules s n t (commands.Bucket name asked) = λ a id written within. none_written a written
step_tells rules s n t (commands.Key name key asked) =
    after_line (TellsItsNumber n (commands.Key name key asked)) s (not (has_bucket s name)) NoSuchBucket
    (key_done s n t name key asked)
    (refused_tells NoSuchBucket s n name key asked)
    (λ there. key_tells s n t name key asked)
step_tells rules s n t (commands.Upload name key id asked) =
    after_line (TellsItsNumber n (commands.Upload name key id asked)) s (not (has_bucket s name)) NoSuchBucket
    (upload_done rules s n t name key id asked)
    (λ a made written within. none_told made within)
    (λ there. upload_tells rules s n t name key id asked)
step_tells rules s n t (commands.DeleteObjects name deletion) =
    after_line (TellsItsNumber n (commands.DeleteObjects name deletion)) s (not (has_bucket s name)) NoSuchBucket _
    (λ a id written within. none_told id within)
    (λ there a id written within. rows_tell s n t name deletion.objects a.key id within)

-- ---- entries

entry_tells : (rules : Rules) (s : State) (n : ℕ) (e : Entry) (a : Address) (id : VersionId) → IsAnswer rules s n e
    → MakesVersion a id e
    → IsOfNumber e.answer.number id
entry_tells rules s n e a id answer makes =
    step_tells rules s e.answer.number e.moment e.command a id makes.written
    (subst (λ (o : Outcome). Contains (ids_made e.command o a) id) (outcome_is rules s n e answer) makes.told)

numbered_so : (n : ℕ) (id : VersionId) → id ≢ Null → IsOfNumber n id → id ≡ Numbered n
numbered_so n id other (inl is) = absurd (other is)
numbered_so n id other (inr is) = is

same_number : (m n : ℕ) → Numbered m ≡ Numbered n → m ≡ n
same_number m n is = cc

-- of two entries the later has the greater number
numbers_rise : (rules : Rules) (s : State) (n : ℕ) (entries before between later : List Entry) (one another : Entry)
    → Legal rules s n entries
    → entries ≡ before ++ one ∷ between ++ another ∷ later → one.answer.number < another.answer.number
numbers_rise rules s n entries before between later one another legal parts =
    let split = parts ∙ append_assoc before (one ∷ between) (another ∷ later) in
    let first = numbered_by rules (after rules s before) _ one
    (right_at rules s n entries before (between ++ another ∷ later) one legal split) in
    let second = numbered_by rules (after rules s (before ++ one ∷ between)) _ another
    (right_at rules s n entries (before ++ one ∷ between) later another legal parts) in
    omega (arith, first, second, length-append before (one ∷ between))

-- the entry's answer is right, behind all before it
whole_answer : (rules : Rules) (s : State) (n : ℕ) (entries before between later : List Entry) (one another : Entry)
    → Legal rules s n entries
    → entries ≡ before ++ one ∷ between ++ another ∷ later → IsAnswer rules (after rules s before) (n + length before) one
whole_answer rules s n entries before between later one another legal parts =
    right_at rules s n entries before (between ++ another ∷ later) one legal
    (parts ∙ append_assoc before (one ∷ between) (another ∷ later))

pub version_ids_are_told_once : EveryHistory VersionIdsAreToldOnce
version_ids_are_told_once rules s n entries legal before between later one another first second id parts other makes again =
    let rise = numbers_rise rules s n entries before between later one another legal parts in
    let answer = whole_answer rules s n entries before between later one another legal parts in
    let last = right_at rules s n entries (before ++ one ∷ between) later another legal parts in
    let here = numbered_so one.answer.number id other (entry_tells rules (after rules s before) _ one first id answer makes) in
    let there = numbered_so another.answer.number id other
    (entry_tells rules (after rules s (before ++ one ∷ between)) _ another second id last again) in
    let same = same_number one.answer.number another.answer.number (sym here ∙ there) in
    absurd (omega (arith, rise, same))

begun_under : (bucket key : List ℕ) (m n : ℕ)
    → outcomes.Told (documents.begun bucket key m) ≡ outcomes.Told (documents.begun bucket key n) → m ≡ n
begun_under bucket key m n is = cc

-- an entry that begins an upload is told its own number
begun_number : (rules : Rules) (s : State) (n : ℕ) (entries before later : List Entry) (e : Entry) (a : Address) (id : ℕ)
    → Legal rules s n entries → entries ≡ before ++ e ∷ later → BeginsUpload a id e → id ≡ e.answer.number
begun_number rules s n entries before later e a id legal parts begins =
    let here = after rules s before in
    let outcome = outcome_is rules here _ e (right_at rules s n entries before later e legal parts) in
    let told = begin_told rules here e.answer.number e.moment e.command a begins.asked begins.at
    (sym (ap succeeds outcome) ∙ ap succeeds begins.told) in
    begun_under a.bucket a.key id e.answer.number (sym begins.told ∙ outcome ∙ told)

pub upload_ids_are_told_once : EveryHistory UploadIdsAreToldOnce
upload_ids_are_told_once rules s n entries legal before between later one another first second id parts begins again =
    let rise = numbers_rise rules s n entries before between later one another legal parts in
    let split = parts ∙ append_assoc before (one ∷ between) (another ∷ later) in
    let here = begun_number rules s n entries before (between ++ another ∷ later) one first id legal split begins in
    let there = begun_number rules s n entries (before ++ one ∷ between) later another second id legal parts again in
    absurd (omega (arith, rise, here, there))

-- ---- new ids

-- the number of an entry is not below what comes after those before it
number_above : (rules : Rules) (s : State) (n : ℕ) (entries before between later : List Entry) (e : Entry) → Legal rules s n entries
    → entries ≡ (before ++ between) ++ e ∷ later → n + length before ≤ e.answer.number
number_above rules s n entries before between later e legal parts =
    let number = numbered_by rules (after rules s (before ++ between)) _ e
    (right_at rules s n entries (before ++ between) later e legal parts) in
    omega (arith, number, length-append before between)

-- an upload isn't open whose id isn't below a number that the ids of all are
unopened : (n : ℕ) (found : Option (Upload (List ℕ))) (id : ℕ) → (IsTrue (is_some found) → id < n) → n ≤ id → found ≡ None
unopened n None id below above = refl
unopened n (Some u) id below above = let less = below refl in absurd (omega arith)

module _ (left : HistoriesLeaveSound) where
  pub version_ids_are_new : LaterIsBelow (List ℕ) → EverySoundHistory VersionIdsAreNew
  version_ids_are_new later_below rules s n entries sound legal before between later e a id parts other makes =
      let joined = Legal-append rules s n before (between ++ e ∷ later)
      (subst (Legal rules s n) (parts ∙ append_assoc before between (e ∷ later)) legal) in
      let here = left rules s n before sound joined.0 in
      let answer = right_at rules s n entries (before ++ between) later e legal parts in
      let number = numbered_so e.answer.number id other
      (entry_tells rules (after rules s (before ++ between)) _ e a id answer makes) in
      let below = later_below (n + length before) e.answer.number (after rules s before)
      (number_above rules s n entries before between later e legal parts) here.versions in
      ap (version_at (after rules s before) a.bucket a.key) number
      ∙ none_made e.answer.number (versions_of (after rules s before) a.bucket a.key)
      (not_made e.answer.number (versions_of (after rules s before) a.bucket a.key) (below a.bucket a.key))

  pub upload_ids_are_new : EverySoundHistory UploadIdsAreNew
  upload_ids_are_new rules s n entries sound legal before between later e a upload parts begins =
      let joined = Legal-append rules s n before (between ++ e ∷ later)
      (subst (Legal rules s n) (parts ∙ append_assoc before between (e ∷ later)) legal) in
      let here = left rules s n before sound joined.0 in
      let number = begun_number rules s n entries (before ++ between) later e a upload.id legal parts begins in
      let above = number_above rules s n entries before between later e legal parts in
      unopened (n + length before) (open_at (after rules s before) upload) upload.id
      (here.uploads upload.address.bucket upload.address.key upload.id) (omega (arith, number, above))
