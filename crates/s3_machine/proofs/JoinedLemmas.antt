-- What a completion joins are the parts that were put last under each listed number, or stood there at the beginning.
use Rattle.std.proofs.Common.{◌≡◌, refl, sym, ap, ap₂, subst, ◌∙◌, Bool, true, false, not, ◌⊎◌, inl, inr, ℕ, List, [], ◌∷◌, ◌++◌, append_assoc, length, Option, Some, None, option_map, unwrap_or, Result, Ok, Err, ok_or, map as each}
use Rattle.std.proofs.lemmas.Bool.{false≢true, and_parts}
use Rattle.std.proofs.lemmas.List.{length-map}
use Rattle.std.proofs.lemmas.List.Concat.{concat_is}
use Rattle.std.proofs.lemmas.List.Folds.{flat_map-map}
use Rattle.std.proofs.lemmas.Option.{same_Some}
use Rattle.std.proofs.lemmas.Slice.Eq.{bytes_eq-Decides}
use Rattle.std.specs.List.{AllZip, concat, flat_map, list_all}
use Rattle.std.specs.Str.{bytes_eq}
use Rattle.md5.specs.Md5.{md5}
use Rattle.s3_terms.specs.declared.code.Code.{Code}
use Rattle.s3_terms.specs.declared.code.Code.TheVariants.{NoSuchBucket, NoSuchUpload}
use Rattle.s3_terms.specs.Fault.{◌>>◌, ◌>>=◌}
use Rattle.s3_names.specs.Tags.{joined_text}
use Rattle.s3_names.specs.declared.ids.VersionId.{VersionId}
use Rattle.s3_versions.specs.declared.version.Data.{Data}
use Rattle.s3_uploads.specs.Completion.{is_sent, completed}
use Rattle.s3_uploads.specs.Laws.{bytes_at, digest_at, Joins, CompletionsJoinTheListed, PutsAreUnderOneNumber}
use Rattle.s3_uploads.specs.Parts.{PartList, part_at, part_tag}
use Rattle.s3_uploads.specs.declared.listed.ListedPart.{ListedPart}
use Rattle.s3_uploads.specs.declared.part.Part.{Part}
use Rattle.s3_uploads.specs.declared.upload.Upload.{Upload}
use Rattle.s3_records.specs.Catalogue.{has_bucket}
use Rattle.s3_records.specs.OpenUploads.{upload_at}
use Rattle.s3_records.specs.Places.{ChangesAreByUpload}
use Rattle.s3_machine.specs.declared.command.Command.{Command}
use Rattle.s3_machine.specs.declared.command.Command.TheVariants as commands
use Rattle.s3_machine.specs.declared.command.UploadCommand.TheVariants as upload_commands
use Rattle.s3_machine.specs.declared.command.WriteCondition.{WriteCondition}
use Rattle.s3_machine.specs.declared.rules.Rules.{Rules}
use Rattle.s3_machine.specs.Effects.{UploadPlace, place_of, open_at, upload_stored, completes, object_of, stored_by, succeeds}
use Rattle.s3_machine.specs.Fault.{refuse, as_refusal}
use Rattle.s3_machine.specs.History.{Entry, Legal, after}
use Rattle.s3_machine.specs.Kept.{SparesVersion, ReadsVersion, EveryHistory, StoredIsKept, VersionsAreKept, StoredIsTold}
use Rattle.s3_machine.specs.Step.{State, tag_at, is_barred, barred_code, upload_done, done, stepped, step}
use Rattle.s3_machine.specs.Uploads.{begun_state, IsListedPart, IsListedOrStayed, PartsFrom, FromBegun, FromBase, AreJoined}
use Rattle.s3_machine.specs.UploadsKept.{CompletionsJoinWhatWasSent, CompletionsAreKept, CompletionVersionsAreKept}
use Rattle.s3_machine.proofs.CourseLemmas.{asked_of, Course, Stay, courses}
use Rattle.s3_machine.proofs.EffectLemmas.{after_line, completed_is, completing}
use Rattle.s3_machine.proofs.HistoryLemmas.{Legal-append}
use Rattle.s3_machine.proofs.KeptLemmas.{outcome_is}

-- ---- the listed parts of an upload

-- a part of a listed number is there, and has the listed tag
is_part : (found : Option (Part (List ℕ))) (listed : ListedPart)
    → unwrap_or (option_map (λ (part : Part (List ℕ)). bytes_eq (part_tag part) listed.tag) found) false ≡ true
    → (p : Part (List ℕ)) × (found ≡ Some p) × (bytes_eq (part_tag p) listed.tag ≡ true)
is_part None listed is = absurd (false≢true is)
is_part (Some p) listed is = (p, refl, is)

-- the part that was found, or one that has nothing
abbrev part_or_none : Option (Part (List ℕ)) → Part (List ℕ)
part_or_none None = record { digest = []; moment = 0; size = 0; body = [] }
part_or_none (Some p) = p

body_found : (found : Option (Part (List ℕ)))
    → (part_or_none found).body ≡ unwrap_or (option_map (λ (part : Part (List ℕ)). part.body) found) []
body_found None = refl
body_found (Some p) = refl

digest_found : (found : Option (Part (List ℕ)))
    → (part_or_none found).digest ≡ unwrap_or (option_map (λ (part : Part (List ℕ)). part.digest) found) []
digest_found None = refl
digest_found (Some p) = refl

-- what is joined of the same pieces is the same
same_pieces : {X : Type 0} (f g : X → List ℕ) → ((x : X) → f x ≡ g x) → (xs : List X) → flat_map f xs ≡ flat_map g xs
same_pieces f g same [] = refl
same_pieces f g same (x ∷ xs) = ap₂ (λ (piece rest : List ℕ). piece ++ rest) (same x) (same_pieces f g same xs)

-- the parts of the listed numbers, in the order in which they are listed
abbrev parts_made : PartList (List ℕ) → List ListedPart → List (Part (List ℕ))
parts_made parts listed = each (λ (part : ListedPart). part_or_none (part_at part.number parts)) listed

-- what they have of one kind, one part behind another
pieces_joined : (f : Part (List ℕ) → List ℕ) (g : ListedPart → List ℕ) (parts : PartList (List ℕ)) (listed : List ListedPart)
    → ((part : ListedPart) → f (part_or_none (part_at part.number parts)) ≡ g part)
    → concat (each f (parts_made parts listed)) ≡ flat_map g listed
pieces_joined f g parts listed same =
    let pick = λ (part : ListedPart). part_or_none (part_at part.number parts) in
    concat_is (each f (parts_made parts listed))
    ∙ flat_map-map (λ (b : List ℕ). b) f (parts_made parts listed)
    ∙ flat_map-map f pick listed
    ∙ same_pieces (λ (part : ListedPart). f (pick part)) g same listed

module _ (parts : PartList (List ℕ)) (IsIt : ListedPart → Part (List ℕ) → Type 0)
    (known : (listed : ListedPart) (p : Part (List ℕ)) → part_at listed.number parts ≡ Some p → listed.tag ≡ part_tag p → IsIt listed p) where
  -- what is known of the parts of listed numbers that have the listed tags is so of those that are listed
  part_listed : (listed : ListedPart) → is_sent parts listed ≡ true → IsIt listed (part_or_none (part_at listed.number parts))
  part_listed listed is =
      let there = is_part (part_at listed.number parts) listed is in
      subst (IsIt listed) (sym (ap part_or_none there.1))
      (known listed there.0 there.1 (sym ((bytes_eq-Decides (part_tag there.0) listed.tag).0 there.2)))

  all_listed : (listed : List ListedPart) → list_all (is_sent parts) listed ≡ true → AllZip IsIt listed (parts_made parts listed)
  all_listed [] is = tt
  all_listed (part ∷ rest) is =
      let both = and_parts (is_sent parts part) (list_all (is_sent parts) rest) is in
      (part_listed part both.0, all_listed rest both.1)

-- where the listed parts are from of an upload that an entry began, or that stayed
parts_from : (rules : Rules) (s : State) (past : List Entry) (upload : UploadPlace) (u : Upload (List ℕ)) (listed : List ListedPart)
    → Course rules s past upload u ⊎ Stay rules s past upload u → list_all (is_sent u.parts) listed ≡ true
    → PartsFrom rules s past upload listed u.moment (asked_of u) (parts_made u.parts listed)
parts_from rules s past upload u listed (inl course) sent =
    let start = begun_state rules s course.begun in
    let since = course.begun.since in
    FromBegun course.begun
    (all_listed u.parts (IsListedPart rules start since upload)
    (λ part p there tag. record { last = course.sent part.number p there; tag = tag }) listed sent)
parts_from rules s past upload u listed (inr stay) sent =
    FromBase stay.stayed
    (all_listed u.parts (IsListedOrStayed rules s past upload)
    (λ part p there tag. record { last = stay.parts part.number p there; tag = tag }) listed sent)

-- there are as many parts as are listed
made_long : (parts : PartList (List ℕ)) (listed : List ListedPart) → length (parts_made parts listed) ≡ length listed
made_long parts listed = length-map listed (λ (part : ListedPart). part_or_none (part_at part.number parts))

-- what is joined of the parts of an upload that takes this course
joined_of : (rules : Rules) (s : State) (past : List Entry) (upload : UploadPlace) (u : Upload (List ℕ)) (listed : List ListedPart)
    (what : Data (List ℕ))
    → Course rules s past upload u ⊎ Stay rules s past upload u → Joins listed u what → AreJoined rules s past upload listed what
joined_of rules s past upload u listed what course joins =
    let made = parts_made u.parts listed in
    let body = λ (part : Part (List ℕ)). part.body in
    let digest = λ (part : Part (List ℕ)). part.digest in
    let bodies : concat (each body made) ≡ flat_map (λ (part : ListedPart). bytes_at u.parts part.number) listed =
    pieces_joined body (λ (part : ListedPart). bytes_at u.parts part.number) u.parts listed
    (λ (part : ListedPart). body_found (part_at part.number u.parts)) in
    let digests : concat (each digest made) ≡ flat_map (λ (part : ListedPart). digest_at u.parts part.number) listed =
    pieces_joined digest (λ (part : ListedPart). digest_at u.parts part.number) u.parts listed
    (λ (part : ListedPart). digest_found (part_at part.number u.parts)) in
    let size = made_long u.parts listed in
    record {
      moment = u.moment;
      asked = asked_of u;
      made = made;
      parts = parts_from rules s past upload u listed course joins.sent;
      body = joins.bytes ∙ sym bodies;
      size = joins.size;
      tag = joins.tag ∙ ap (λ (d : List ℕ). joined_text (md5 d) (length listed)) (sym digests)
          ∙ ap (joined_text (md5 (concat (each digest made)))) (sym size);
      content_type = joins.content_type;
      metadata = joins.metadata;
    }

-- ---- a completion that succeeds

-- the upload was open, and what it joins is stored
pub record IsCompleted (rules : Rules) (s : State) (n t : ℕ) (command : Command) (upload : UploadPlace) (listed : List ListedPart) : Type 0 where
  pub found : Upload (List ℕ)
  pub there : open_at s upload ≡ Some found
  pub what : Data (List ℕ)
  pub rule : completed rules.least_part listed found ≡ Ok what
  pub by : stored_by s n t command ≡ Some (object_of s n t upload.address what)

rule_ok : (rules : Rules) (s : State) (n t : ℕ) (name key : List ℕ) (id : ℕ) (listed : List ListedPart) (condition : WriteCondition) (found : Upload (List ℕ))
    (rule : Result (Data (List ℕ)) Code)
    → upload_at s name key id ≡ Some found → completed rules.least_part listed found ≡ rule
    → succeeds (stepped s (as_refusal rule >>= completing s n t name key id)).1 ≡ true
    → IsCompleted rules s n t (commands.Upload name key id (upload_commands.Complete listed condition)) (place_of name key id) listed
rule_ok rules s n t name key id listed condition found (Ok what) there is success = record {
  found = found;
  there = there;
  what = what;
  rule = is;
  by = ap (λ (u : Option (Upload (List ℕ))). option_map (object_of s n t (place_of name key id).address) (upload_stored u (upload_commands.Complete listed condition))) there
      ∙ ap (λ (d : Data (List ℕ)). Some (object_of s n t (place_of name key id).address d)) (completed_is rules.least_part listed found what is);
}
rule_ok rules s n t name key id listed condition found (Err code) there is success = absurd (false≢true success)

-- behind its condition
free_ok : (rules : Rules) (s : State) (n t : ℕ) (name key : List ℕ) (id : ℕ) (listed : List ListedPart) (condition : WriteCondition) (found : Upload (List ℕ))
    (barred : Bool) (code : Code)
    → upload_at s name key id ≡ Some found
    → succeeds (stepped s (refuse barred code >> (as_refusal (completed rules.least_part listed found) >>= completing s n t name key id))).1 ≡ true
    → IsCompleted rules s n t (commands.Upload name key id (upload_commands.Complete listed condition)) (place_of name key id) listed
free_ok rules s n t name key id listed condition found true code there success = absurd (false≢true success)
free_ok rules s n t name key id listed condition found false code there success =
    rule_ok rules s n t name key id listed condition found (completed rules.least_part listed found) there refl success

open_ok : (rules : Rules) (s : State) (n t : ℕ) (name key : List ℕ) (id : ℕ) (listed : List ListedPart) (condition : WriteCondition)
    (found : Option (Upload (List ℕ)))
    → upload_at s name key id ≡ found
    → succeeds (stepped s (as_refusal (ok_or found NoSuchUpload)
    >>= (λ (u : Upload (List ℕ)). refuse (is_barred condition (tag_at s name key)) (barred_code (tag_at s name key))
    >> (as_refusal (completed rules.least_part listed u) >>= completing s n t name key id)))).1 ≡ true
    → IsCompleted rules s n t (commands.Upload name key id (upload_commands.Complete listed condition)) (place_of name key id) listed
open_ok rules s n t name key id listed condition None is success = absurd (false≢true success)
open_ok rules s n t name key id listed condition (Some found) is success =
    free_ok rules s n t name key id listed condition found (is_barred condition (tag_at s name key))
    (barred_code (tag_at s name key)) is success

step_completed : (rules : Rules) (s : State) (n t : ℕ) (name key : List ℕ) (id : ℕ) (listed : List ListedPart) (condition : WriteCondition)
    → succeeds (step rules s n t (commands.Upload name key id (upload_commands.Complete listed condition))).1 ≡ true
    → IsCompleted rules s n t (commands.Upload name key id (upload_commands.Complete listed condition)) (place_of name key id) listed
unfolding done upload_done
step_completed rules s n t name key id listed condition =
    let command = commands.Upload name key id (upload_commands.Complete listed condition) in
    after_line (λ st. succeeds st.1 ≡ true → IsCompleted rules s n t command (place_of name key id) listed)
    s (not (has_bucket s name)) NoSuchBucket (upload_done rules s n t name key id (upload_commands.Complete listed condition))
    (λ success. absurd (false≢true success))
    (λ there success. open_ok rules s n t name key id listed condition (upload_at s name key id) refl success)

pub command_completed : (rules : Rules) (s : State) (n t : ℕ) (command : Command) (upload : UploadPlace) (listed : List ListedPart)
    → completes command ≡ Some (upload, listed) → succeeds (step rules s n t command).1 ≡ true
    → IsCompleted rules s n t command upload listed
command_completed rules s n t (commands.Upload name key id (upload_commands.Complete parts condition)) upload listed asks success =
    let same = same_Some (place_of name key id, parts) (upload, listed) asks in
    subst (λ (p : UploadPlace × List ListedPart). IsCompleted rules s n t (commands.Upload name key id (upload_commands.Complete parts condition)) p.0 p.1) same
    (step_completed rules s n t name key id parts condition success)
command_completed rules s n t _ upload listed asks success = absurd (cc)

module _ (law : ChangesAreByUpload (List ℕ)) (puts : PutsAreUnderOneNumber (List ℕ)) (joins : CompletionsJoinTheListed) where
  pub completions_join_what_was_sent : EveryHistory CompletionsJoinWhatWasSent
  completions_join_what_was_sent rules s n entries legal before later complete upload listed parts completes =
      let here = after rules s before in
      let joined = Legal-append rules s n before (complete ∷ later) (subst (Legal rules s n) parts legal) in
      let outcome = ap succeeds (outcome_is rules here _ complete joined.1.0) in
      let done = command_completed rules here complete.answer.number complete.moment complete.command upload listed completes.asks
      (sym outcome ∙ completes.accepted) in
      let course = courses law puts rules s n before joined.0 upload done.found done.there in (
        done.what,
        joined_of rules s before upload done.found listed done.what course (joins rules.least_part listed done.found done.what done.rule),
        record { by = done.by; accepted = completes.accepted },
      )

module _ (law : EveryHistory CompletionsJoinWhatWasSent) where
  pub completions_are_kept : EveryHistory StoredIsKept → EveryHistory CompletionsAreKept
  completions_are_kept kept rules s n entries legal before between later complete read upload listed parts completes leaves reads =
      let split = parts ∙ append_assoc before (complete ∷ between) (read ∷ later) in
      let stored = law rules s n entries legal before (between ++ read ∷ later) complete upload listed split completes in
      (stored.0, stored.1, kept rules s n entries legal before between later complete read _ parts stored.2 leaves reads)

  pub completion_versions_are_kept : EveryHistory StoredIsTold → EveryHistory VersionsAreKept → EveryHistory CompletionVersionsAreKept
  completion_versions_are_kept tells kept rules s n entries legal before between later complete read upload listed id parts completes
      touches spares reads =
      let here = after rules s before in
      let split = parts ∙ append_assoc before (complete ∷ between) (read ∷ later) in
      let stored = law rules s n entries legal before (between ++ read ∷ later) complete upload listed split completes in
      let object = object_of here complete.answer.number complete.moment upload.address stored.0 in
      let told = tells rules s n entries legal before (between ++ read ∷ later) complete object split stored.2 in
      let same : id ≡ object.id = cc (touches, told.under) in (
        stored.0,
        stored.1,
        kept rules s n entries legal before between later complete read object parts stored.2
            (subst (λ (i : VersionId). SparesVersion upload.address i between) same spares)
            (subst (λ (i : VersionId). ReadsVersion upload.address i read) same reads),
      )
