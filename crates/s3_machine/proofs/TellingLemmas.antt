-- What is told of uploads: by answers, and by lists.
use Rattle.std.proofs.Common.{◌≡◌, ◌≢◌, refl, sym, ap, subst, ◌∙◌, ◌↔◌, arith, Bool, true, false, not, cond, ℕ, nat_eq, zero, suc, IsTrue, List, [], ◌∷◌, filter, Contains, Option, Some, None, option_map, Result, Ok, Err, ok_or}
use Rattle.std.proofs.lemmas.Bool.{false≢true}
use Rattle.std.proofs.lemmas.List.Elements.{All-filter, All-contains, All-contains_itself}
use Rattle.std.proofs.lemmas.Option.{same_Some}
use Rattle.std.specs.List.{starts_with}
use Rattle.std.specs.Result.{result_ok}
use Rattle.s3_terms.specs.declared.code.Code.{Code}
use Rattle.s3_terms.specs.declared.code.Code.TheVariants.{NoSuchBucket, InvalidArgument, NoSuchUpload}
use Rattle.s3_terms.specs.Fault.{◌>>◌, ◌>>=◌}
use Rattle.s3_names.specs.declared.ids.VersionId.{VersionId}
use Rattle.s3_bodies.specs.Payload.{tag_of}
use Rattle.s3_versions.specs.declared.picking.Refusal.{Refusal}
use Rattle.s3_versions.specs.declared.version.Data.{Data}
use Rattle.s3_uploads.specs.Completion.{completed}
use Rattle.s3_uploads.specs.Laws.{PutsAreUnderOneNumber}
use Rattle.s3_uploads.specs.Parts.{part_tag, part_sent}
use Rattle.s3_uploads.specs.declared.listed.ListedPart.{ListedPart}
use Rattle.s3_uploads.specs.declared.part.Part.{Part}
use Rattle.s3_uploads.specs.declared.upload.Upload.{Upload}
use Rattle.s3_records.specs.Catalogue.{has_bucket}
use Rattle.s3_records.specs.Laws.{UploadsAreListed}
use Rattle.s3_records.specs.OpenUploads.{upload_at, parts_sent, parts_at, is_upload_from, upload_rows}
use Rattle.s3_records.specs.Places.{ChangesAreByPlace, ChangesAreByUpload}
use Rattle.s3_records.specs.Rows.{is_from}
use Rattle.s3_records.specs.declared.rows.Start.TheVariants.{Behind}
use Rattle.s3_records.specs.declared.rows.UploadRow.{UploadRow}
use Rattle.s3_records.specs.declared.rows.UploadStart.TheVariants.{At}
use Rattle.s3_listings.specs.declared.asked.PartsAsked.{PartsAsked}
use Rattle.s3_listings.specs.declared.asked.UploadsAsked.{UploadsAsked}
use Rattle.s3_listings.specs.Parts.{parts_page}
use Rattle.s3_listings.specs.Uploads.{is_asked, upload_rows_asked, uploads_told}
use Rattle.s3_documents.specs.Document as documents
use Rattle.s3_machine.specs.declared.command.BucketCommand.TheVariants as bucket_commands
use Rattle.s3_machine.specs.declared.command.Command.{Command}
use Rattle.s3_machine.specs.declared.command.Command.TheVariants as commands
use Rattle.s3_machine.specs.declared.command.KeyCommand.TheVariants as key_commands
use Rattle.s3_machine.specs.declared.command.Outcome.{Outcome}
use Rattle.s3_machine.specs.declared.command.Outcome.TheVariants as outcomes
use Rattle.s3_machine.specs.declared.command.CopyRange.{CopyRange}
use Rattle.s3_machine.specs.declared.command.Description.{Description}
use Rattle.s3_machine.specs.declared.command.Found.{Found}
use Rattle.s3_machine.specs.declared.command.PartCopy.{PartCopy}
use Rattle.s3_machine.specs.declared.command.UploadCommand.{UploadCommand}
use Rattle.s3_machine.specs.declared.command.UploadCommand.TheVariants as upload_commands
use Rattle.s3_machine.specs.declared.rules.Rules.{Rules}
use Rattle.s3_machine.specs.Bases.{EverySoundHistory}
use Rattle.s3_machine.specs.Effects.{Address, UploadPlace, Read, place_of, open_at, part_in, begins, sent, copied_part, puts_part, source_read, copies_part, completes, succeeds}
use Rattle.s3_machine.specs.Fault.{refuse, as_refusal}
use Rattle.s3_machine.specs.History.{after, after_entry}
use Rattle.s3_machine.specs.Kept.{WouldGive, EveryHistory}
use Rattle.s3_machine.specs.Laws.{asking, ClosedUploadsAreRefused}
use Rattle.s3_machine.specs.Step.{State, Stepped, tag_at, is_barred, barred_code, source_found, lies_in, part_copied, bucket_done, key_done, upload_done, done, stepped, step}
use Rattle.s3_machine.specs.Uploads.{IsOpen}
use Rattle.s3_machine.specs.UploadsKept.{all_uploads, UploadsAreOpenUntilEnded, BegunIsTold, SentIsTold, CopiedPartIsTold, CompletedIsTold, UploadsAreListedWhileOpen, OnlyWritesChangeVersions}
use Rattle.s3_machine.proofs.AnswerLemmas.{would_find}
use Rattle.s3_machine.proofs.ContainsLemmas.{contains_later}
use Rattle.s3_machine.proofs.CourseLemmas.{asked_of}
use Rattle.s3_machine.proofs.EffectLemmas.{FollowRules, versions_at, after_line, part_copying, completing}
use Rattle.s3_machine.proofs.HistoryLemmas.{after-push, right_at}
use Rattle.s3_machine.proofs.KeptLemmas.{outcome_is, past_line, versions_left}
use Rattle.s3_machine.proofs.ListLemmas.{page_told}
use Rattle.s3_machine.proofs.StayLemmas.{opened, begins_it, sends_it}

-- ---- answers

-- what succeeds is told this
abbrev pub TellsWhere : (Outcome → Type 0) → Stepped → Type 0
TellsWhere P st = succeeds st.1 ≡ true → P st.1

-- behind a line that may refuse
told_line : (P : Outcome → Type 0) (s : State) (fault : Bool) (code : Code) (next : Result Stepped Refusal) → TellsWhere P (stepped s next)
    → TellsWhere P (stepped s (refuse fault code >> next))
told_line P s fault code next tells =
    after_line (TellsWhere P) s fault code next (λ success. absurd (false≢true success)) (λ there. tells)

-- and where an upload may not be open
told_open : (P : Outcome → Type 0) (s : State) (found : Option (Upload (List ℕ))) (next : Upload (List ℕ) → Result Stepped Refusal)
    → ((u : Upload (List ℕ)) → found ≡ Some u → TellsWhere P (stepped s (next u)))
    → TellsWhere P (stepped s (as_refusal (ok_or found NoSuchUpload) >>= next))
told_open P s None next tells success = absurd (false≢true success)
told_open P s (Some u) next tells success = tells u refl success

pub begin_told : (rules : Rules) (s : State) (n t : ℕ) (command : Command) (a : Address) (asked : Description) → begins command ≡ Some (a, asked)
    → TellsWhere (λ o. o ≡ outcomes.Told (documents.begun a.bucket a.key n)) (step rules s n t command)
unfolding done key_done
begin_told rules s n t (commands.Key bucket key (key_commands.Begin begin)) a asked is =
    let both = same_Some ((record { bucket = bucket; key = key }), begin) (a, asked) is in
    told_line (λ o. o ≡ outcomes.Told (documents.begun a.bucket a.key n)) s (not (has_bucket s bucket)) NoSuchBucket
    (key_done s n t bucket key (key_commands.Begin begin))
    (λ success. ap (λ (p : Address × Description). outcomes.Told (documents.begun p.0.bucket p.0.key n)) both)
begin_told rules s n t _ a asked is = absurd (cc)

send_told : (rules : Rules) (s : State) (n t : ℕ) (command : Command) (bytes : List ℕ) → sent command ≡ Some bytes
    → TellsWhere (λ o. o ≡ outcomes.PartPut (tag_of bytes)) (step rules s n t command)
unfolding done upload_done
send_told rules s n t (commands.Upload name key id (upload_commands.PutPart number payload)) bytes brings =
    let same = same_Some payload bytes brings in
    let P : Outcome → Type 0 = λ o. o ≡ outcomes.PartPut (tag_of bytes) in
    told_line P s (not (has_bucket s name)) NoSuchBucket (upload_done rules s n t name key id (upload_commands.PutPart number payload))
    (told_open P s (upload_at s name key id) _ (λ u is success. ap (λ (b : List ℕ). outcomes.PartPut (tag_of b)) same))
send_told rules s n t _ bytes brings = absurd (cc)

-- the part that it puts
sent_puts : (s : State) (t : ℕ) (command : Command) (bytes : List ℕ) → sent command ≡ Some bytes → puts_part s t command ≡ Some (part_sent t bytes)
sent_puts s t (commands.Upload name key id (upload_commands.PutPart number payload)) bytes brings =
    ap (λ (b : List ℕ). Some (part_sent t b)) (same_Some payload bytes brings)
sent_puts s t _ bytes brings = absurd (cc)

module _ (law : ChangesAreByUpload (List ℕ)) (puts : PutsAreUnderOneNumber (List ℕ)) where
  pub begun_is_told : EveryHistory BegunIsTold
  begun_is_told rules s n entries legal before later begin address asked parts at accepted =
      let here = after rules s before in
      let right = right_at rules s n entries before later begin legal parts in
      let outcome = outcome_is rules here _ begin right in
      let upload : UploadPlace = record { address = address; id = begin.answer.number } in (
        begin.answer.number,
        outcome
            ∙ begin_told rules here begin.answer.number begin.moment begin.command address asked at (sym (ap succeeds outcome) ∙ accepted),
        subst (λ (state : State). IsOpen state upload begin.moment asked) (sym (after-push rules s before begin))
            (opened (after_entry rules here begin) upload begin.moment asked
            (begins_it law puts rules here _ begin upload asked right (record { at = at; numbered = refl; accepted = accepted }))),
      )

  pub sent_is_told : EveryHistory SentIsTold
  sent_is_told rules s n entries legal before later send part bytes parts sends =
      let here = after rules s before in
      let right = right_at rules s n entries before later send legal parts in
      let outcome = outcome_is rules here _ send right in
      let what = part_sent send.moment bytes in
      let put = sends_it law puts rules here _ send part what right
      (record { at = sends.at; puts = sent_puts here send.moment send.command bytes sends.brings; accepted = sends.accepted }) in (
        what,
        ap (λ (state : State). part_in state part) (after-push rules s before send) ∙ put.now,
        outcome
            ∙ send_told rules here send.answer.number send.moment send.command bytes sends.brings (sym (ap succeeds outcome) ∙ sends.accepted),
      )

-- of a part that is copied it is told what it is, and what a read of its source would be told
abbrev TellsCopied : State → ℕ → Part (List ℕ) → Read → Option CopyRange → Outcome → Type 0
TellsCopied s t what asked range outcome =
    (source : Data (List ℕ)) × (gives : WouldGive s asked source) × (what ≡ part_copied t range source)
    × (outcome ≡ outcomes.PartCopied (part_tag what) t gives.found.shown)

copying_told : (s : State) (t : ℕ) (name key : List ℕ) (id number : ℕ) (copy : PartCopy) (source : Result (Found (List ℕ)) Refusal)
    (what : Part (List ℕ))
    → source_found s copy.source ≡ source → option_map (copied_part t copy) (result_ok source) ≡ Some what
    → TellsWhere (TellsCopied s t what (source_read copy.source) copy.range)
    (stepped s (source >>= part_copying s t name key id number copy))
copying_told s t name key id number copy (Ok found) what is puts =
    let same = same_Some (copied_part t copy found) what puts in
    let gives = would_find s copy.source found is in
    told_line (TellsCopied s t what (source_read copy.source) copy.range) s (not (lies_in copy.range found.stored.size)) InvalidArgument _
    (λ success. (
      found.stored,
      gives.0,
      sym same,
      ap (λ (p : Part (List ℕ)). outcomes.PartCopied (part_tag p) t found.shown) same
          ∙ ap (λ (f : Found (List ℕ)). outcomes.PartCopied (part_tag what) t f.shown) (sym gives.1),
    ))
copying_told s t name key id number copy (Err refusal) what is puts = λ success. absurd (false≢true success)

copy_told : (rules : Rules) (s : State) (n t : ℕ) (command : Command) (what : Part (List ℕ)) (asked : Read) (range : Option CopyRange)
    → copies_part command ≡ Some (asked, range) → puts_part s t command ≡ Some what
    → TellsWhere (TellsCopied s t what asked range) (step rules s n t command)
unfolding done upload_done
copy_told rules s n t (commands.Upload name key id (upload_commands.CopyPart number copy)) what asked range from puts =
    let same = same_Some (source_read copy.source, copy.range) (asked, range) from in
    let P = TellsCopied s t what (source_read copy.source) copy.range in
    subst (λ (p : Read × Option CopyRange). TellsWhere (TellsCopied s t what p.0 p.1) (step rules s n t (commands.Upload name key id (upload_commands.CopyPart number copy)))) same
    (told_line P s (not (has_bucket s name)) NoSuchBucket (upload_done rules s n t name key id (upload_commands.CopyPart number copy))
    (told_open P s (upload_at s name key id) _
    (λ u is. copying_told s t name key id number copy (source_found s copy.source) what refl puts)))
copy_told rules s n t _ what asked range from puts = absurd (cc)

pub copied_part_is_told : EveryHistory CopiedPartIsTold
copied_part_is_told rules s n entries legal before later copy part what asked range parts sends from =
    let outcome = outcome_is rules (after rules s before) _ copy (right_at rules s n entries before later copy legal parts) in
    subst (TellsCopied (after rules s before) copy.moment what asked range) (sym outcome)
    (copy_told rules (after rules s before) copy.answer.number copy.moment copy.command what asked range from sends.puts
    (sym (ap succeeds outcome) ∙ sends.accepted))

-- a tag is told of a completion
abbrev TellsTag : Address → Outcome → Type 0
TellsTag a outcome = (tag : List ℕ) × (shown : Option VersionId) × (outcome ≡ outcomes.Completed (documents.completed a.bucket a.key tag) tag shown)

rule_told : (s : State) (n t : ℕ) (name key : List ℕ) (id : ℕ) (rule : Result (Data (List ℕ)) Code)
    → TellsWhere (TellsTag (record { bucket = name; key = key })) (stepped s (as_refusal rule >>= completing s n t name key id))
rule_told s n t name key id (Ok what) success = (what.tag, _, refl)
rule_told s n t name key id (Err code) success = absurd (false≢true success)

complete_told : (rules : Rules) (s : State) (n t : ℕ) (command : Command) (upload : UploadPlace) (listed : List ListedPart)
    → completes command ≡ Some (upload, listed) → TellsWhere (TellsTag upload.address) (step rules s n t command)
unfolding done upload_done
complete_told rules s n t (commands.Upload name key id (upload_commands.Complete parts condition)) upload listed asks =
    let same = same_Some (place_of name key id, parts) (upload, listed) asks in
    let P = TellsTag (record { bucket = name; key = key }) in
    subst (λ (p : UploadPlace × List ListedPart). TellsWhere (TellsTag p.0.address) (step rules s n t (commands.Upload name key id (upload_commands.Complete parts condition)))) same
    (told_line P s (not (has_bucket s name)) NoSuchBucket (upload_done rules s n t name key id (upload_commands.Complete parts condition))
    (told_open P s (upload_at s name key id) _
    (λ u is. told_line P s (is_barred condition (tag_at s name key)) (barred_code (tag_at s name key)) _ (rule_told s n t name key id (completed rules.least_part parts u)))))
complete_told rules s n t _ upload listed asks = absurd (cc)

pub completed_is_told : EveryHistory CompletedIsTold
completed_is_told rules s n entries legal before later complete upload listed parts completes =
    let outcome = outcome_is rules (after rules s before) _ complete (right_at rules s n entries before later complete legal parts) in
    subst (TellsTag upload.address) (sym outcome)
    (complete_told rules (after rules s before) complete.answer.number complete.moment complete.command upload listed completes.asks
    (sym (ap succeeds outcome) ∙ completes.accepted))

-- ---- rules

-- where a bucket is there, what is asked of an upload goes by what is found of it
past_bucket : (rules : Rules) (s : State) (n t : ℕ) (upload : UploadPlace) (asked : UploadCommand) → IsTrue (has_bucket s upload.address.bucket)
    → step rules s n t (asking upload asked)
    ≡ stepped s (upload_done rules s n t upload.address.bucket upload.address.key upload.id asked)
unfolding done
past_bucket rules s n t upload asked there = past_line s (not (has_bucket s upload.address.bucket)) _ (ap not there)

closed_done : (rules : Rules) (s : State) (n t : ℕ) (name key : List ℕ) (id : ℕ) (asked : UploadCommand) → upload_at s name key id ≡ None
    → (stepped s (upload_done rules s n t name key id asked)).1 ≡ outcomes.Refused NoSuchUpload false
unfolding upload_done
closed_done rules s n t name key id (upload_commands.PutPart number payload) none = rw none refl
closed_done rules s n t name key id other none = rw none refl

pub closed_uploads_are_refused : ClosedUploadsAreRefused
closed_uploads_are_refused rules s n t upload asked there none =
    ap (λ (st : Stepped). st.1) (past_bucket rules s n t upload asked there)
    ∙ closed_done rules s n t upload.address.bucket upload.address.key upload.id asked none

-- ---- lists

pub uploads_step : (rules : Rules) (s : State) (n t : ℕ) (name : List ℕ) (asked : UploadsAsked)
    → succeeds (step rules s n t (commands.Bucket name (bucket_commands.ListUploads asked))).1 ≡ true
    → (step rules s n t (commands.Bucket name (bucket_commands.ListUploads asked))).1
    ≡ outcomes.Told (documents.uploads name asked (uploads_told asked s name))
unfolding done bucket_done
uploads_step rules s n t name asked success = page_told s (not (has_bucket s name)) _ success

pub parts_step : (rules : Rules) (s : State) (n t : ℕ) (name key : List ℕ) (id : ℕ) (asked : PartsAsked)
    → TellsWhere (λ o. o ≡ outcomes.Told (documents.parts name key id asked (parts_page asked (parts_at s name key id))))
    (step rules s n t (commands.Upload name key id (upload_commands.ListParts asked)))
unfolding done upload_done
parts_step rules s n t name key id asked =
    let P : Outcome → Type 0 = λ o. o ≡ outcomes.Told (documents.parts name key id asked (parts_page asked (parts_at s name key id))) in
    told_line P s (not (has_bucket s name)) NoSuchBucket (upload_done rules s n t name key id (upload_commands.ListParts asked))
    (told_open P s (upload_at s name key id) _
    (λ u is success. ap (λ (found : Option (Upload (List ℕ))). outcomes.Told (documents.parts name key id asked (parts_page asked (parts_sent found)))) (sym is)))

-- what passes a test is kept with those that do
pub kept_by : {X : Type 0} (p : X → Bool) (xs : List X) (x : X) → p x ≡ true → Contains xs x → Contains (filter p xs) x
kept_by p [] x passes (k, within, is) = absurd (omega arith)
kept_by p (y ∷ ys) x passes (zero, within, is) =
    let here : Contains (y ∷ filter p ys) x = (0, omega arith, is) in
    subst (λ b. Contains (cond b (y ∷ filter p ys) (filter p ys)) x) (sym (ap p is ∙ passes)) here
kept_by p (y ∷ ys) x passes (suc k, within, is) =
    let rest = kept_by p ys x passes (k, omega arith, is) in
    elim (p y) as (λ b. Contains (cond b (y ∷ filter p ys) (filter p ys)) x) [
      | true ↦ contains_later y x (filter p ys) rest
      | false ↦ rest
    ]

pub was_there : {X : Type 0} (p : X → Bool) (xs : List X) (x : X) → Contains (filter p xs) x → Contains xs x
was_there p xs x = All-contains (Contains xs) (filter p xs) x (All-filter p (Contains xs) xs (All-contains_itself xs))

-- each row is asked for whose key isn't empty
pub behind_none : (key : List ℕ) → key ≢ [] → is_from (Behind []) key ≡ true
behind_none [] some = absurd (some refl)
behind_none (b ∷ bs) some = refl

pub begins_empty : (key : List ℕ) → starts_with nat_eq key [] ≡ true
begins_empty [] = refl
begins_empty (b ∷ bs) = refl

is_asked_all : (row : UploadRow) → is_asked all_uploads row ≡ true
is_asked_all row = begins_empty row.key

is_behind_none : (row : UploadRow) → row.key ≢ [] → is_upload_from (At (Behind [])) row ≡ true
is_behind_none row some = behind_none row.key some

-- so the list of all has all rows
all_rows : (s : State) (name : List ℕ) (row : UploadRow) → row.key ≢ []
    → Contains (upload_rows s name) row ↔ Contains (upload_rows_asked all_uploads s name) row
all_rows s name row some = (
  λ there.
      kept_by (is_asked all_uploads) (filter (is_upload_from (At (Behind []))) (upload_rows s name)) row (is_asked_all row)
      (kept_by (is_upload_from (At (Behind []))) (upload_rows s name) row (is_behind_none row some) there),
  λ there.
      was_there (is_upload_from (At (Behind []))) (upload_rows s name) row
      (was_there (is_asked all_uploads) (filter (is_upload_from (At (Behind []))) (upload_rows s name)) row there),
)

-- an upload of a moment
found_at : (found : Option (Upload (List ℕ))) (t : ℕ) → option_map (λ (u : Upload (List ℕ)). u.moment) found ≡ Some t
    → (u : Upload (List ℕ)) × (found ≡ Some u) × (u.moment ≡ t)
found_at None t is = absurd (cc)
found_at (Some u) t is = (u, refl, cc)

module _ (listed : UploadsAreListed (List ℕ)) where
  pub uploads_are_listed_while_open : EverySoundHistory UploadsAreOpenUntilEnded → EverySoundHistory UploadsAreListedWhileOpen
  uploads_are_listed_while_open law rules s n entries sound legal upload t some =
      let there = after rules s entries in
      let row : UploadRow = record { key = upload.address.key; id = upload.id; moment = t } in
      let rows = all_rows there upload.address.bucket row some in
      let is = listed there upload.address.bucket row in (
        λ shown.
            let found = found_at (open_at there upload) t (is.1 (rows.1 shown)) in
            let asked = asked_of found.0 in (
              asked,
              (law rules s n entries sound legal upload t asked).0 (record {
                found = found.0;
                there = found.1;
                moment = found.2;
                content_type = refl;
                metadata = refl;
              }),
            ),
        λ (asked, begun).
            let now = (law rules s n entries sound legal upload t asked).1 begun in
            rows.0 (is.0 (ap (option_map (λ (u : Upload (List ℕ)). u.moment)) now.there ∙ ap Some now.moment)),
      )

-- ---- what writes nothing

module _ (places : ChangesAreByPlace (List ℕ)) (follow : FollowRules) where
  pub only_writes_change_versions : EveryHistory OnlyWritesChangeVersions
  only_writes_change_versions rules s n entries legal before later e address parts other =
      ap (λ (state : State). versions_at state address) (after-push rules s before e)
      ∙ versions_left places follow rules (after rules s before) _ e address (right_at rules s n entries before later e legal parts)
      (λ written. absurd (other written))
