-- An upload that is open was begun by an entry of the history, and its parts were put by entries behind that one; or it was open at
-- the beginning, and each part was put since or stood in it.
use Rattle.std.proofs.Common.{◌≡◌, ◌≢◌, refl, sym, ap, subst, ◌∙◌, ℕ, suc, ◌⊎◌, ⊎_elim, inl, inr, List, [], ◌∷◌, ◌++◌, append_assoc, append-nil, Option, Some, None}
use Rattle.std.proofs.lemmas.Bool.Decides.{eqb_tells}
use Rattle.std.proofs.lemmas.Option.{same_Some}
use Rattle.std.specs.List.{AllByRecursion}
use Rattle.s3_uploads.specs.Laws.{PutsAreUnderOneNumber}
use Rattle.s3_uploads.specs.Parts.{part_at, part_put}
use Rattle.s3_uploads.specs.Uploads.{with_part}
use Rattle.s3_uploads.specs.declared.part.Part.{Part}
use Rattle.s3_uploads.specs.declared.upload.Upload.{Upload}
use Rattle.s3_records.specs.OpenUploads.{parts_sent}
use Rattle.s3_records.specs.Places.{ChangesAreByUpload}
use Rattle.s3_machine.specs.declared.command.Command.{Command}
use Rattle.s3_machine.specs.declared.command.Command.TheVariants as commands
use Rattle.s3_machine.specs.declared.command.KeyCommand.TheVariants as key_commands
use Rattle.s3_machine.specs.declared.command.Description.{Description}
use Rattle.s3_machine.specs.declared.command.UploadCommand.TheVariants as upload_commands
use Rattle.s3_machine.specs.declared.rules.Rules.{Rules}
use Rattle.s3_machine.specs.Effects.{Address, UploadPlace, PartPlace, open_at, begins, sends, ends, succeeds}
use Rattle.s3_machine.specs.History.{Entry, IsAnswer, Legal, after, after_entry}
use Rattle.s3_machine.specs.Step.{State, upload_begun, step}
use Rattle.s3_machine.specs.Uploads.{Sends, KeepsOpen, KeepsPart, WasBegun, WasSent, IsOpen, StayedOpen, StayedPart, begun_state}
use Rattle.s3_machine.proofs.HistoryLemmas.{after-push, after-append}
use Rattle.s3_machine.proofs.KeptLemmas.{outcome_is}
use Rattle.s3_machine.proofs.UploadLemmas.{IsLeft, Fate, Left, Begun, Sent, Ended, step_fate}

-- what an upload was begun with
abbrev pub asked_of : Upload (List ℕ) → Description
asked_of u = record { content_type = u.content_type; metadata = u.metadata }

-- a part of an upload
abbrev pub part_of : UploadPlace → ℕ → PartPlace
part_of upload number = record { upload = upload; number = number }

-- an upload that is open was begun, and its parts were put since
pub record Course (rules : Rules) (s : State) (past : List Entry) (upload : UploadPlace) (u : Upload (List ℕ)) : Type 0 where
  pub begun : WasBegun past upload u.moment (asked_of u)
  pub sent : (number : ℕ) (p : Part (List ℕ)) → part_at number u.parts ≡ Some p
      → WasSent rules (begun_state rules s begun) begun.since (part_of upload number) p

-- a part was put by one of the entries, or stood at the beginning and stayed
abbrev pub SentOrStayed : Rules → State → List Entry → PartPlace → Part (List ℕ) → Type 0
SentOrStayed rules s past part what = WasSent rules s past part what ⊎ StayedPart s past part what

-- an upload that is open was so at the beginning, and each of its parts was put since, or stood there and stayed
pub record Stay (rules : Rules) (s : State) (past : List Entry) (upload : UploadPlace) (u : Upload (List ℕ)) : Type 0 where
  pub stayed : StayedOpen s past upload u.moment (asked_of u)
  pub parts : (number : ℕ) (p : Part (List ℕ)) → part_at number u.parts ≡ Some p → SentOrStayed rules s past (part_of upload number) p

abbrev pub AllCourses : Rules → State → List Entry → Type 0
AllCourses rules s past =
    (upload : UploadPlace) (u : Upload (List ℕ)) → open_at (after rules s past) upload ≡ Some u
    → Course rules s past upload u ⊎ Stay rules s past upload u

-- what the entries leave is what those behind the beginning leave
since_begun : (rules : Rules) (s : State) (past : List Entry) (upload : UploadPlace) (t : ℕ) (asked : Description)
    (begun : WasBegun past upload t asked) → after rules s past ≡ after rules (begun_state rules s begun) begun.since
since_begun rules s past upload t asked begun =
    ap (after rules s) (begun.parts ∙ sym (append_assoc begun.before (begun.begin ∷ []) begun.since))
    ∙ after-append rules s (begun.before ++ begun.begin ∷ []) begun.since

-- ---- one more entry

all_push : (P : Entry → Type 0) (es : List Entry) (e : Entry) → AllByRecursion P es → P e → AllByRecursion P (es ++ e ∷ [])
all_push P [] e all last = (last, tt)
all_push P (x ∷ es) e all last = (all.0, all_push P es e all.1 last)

begun_push : (past : List Entry) (e : Entry) (upload : UploadPlace) (t : ℕ) (asked : Description) → WasBegun past upload t asked
    → KeepsOpen upload e → WasBegun (past ++ e ∷ []) upload t asked
begun_push past e upload t asked was keeps = record {
  before = was.before;
  begin = was.begin;
  since = was.since ++ e ∷ [];
  parts = ap (λ (es : List Entry). es ++ e ∷ []) was.parts ∙ append_assoc was.before (was.begin ∷ was.since) (e ∷ []);
  begins = was.begins;
  moment = was.moment;
  stays = all_push (KeepsOpen upload) was.since e was.stays keeps;
}

sent_push : (rules : Rules) (s : State) (past : List Entry) (e : Entry) (part : PartPlace) (what : Part (List ℕ)) → WasSent rules s past part what
    → KeepsPart part e → KeepsOpen part.upload e → WasSent rules s (past ++ e ∷ []) part what
sent_push rules s past e part what was keeps stays = record {
  before = was.before;
  send = was.send;
  later = was.later ++ e ∷ [];
  parts = ap (λ (es : List Entry). es ++ e ∷ []) was.parts ∙ append_assoc was.before (was.send ∷ was.later) (e ∷ []);
  sends = was.sends;
  last = all_push (KeepsPart part) was.later e was.last keeps;
  stays = all_push (KeepsOpen part.upload) was.later e was.stays stays;
}

open_push : (s : State) (past : List Entry) (e : Entry) (upload : UploadPlace) (t : ℕ) (asked : Description) → StayedOpen s past upload t asked
    → KeepsOpen upload e → StayedOpen s (past ++ e ∷ []) upload t asked
open_push s past e upload t asked was keeps =
    record { at_base = was.at_base; stays = all_push (KeepsOpen upload) past e was.stays keeps }

part_push : (rules : Rules) (s : State) (past : List Entry) (e : Entry) (part : PartPlace) (what : Part (List ℕ)) → SentOrStayed rules s past part what
    → KeepsPart part e → KeepsOpen part.upload e → SentOrStayed rules s (past ++ e ∷ []) part what
part_push rules s past e part what (inl was) keeps stays = inl (sent_push rules s past e part what was keeps stays)
part_push rules s past e part what (inr was) keeps stays = inr (record {
  at_base = was.at_base;
  last = all_push (KeepsPart part) past e was.last keeps;
  stays = all_push (KeepsOpen part.upload) past e was.stays stays;
})

-- a command that begins an upload neither puts a part nor ends one, and one that puts a part ends none
pub begins_alone : (command : Command) (what : Address × Description) → begins command ≡ Some what → (sends command ≡ None) × (ends command ≡ None)
begins_alone (commands.Key bucket key (key_commands.Begin begin)) what is = (refl, refl)
begins_alone _ what is = absurd (cc)

pub sends_alone : (command : Command) (part : PartPlace) → sends command ≡ Some part → ends command ≡ None
sends_alone (commands.Upload bucket key id (upload_commands.PutPart number payload)) part is = refl
sends_alone (commands.Upload bucket key id (upload_commands.CopyPart number copy)) part is = refl
sends_alone _ part is = absurd (cc)

-- nothing is at a number that no part has
no_part : (number : ℕ) (p : Part (List ℕ)) → part_at {B = List ℕ} number [] ≡ Some p → ⊥
no_part number p is = absurd (cc)

module _ (law : ChangesAreByUpload (List ℕ)) (puts : PutsAreUnderOneNumber (List ℕ)) (rules : Rules) where
  pub fate_of : (s : State) (e : Entry) (upload : UploadPlace)
      → Fate s e.answer.number e.moment e.command (step rules s e.answer.number e.moment e.command) upload
  fate_of s e upload = step_fate law rules s e.answer.number e.moment e.command upload

  -- an entry that leaves an upload keeps it open, and its parts
  left_keeps : (s : State) (n : ℕ) (e : Entry) (upload : UploadPlace) → IsAnswer rules s n e
      → IsLeft s e.answer.number e.command (step rules s e.answer.number e.moment e.command) upload
      → KeepsOpen upload e × ((number : ℕ) → KeepsPart (part_of upload number) e)
  left_keeps s n e upload answer left =
      let outcome = ap succeeds (outcome_is rules s n e answer) in
      (λ at. outcome ∙ left.unended at, λ number at. outcome ∙ left.unsent number at)

  -- so does one that puts a part to it, but for the part of this number
  sent_keeps_open : (e : Entry) (upload : UploadPlace) (number : ℕ) → sends e.command ≡ Some (part_of upload number) → KeepsOpen upload e
  sent_keeps_open e upload number at end = absurd (cc (sends_alone e.command (part_of upload number) at))

  sent_keeps_others : (e : Entry) (upload : UploadPlace) (number m : ℕ) → sends e.command ≡ Some (part_of upload number) → m ≢ number
      → KeepsPart (part_of upload m) e
  sent_keeps_others e upload number m at other sends_m =
      let same = same_Some (part_of upload m) (part_of upload number) (sym sends_m ∙ at) in
      absurd (other (ap (λ (p : PartPlace). p.number) same))

  -- the part that an entry puts was put by it, and the others before
  sent_parts : (s : State) (past : List Entry) (e : Entry) (upload : UploadPlace) (number : ℕ) (what : Part (List ℕ)) (found : Upload (List ℕ))
      → Sends (after rules s past) (part_of upload number) what e
      → ((m : ℕ) (p : Part (List ℕ)) → part_at m found.parts ≡ Some p → WasSent rules s past (part_of upload m) p)
      → (m : ℕ) (p : Part (List ℕ)) → part_at m (part_put number what found.parts) ≡ Some p
      → WasSent rules s (past ++ e ∷ []) (part_of upload m) p
  sent_parts s past e upload number what found sends known m p is =
      elim (eqb_tells m number) [
        | inl same ↦
            let there = (puts number what found.parts).0 in
            let part = same_Some what p (sym there ∙ sym (ap (λ (k : ℕ). part_at k (part_put number what found.parts)) same.1) ∙ is) in
            subst (WasSent rules s (past ++ e ∷ []) (part_of upload m)) part (record {
              before = past;
              send = e;
              later = [];
              parts = refl;
              sends = subst (λ (k : ℕ). Sends (after rules s past) (part_of upload k) what e) (sym same.1) sends;
              last = tt;
              stays = tt;
            })
        | inr other ↦
            sent_push rules s past e (part_of upload m) p
            (known m p (sym ((puts number what found.parts).1 m other.1) ∙ is))
            (sent_keeps_others e upload number m sends.at other.1)
            (sent_keeps_open e upload number sends.at)
      ]

  -- where the upload stayed, the others were put before or stayed, too
  stayed_parts : (s : State) (past : List Entry) (e : Entry) (upload : UploadPlace) (number : ℕ) (what : Part (List ℕ)) (found : Upload (List ℕ))
      → Sends (after rules s past) (part_of upload number) what e
      → ((m : ℕ) (p : Part (List ℕ)) → part_at m found.parts ≡ Some p → SentOrStayed rules s past (part_of upload m) p)
      → (m : ℕ) (p : Part (List ℕ)) → part_at m (part_put number what found.parts) ≡ Some p
      → SentOrStayed rules s (past ++ e ∷ []) (part_of upload m) p
  stayed_parts s past e upload number what found sends known m p is =
      elim (eqb_tells m number) [
        | inl same ↦
            let there = (puts number what found.parts).0 in
            let part = same_Some what p (sym there ∙ sym (ap (λ (k : ℕ). part_at k (part_put number what found.parts)) same.1) ∙ is) in
            inl (subst (WasSent rules s (past ++ e ∷ []) (part_of upload m)) part (record {
              before = past;
              send = e;
              later = [];
              parts = refl;
              sends = subst (λ (k : ℕ). Sends (after rules s past) (part_of upload k) what e) (sym same.1) sends;
              last = tt;
              stays = tt;
            }))
        | inr other ↦
            part_push rules s past e (part_of upload m) p
            (known m p (sym ((puts number what found.parts).1 m other.1) ∙ is))
            (sent_keeps_others e upload number m sends.at other.1)
            (sent_keeps_open e upload number sends.at)
      ]

  -- an entry that leaves an upload, which an entry began or which stayed
  left_course : (s : State) (past : List Entry) (e : Entry) (upload : UploadPlace) (u : Upload (List ℕ)) → KeepsOpen upload e
      → ((number : ℕ) → KeepsPart (part_of upload number) e) → Course rules s past upload u → Course rules s (past ++ e ∷ []) upload u
  unfolding begun_push
  left_course s past e upload u stays keeps course = record {
    begun = begun_push past e upload u.moment (asked_of u) course.begun stays;
    sent = λ number p at.
        sent_push rules (begun_state rules s course.begun) course.begun.since e (part_of upload number) p
        (course.sent number p at) (keeps number) stays;
  }

  left_stay : (s : State) (past : List Entry) (e : Entry) (upload : UploadPlace) (u : Upload (List ℕ)) → KeepsOpen upload e
      → ((number : ℕ) → KeepsPart (part_of upload number) e) → Stay rules s past upload u → Stay rules s (past ++ e ∷ []) upload u
  left_stay s past e upload u stays keeps stay = record {
    stayed = open_push s past e upload u.moment (asked_of u) stay.stayed stays;
    parts = λ number p at. part_push rules s past e (part_of upload number) p (stay.parts number p at) (keeps number) stays;
  }

  -- and one that puts a part to it
  sent_course : (s : State) (past : List Entry) (e : Entry) (upload : UploadPlace) (number : ℕ) (what : Part (List ℕ)) (found : Upload (List ℕ))
      → Sends (after rules s past) (part_of upload number) what e → Course rules s past upload found
      → Course rules s (past ++ e ∷ []) upload (with_part number what found)
  unfolding begun_push
  sent_course s past e upload number what found sends course =
      let start = begun_state rules s course.begun in
      let state = since_begun rules s past upload found.moment (asked_of found) course.begun in
      let here = subst (λ (before : State). Sends before (part_of upload number) what e) state sends in
      record {
        begun = begun_push past e upload found.moment (asked_of found) course.begun (sent_keeps_open e upload number sends.at);
        sent = sent_parts start course.begun.since e upload number what found here course.sent;
      }

  sent_stay : (s : State) (past : List Entry) (e : Entry) (upload : UploadPlace) (number : ℕ) (what : Part (List ℕ)) (found : Upload (List ℕ))
      → Sends (after rules s past) (part_of upload number) what e → Stay rules s past upload found
      → Stay rules s (past ++ e ∷ []) upload (with_part number what found)
  sent_stay s past e upload number what found sends stay = record {
    stayed = open_push s past e upload found.moment (asked_of found) stay.stayed (sent_keeps_open e upload number sends.at);
    parts = stayed_parts s past e upload number what found sends stay.parts;
  }

  -- what is open behind an entry was begun by it, or open before it
  course_push : (s : State) (n : ℕ) (past : List Entry) (e : Entry) → AllCourses rules s past → IsAnswer rules (after rules s past) n e
      → AllCourses rules s (past ++ e ∷ [])
  course_push s n past e known answer upload u is =
      let here = after rules s past in
      let now : open_at (after_entry rules here e) upload ≡ Some u = sym (ap (λ (t : State). open_at t upload) (after-push rules s past e)) ∙ is in
      let outcome = ap succeeds (outcome_is rules here n e answer) in
      elim (fate_of here e upload) [
        | Left left ↦
            let keeps = left_keeps here n e upload answer left in
            ⊎_elim (λ course. inl (left_course s past e upload u keeps.0 keeps.1 course))
            (λ stay. inr (left_stay s past e upload u keeps.0 keeps.1 stay)) (known upload u (sym left.same ∙ now))
        | Begun begun ↦
            let what = same_Some (upload_begun e.moment begun.asked) u (sym begun.now ∙ now) in
            inl (subst (Course rules s (past ++ e ∷ []) upload) what (record {
              begun = record {
                before = past;
                begin = e;
                since = [];
                parts = refl;
                begins = record { at = begun.at; numbered = begun.numbered; accepted = outcome ∙ begun.accepted };
                moment = refl;
                stays = tt;
              };
              sent = λ number p at. absurd (no_part number p at);
            }))
        | Sent send ↦
            let what = same_Some (with_part send.number send.part send.found) u (sym send.now ∙ now) in
            let sends : Sends here (part_of upload send.number) send.part e =
            record { at = send.at; puts = send.puts; accepted = outcome ∙ send.accepted } in
            subst (λ (v : Upload (List ℕ)). Course rules s (past ++ e ∷ []) upload v ⊎ Stay rules s (past ++ e ∷ []) upload v) what
            (⊎_elim (λ course. inl (sent_course s past e upload send.number send.part send.found sends course))
            (λ stay. inr (sent_stay s past e upload send.number send.part send.found sends stay)) (known upload send.found send.there))
        | Ended ended ↦ let none = ended.now in absurd (cc)
      ]

  course_after : (s : State) (n : ℕ) (past es : List Entry) → AllCourses rules s past → Legal rules (after rules s past) n es
      → AllCourses rules s (past ++ es)
  course_after s n past [] known legal = subst (AllCourses rules s) (sym (append-nil past)) known
  course_after s n past (e ∷ es) known legal =
      subst (AllCourses rules s) (append_assoc past (e ∷ []) es)
      (course_after s (suc n) (past ++ e ∷ []) es (course_push s n past e known legal.0)
      (subst (λ (t : State). Legal rules t (suc n) es) (sym (after-push rules s past e)) legal.1))

  -- before all entries what is open is what is open at the beginning
  stay_at_base : (s : State) → AllCourses rules s []
  stay_at_base s upload u is =
      let at_base : IsOpen s upload u.moment (asked_of u) = record { found = u; there = is; moment = refl; content_type = refl; metadata = refl } in
      inr (record {
        stayed = record { at_base = at_base; stays = tt };
        parts = λ number p at. inr (record {
          at_base = ap (λ (found : Option (Upload (List ℕ))). part_at number (parts_sent found)) is ∙ at;
          last = tt;
          stays = tt;
        });
      })

  pub courses : (s : State) (n : ℕ) (es : List Entry) → Legal rules s n es → AllCourses rules s es
  courses s n es = course_after s n [] es (stay_at_base s)
