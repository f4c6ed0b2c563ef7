-- An upload that was begun goes on to be open, and a part that was put to stand in it.
use Rattle.std.proofs.Common.{◌≡◌, ◌≢◌, refl, sym, ap, subst, ◌∙◌, arith, ℕ, ◌+◌, suc, ◌<◌, List, [], ◌∷◌, length, length-append, Option, Some}
use Rattle.std.proofs.lemmas.Bool.{false≢true}
use Rattle.std.proofs.lemmas.Option.{same_Some}
use Rattle.s3_uploads.specs.Laws.{PutsAreUnderOneNumber}
use Rattle.s3_uploads.specs.Parts.{part_at, part_put}
use Rattle.s3_uploads.specs.Uploads.{with_part}
use Rattle.s3_uploads.specs.declared.part.Part.{Part}
use Rattle.s3_uploads.specs.declared.upload.Upload.{Upload}
use Rattle.s3_records.specs.OpenUploads.{parts_sent}
use Rattle.s3_records.specs.Places.{ChangesAreByUpload}
use Rattle.s3_machine.specs.declared.command.Description.{Description}
use Rattle.s3_machine.specs.declared.rules.Rules.{Rules}
use Rattle.s3_machine.specs.Effects.{Address, UploadPlace, PartPlace, open_at, part_in, succeeds}
use Rattle.s3_machine.specs.History.{Entry, IsAnswer, Legal, after, after_entry}
use Rattle.s3_machine.specs.Step.{State, upload_begun, step}
use Rattle.s3_machine.specs.Uploads.{Begins, Sends, KeepsOpen, StaysOpen, KeepsPart, StaysPart, WasBegun, IsOpen}
use Rattle.s3_machine.proofs.CourseLemmas.{part_of, fate_of, begins_alone, sends_alone}
use Rattle.s3_machine.proofs.HistoryLemmas.{Legal-append, after-append}
use Rattle.s3_machine.proofs.KeptLemmas.{outcome_is}
use Rattle.s3_machine.proofs.StateLemmas.{numbered_by}
use Rattle.s3_machine.proofs.UploadLemmas.{IsEnded, Left, Begun, Sent, Ended}

-- an upload that was begun has what it was begun with, and goes on to
pub opened : (s : State) (upload : UploadPlace) (t : ℕ) (asked : Description) → open_at s upload ≡ Some (upload_begun t asked) → IsOpen s upload t asked
opened s upload t asked is =
    record { found = upload_begun t asked; there = is; moment = refl; content_type = refl; metadata = refl }

still_open : (s after : State) (upload : UploadPlace) (t : ℕ) (asked : Description) → IsOpen s upload t asked
    → open_at after upload ≡ open_at s upload → IsOpen after upload t asked
still_open s after upload t asked is same =
    record { found = is.found; there = same ∙ is.there; moment = is.moment; content_type = is.content_type; metadata = is.metadata }

-- the id of an upload that was begun is below the number of the next entry
pub begun_below : (rules : Rules) (s : State) (n : ℕ) (past : List Entry) (upload : UploadPlace) (t : ℕ) (asked : Description) → Legal rules s n past
    → WasBegun past upload t asked → upload.id < n + length past
begun_below rules s n past upload t asked legal was =
    let joined = Legal-append rules s n was.before (was.begin ∷ was.since) (subst (Legal rules s n) was.parts legal) in
    let number = numbered_by rules (after rules s was.before) (n + length was.before) was.begin joined.1.0 in
    let id = was.begins.numbered in
    let size : length past ≡ length was.before + suc (length was.since) = ap length was.parts ∙ length-append was.before (was.begin ∷ was.since) in
    omega arith

module _ (law : ChangesAreByUpload (List ℕ)) (puts : PutsAreUnderOneNumber (List ℕ)) (rules : Rules) where
  -- no entry begins an upload again whose id is below its number
  not_again : (s : State) (n : ℕ) (e : Entry) (upload : UploadPlace) → IsAnswer rules s n e → upload.id < n → upload.id ≢ e.answer.number
  not_again s n e upload answer below numbered =
      let number = numbered_by rules s n e answer in absurd (omega arith)

  -- an entry that keeps an upload open ends none
  not_ended : (s : State) (n : ℕ) (e : Entry) (upload : UploadPlace) → IsAnswer rules s n e → KeepsOpen upload e
      → ¬ IsEnded e.command (step rules s e.answer.number e.moment e.command) upload
  not_ended s n e upload answer keeps ended =
      false≢true (sym (keeps ended.at) ∙ ap succeeds (outcome_is rules s n e answer) ∙ ended.accepted)

  open_step : (s : State) (n : ℕ) (e : Entry) (upload : UploadPlace) (t : ℕ) (asked : Description) → IsAnswer rules s n e → upload.id < n
      → KeepsOpen upload e → IsOpen s upload t asked → IsOpen (after_entry rules s e) upload t asked
  open_step s n e upload t asked answer below keeps is =
      elim (fate_of law puts rules s e upload) [
        | Left left ↦ still_open s (after_entry rules s e) upload t asked is left.same
        | Begun begun ↦ absurd (not_again s n e upload answer below begun.numbered)
        | Sent send ↦
            let same = same_Some is.found send.found (sym is.there ∙ send.there) in
            record {
              found = with_part send.number send.part send.found;
              there = send.now;
              moment = sym (ap (λ (u : Upload (List ℕ)). u.moment) same) ∙ is.moment;
              content_type = sym (ap (λ (u : Upload (List ℕ)). u.content_type) same) ∙ is.content_type;
              metadata = sym (ap (λ (u : Upload (List ℕ)). u.metadata) same) ∙ is.metadata;
            }
        | Ended ended ↦ absurd (not_ended s n e upload answer keeps ended)
      ]

  pub open_through : (s : State) (n : ℕ) (es : List Entry) (upload : UploadPlace) (t : ℕ) (asked : Description) → Legal rules s n es
      → upload.id < n → StaysOpen upload es → IsOpen s upload t asked → IsOpen (after rules s es) upload t asked
  open_through s n [] upload t asked legal below stays is = is
  open_through s n (e ∷ es) upload t asked legal below stays is =
      let later : upload.id < suc n = omega arith in
      open_through (after_entry rules s e) (suc n) es upload t asked legal.1 later stays.1
      (open_step s n e upload t asked legal.0 below stays.0 is)

  -- the entry that begins an upload begins it
  pub begins_it : (s : State) (n : ℕ) (e : Entry) (upload : UploadPlace) (asked : Description) → IsAnswer rules s n e → Begins upload asked e
      → open_at (after_entry rules s e) upload ≡ Some (upload_begun e.moment asked)
  begins_it s n e upload asked answer begins =
      let outcome = ap succeeds (outcome_is rules s n e answer) in
      let alone = begins_alone e.command (upload.address, asked) begins.at in
      elim (fate_of law puts rules s e upload) [
        | Left left ↦ absurd (false≢true (sym (left.unbegun asked begins.at begins.numbered) ∙ sym outcome ∙ begins.accepted))
        | Begun begun ↦
            let same = same_Some (upload.address, begun.asked) (upload.address, asked) (sym begun.at ∙ begins.at) in
            begun.now ∙ ap (λ (p : Address × Description). Some (upload_begun e.moment p.1)) same
        | Sent send ↦ absurd (cc (alone.0, send.at))
        | Ended ended ↦ absurd (cc (alone.1, ended.at))
      ]

  -- where an upload was begun, it is open
  pub begun_is_open : (s : State) (n : ℕ) (entries : List Entry) (upload : UploadPlace) (t : ℕ) (asked : Description) → Legal rules s n entries
      → WasBegun entries upload t asked → IsOpen (after rules s entries) upload t asked
  begun_is_open s n entries upload t asked legal was =
      let here = after rules s was.before in
      let joined = Legal-append rules s n was.before (was.begin ∷ was.since) (subst (Legal rules s n) was.parts legal) in
      let answer = joined.1.0 in
      let below : upload.id < suc (n + length was.before) =
      let number = numbered_by rules here (n + length was.before) was.begin answer in
      let id = was.begins.numbered in omega arith in
      let now = begins_it here (n + length was.before) was.begin upload asked answer was.begins in
      let first = opened (after_entry rules here was.begin) upload was.begin.moment asked now in
      let last = open_through (after_entry rules here was.begin) (suc (n + length was.before)) was.since upload was.begin.moment asked
      joined.1.1 below was.stays first in
      let end : after rules (after_entry rules here was.begin) was.since ≡ after rules s entries =
      sym (ap (after rules s) was.parts ∙ after-append rules s was.before (was.begin ∷ was.since)) in
      subst (λ (k : ℕ). IsOpen (after rules s entries) upload k asked) was.moment
      (subst (λ (state : State). IsOpen state upload was.begin.moment asked) end last)

  -- ---- and so does a part that stands

  part_step : (s : State) (n : ℕ) (e : Entry) (part : PartPlace) (p : Part (List ℕ)) → IsAnswer rules s n e → part.upload.id < n
      → KeepsOpen part.upload e → KeepsPart part e → part_in s part ≡ Some p → part_in (after_entry rules s e) part ≡ Some p
  part_step s n e part p answer below stays keeps is =
      elim (fate_of law puts rules s e part.upload) [
        | Left left ↦ ap (λ (u : Option (Upload (List ℕ))). part_at part.number (parts_sent u)) left.same ∙ is
        | Begun begun ↦ absurd (not_again s n e part.upload answer below begun.numbered)
        | Sent send ↦
            let outcome = ap succeeds (outcome_is rules s n e answer) in
            let other : part.number ≢ send.number = λ same.
            false≢true (sym (keeps (send.at ∙ ap (λ (k : ℕ). Some (part_of part.upload k)) (sym same))) ∙ outcome ∙ send.accepted) in
            ap (λ (u : Option (Upload (List ℕ))). part_at part.number (parts_sent u)) send.now
            ∙ (puts send.number send.part send.found.parts).1 part.number other
            ∙ ap (λ (u : Option (Upload (List ℕ))). part_at part.number (parts_sent u)) (sym send.there) ∙ is
        | Ended ended ↦ absurd (not_ended s n e part.upload answer stays ended)
      ]

  pub part_through : (s : State) (n : ℕ) (es : List Entry) (part : PartPlace) (p : Part (List ℕ)) → Legal rules s n es → part.upload.id < n
      → StaysOpen part.upload es → StaysPart part es → part_in s part ≡ Some p → part_in (after rules s es) part ≡ Some p
  part_through s n [] part p legal below stays keeps is = is
  part_through s n (e ∷ es) part p legal below stays keeps is =
      let later : part.upload.id < suc n = omega arith in
      part_through (after_entry rules s e) (suc n) es part p legal.1 later stays.1 keeps.1
      (part_step s n e part p legal.0 below stays.0 keeps.0 is)

  -- the entry that puts a part puts it, to an upload that is open
  pub record IsPut (s : State) (e : Entry) (part : PartPlace) (what : Part (List ℕ)) : Type 0 where
    pub found : Upload (List ℕ)
    pub there : open_at s part.upload ≡ Some found
    pub now : part_in (after_entry rules s e) part ≡ Some what

  pub sends_it : (s : State) (n : ℕ) (e : Entry) (part : PartPlace) (what : Part (List ℕ)) → IsAnswer rules s n e → Sends s part what e
      → IsPut s e part what
  sends_it s n e part what answer sends =
      let outcome = ap succeeds (outcome_is rules s n e answer) in
      elim (fate_of law puts rules s e part.upload) [
        | Left left ↦ absurd (false≢true (sym (left.unsent part.number sends.at) ∙ sym outcome ∙ sends.accepted))
        | Begun begun ↦ absurd (cc ((begins_alone e.command (part.upload.address, begun.asked) begun.at).0, sends.at))
        | Sent send ↦
            let place = same_Some (part_of part.upload send.number) part (sym send.at ∙ sends.at) in
            let number : send.number ≡ part.number = ap (λ (q : PartPlace). q.number) place in
            let same = same_Some send.part what (sym send.puts ∙ sends.puts) in
            record {
              found = send.found;
              there = send.there;
              now = ap (λ (u : Option (Upload (List ℕ))). part_at part.number (parts_sent u)) send.now
                  ∙ sym (ap (λ (k : ℕ). part_at k (part_put send.number send.part send.found.parts)) number)
                  ∙ (puts send.number send.part send.found.parts).0
                  ∙ ap Some same;
            }
        | Ended ended ↦ absurd (cc (sends_alone e.command part sends.at, ended.at))
      ]
