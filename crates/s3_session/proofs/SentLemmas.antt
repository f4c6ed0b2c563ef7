-- Which messages put the parts of an upload, by the entries of these messages.
use Rattle.std.proofs.Common.{◌≡◌, List, [], ◌∷◌, ◌++◌, map, Some, refl, sym, ap, subst, ◌∙◌, append_assoc}
use Rattle.std.specs.List.{AllByRecursion, AllZip}
use Rattle.std.specs.Prelude.{ℕ}
use Rattle.s3_config.specs.Settings.{Settings}
use Rattle.s3_bodies.specs.Payload.{tag_of}
use Rattle.s3_uploads.specs.Parts.{part_tag}
use Rattle.s3_uploads.specs.declared.listed.ListedPart.{ListedPart}
use Rattle.s3_uploads.specs.declared.part.Part.{Part}
use Rattle.s3_records.specs.Catalogue.{opening}
use Rattle.s3_machine.specs.Step.{State}
use Rattle.s3_machine.specs.Effects.{PartPlace, UploadPlace}
use Rattle.s3_machine.specs.History.{Entry, after, after_entry}
use Rattle.s3_machine.specs.Uploads.{IsListedPart, Sends, StaysPart}
use Rattle.s3_machine.specs.UploadsKept as machine
use Rattle.s3_machine.specs.UploadsKept.{PartSource, PartsHaveASource}
use Rattle.s3_machine.specs.Rules.{rules_of}
use Rattle.s3_machine.specs.declared.rules.Rules.{Rules}
use Rattle.s3_replies.specs.Laws.{SuccessIsShown}
use Rattle.s3_session.specs.Output.{Exchange, IsReplied}
use Rattle.s3_session.specs.ReadBack.{entry_of, entries_from, state_behind, PutsPart, Sent, Copied, LeavesPart, WasPutLast, place_listed}
use Rattle.s3_session.proofs.ServesLemmas.{all_of_two}

-- the message whose entry stands between these
record StandsAt (messages : List Exchange) (front : List Entry) (entry : Entry) (behind : List Entry) : Type 0 where
  before : List Exchange
  message : Exchange
  later : List Exchange
  parts : messages ≡ before ++ message ∷ later
  first : entries_from before ≡ front
  is : entry_of message ≡ entry
  rest : entries_from later ≡ behind

one_more : (message : Exchange) (messages : List Exchange) (first : Entry) (front : List Entry) (entry : Entry) (behind : List Entry)
    → entry_of message ≡ first → StandsAt messages front entry behind → StandsAt (message ∷ messages) (first ∷ front) entry behind
one_more message messages first front entry behind same at = record {
  before = message ∷ at.before;
  message = at.message;
  later = at.later;
  parts = ap (λ (xs : List Exchange). message ∷ xs) at.parts;
  first = let rest = at.first in cc;
  is = at.is;
  rest = at.rest;
}

stands_at : (messages : List Exchange) (front : List Entry) (entry : Entry) (behind : List Entry)
    → entries_from messages ≡ front ++ entry ∷ behind → StandsAt messages front entry behind
stands_at [] [] entry behind are = absurd (cc)
stands_at [] (first ∷ front) entry behind are = absurd (cc)
stands_at (message ∷ messages) [] entry behind are =
    record { before = []; message = message; later = messages; parts = refl; first = refl; is = cc; rest = cc }
stands_at (message ∷ messages) (first ∷ front) entry behind are =
    one_more message messages first front entry behind (cc) (stands_at messages front entry behind (cc))

-- the state behind entries and others
after_both : (rules : Rules) (s : State) (es fs : List Entry) → after rules s (es ++ fs) ≡ after rules (after rules s es) fs
after_both rules s [] fs = refl
after_both rules s (e ∷ es) fs = after_both rules (after_entry rules s e) es fs

module _ (success : SuccessIsShown) where
  leaves_part : (part : PartPlace) (xs : List Exchange) → AllByRecursion IsReplied xs → StaysPart part (entries_from xs)
      → AllByRecursion (LeavesPart part) xs
  leaves_part part [] replied stays = tt
  leaves_part part (x ∷ xs) replied stays =
      ((λ sends. success x.answer x.context x.reply replied.0 ∙ stays.0 sends), leaves_part part xs replied.1 stays.1)

  -- the part that an entry puts, its message puts
  puts_part : (s : State) (part : PartPlace) (tag : List ℕ) (what : Part (List ℕ)) (x : Exchange) → IsReplied x → tag ≡ part_tag what
      → PartSource s (entry_of x) part what → PutsPart s part tag what.body x
  puts_part s part tag what x replied tagged (machine.Sent bytes sends same) =
      let body : bytes ≡ what.body = sym (ap (λ (p : Part (List ℕ)). p.body) same) in
      Sent
      (record {
        at = sends.at;
        brings = sends.brings ∙ ap (λ (b : List ℕ). Some b) body;
        answered = success x.answer x.context x.reply replied ∙ sends.accepted;
      })
      (tagged ∙ ap (λ (p : Part (List ℕ)). part_tag p) same ∙ ap tag_of body)
  puts_part s part tag what x replied tagged (machine.Copied asked range source copies gives same) =
      Copied asked range source
      (record { at = copies.at; from = copies.from; answered = success x.answer x.context x.reply replied ∙ copies.accepted }) gives
      (ap (λ (p : Part (List ℕ)). p.body) same) (tagged ∙ ap (λ (p : Part (List ℕ)). part_tag p) same)

  module _ (sources : PartsHaveASource) (settings : Settings) (messages : List Exchange) (replied : AllByRecursion IsReplied messages)
      (upload : UploadPlace) (front since : List Entry) (are : entries_from messages ≡ front ++ since) where
    -- the state in which the upload was begun
    abbrev begun : State
    begun = after (rules_of settings) (opening settings.buckets) front

    put_last : (listed : ListedPart) (what : Part (List ℕ)) → IsListedPart (rules_of settings) begun since upload listed what
        → WasPutLast settings messages upload listed what.body
    put_last listed what is =
        let last = is.last in
        let part = place_listed upload listed in
        let at = stands_at messages (front ++ last.before) last.send last.later
        (are ∙ ap (λ (es : List Entry). front ++ es) last.parts ∙ sym (append_assoc front last.before (last.send ∷ last.later))) in
        let all = all_of_two IsReplied at.before (at.message ∷ at.later) (subst (AllByRecursion IsReplied) at.parts replied) in
        let here : after (rules_of settings) begun last.before ≡ state_behind settings at.before =
        sym (after_both (rules_of settings) (opening settings.buckets) front last.before)
        ∙ ap (after (rules_of settings) (opening settings.buckets)) (sym at.first) in
        let sends : Sends (state_behind settings at.before) part what (entry_of at.message) =
        subst (λ (e : Entry). Sends (state_behind settings at.before) part what e) (sym at.is)
        (subst (λ (s : State). Sends s part what last.send) here last.sends) in
        record {
          before = at.before;
          put = at.message;
          later = at.later;
          parts = at.parts;
          puts = puts_part (state_behind settings at.before) part listed.tag what at.message all.1.0 is.tag
              (sources (state_behind settings at.before) (entry_of at.message) part what sends);
          last = leaves_part part at.later all.1.1 (subst (StaysPart part) (sym at.rest) last.last);
        }

    -- so of each listed part
    pub all_put : (listed : List ListedPart) (made : List (Part (List ℕ))) → AllZip (IsListedPart (rules_of settings) begun since upload) listed made
        → AllZip (WasPutLast settings messages upload) listed (map (λ (part : Part (List ℕ)). part.body) made)
    all_put [] [] all = tt
    all_put [] (what ∷ made) all = absurd all
    all_put (part ∷ listed) [] all = absurd all
    all_put (part ∷ listed) (what ∷ made) all = (put_last part what all.0, all_put listed made all.1)
