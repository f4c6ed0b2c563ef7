-- What a piece of a body makes of its message.
use Rattle.std.proofs.Common.{◌≡◌, ℕ, ◌+◌, ◌-◌, ◌≤◌, true, false, List, [], ◌++◌, take, drop, length, min, refl, sym, ap, subst, ◌∙◌, arith, inl, inr, append-nil, append_assoc, length-append, Result, Ok, Err, Option}
use Rattle.std.proofs.lemmas.List.{take_all, take_min, drop_all, length-take, take-append-drop}
use Rattle.s3_config.specs.Settings.{Settings}
use Rattle.s3_terms.specs.declared.code.Code.{Code}
use Rattle.s3_aws_chunked.specs.Verdict as bodies
use Rattle.s3_framed_bodies.specs.Laws.{AcceptedAreWhole, AreShort, OpenBodiesAreShort, ReadersFail, ReadersJudge, ReadersStayOpen, RefusalsStand}
use Rattle.s3_http_heads.specs.declared.body_length.BodyFraming.{BodyFraming}
use Rattle.s3_framed_bodies.specs.Framed.{size_in}
use Rattle.s3_framed_bodies.specs.Reader.{IsFed, Stands, part_in, taken_of, verdict_of}
use Rattle.s3_framed_bodies.specs.Verdict as framed
use Rattle.s3_machine.specs.declared.command.Command.{Command}
use Rattle.s3_integrity.specs.declared.checksum.Checksum.{Checksum}
use Rattle.s3_payloads.specs.FoundSum.{found_sum}
use Rattle.s3_requests.specs.Commands.{command_of}
use Rattle.s3_replies.specs.declared.context.Context.{Context}
use Rattle.s3_session.specs.Verdict as verdicts
use Rattle.s3_session.specs.Decision.{Decision, Judges, commanded, concluded, context_of, with_found}
use Rattle.s3_session.specs.declared.incoming.Incoming.{Incoming}
use Rattle.s3_session.specs.declared.incoming.Progress.{Progress}
use Rattle.s3_session.specs.Incoming.{IsIncoming, IsInBody, IsRefusedBy, Progresses, Settles, is_open, settled_as}
use Rattle.s3_session.proofs.StayLemmas.{HeadsStay, PairsStay}
use Rattle.s3_session.proofs.FrontLemmas.{IsFront, front_more, body_judged, take_beyond}

-- as much of a piece as is left
pub part_taken : {X : Type 0} (bytes piece : List X) (size : ℕ) → length bytes ≤ size
    → take size (bytes ++ piece) ≡ bytes ++ take (min (length piece) (size - length bytes)) piece
part_taken bytes piece size le =
    let turned : min (size - length bytes) (length piece) ≡ min (length piece) (size - length bytes) = omega arith in
    take_beyond bytes piece size le
    ∙ ap (λ t. bytes ++ t) (sym (take_min (size - length bytes) piece) ∙ ap (λ n. take n piece) turned)

-- bytes that don't reach the end of their body are all of it
short_here : (framing : BodyFraming) (bytes : List ℕ) → AreShort framing bytes → length bytes ≤ size_in framing bytes
short_here framing bytes lacks = subst (λ (b : List ℕ). length bytes ≤ size_in framing b) (append-nil bytes) (omega (arith, lacks []))

module _ (heads : HeadsStay) (pairs : PairsStay) (settings : Settings) (old new : Incoming) (rest piece : List ℕ)
    (h : IsIncoming settings old rest) (kept : new.context ≡ old.context) (planned : new.admission.plan ≡ old.admission.plan) where
  -- more of the bytes stand at the same head
  front_with : (n : ℕ) → IsFront (rest ++ take n piece) h.text (h.behind ++ take n piece)
  front_with n = front_more heads pairs rest h.text h.behind (take n piece) (record { found = h.found; joined = h.joined })

  still_incoming : (n : ℕ) → Stands new.admission.reader h.asked.announced (h.behind ++ take n piece) false
      → taken_of new.admission.reader ≡ length (h.behind ++ take n piece) → ((more : List ℕ) → length (h.behind ++ take n piece) ≤ size_in h.asked.announced.framing ((h.behind ++ take n piece) ++ more))
      → IsIncoming settings new (rest ++ take n piece)
  still_incoming n stands taken within =
      let front = front_with n in
      record {
        head = h.head;
        asked = h.asked;
        text = h.text;
        behind = h.behind ++ take n piece;
        found = front.found;
        joined = front.joined;
        says = h.says;
        admitted = rw kept h.admitted;
        context = kept ∙ h.context ∙ ap (λ (c : Context). context_of settings.dialect h.head c.moment) (sym kept);
        plan = planned ∙ h.plan;
        stands = stands;
        taken = taken;
        within = within;
      }

  -- what is known of the body is known of the message
  body_known : (n : ℕ) (verdict : bodies.Verdict) → framed.Judges h.asked.announced (h.behind ++ take n piece) false verdict
      → Judges settings old.context.moment false (rest ++ take n piece) (concluded settings.dialect h.head old.context.moment h.asked (h.behind ++ take n piece) verdict)
  body_known n verdict judged =
      body_judged settings old.context.moment false (rest ++ take n piece) h.text (h.behind ++ take n piece) h.head (front_with n) h.says h.asked h.admitted verdict judged

  -- what its command comes to is what becomes of the message
  commanded_known : (n : ℕ) (sum : Option Checksum) (rule : Result Command Code)
      → Judges settings old.context.moment false (rest ++ take n piece) (commanded settings.dialect h.head old.context.moment sum [] rule)
      → (p : Progress) → p ≡ settled_as sum rule → Progresses settings old.context (rest ++ take n piece) p
  commanded_known n sum (Ok command) judged p is =
      let is_so : commanded settings.dialect h.head old.context.moment sum [] (Ok command) ≡ (verdicts.Sound (with_found sum old.context) command, []) =
      ap (λ (c : Context). (verdicts.Sound (with_found sum c) command, [])) (sym h.context) in
      rw is (subst (λ (d : Decision). Judges settings old.context.moment false (rest ++ take n piece) d) is_so judged)
  commanded_known n sum (Err code) judged p is =
      let is_so : commanded settings.dialect h.head old.context.moment sum [] (Err code) ≡ (verdicts.Refused code old.context.head_only, []) = rw h.context refl in
      rw is (subst (λ (d : Decision). Judges settings old.context.moment false (rest ++ take n piece) d) is_so judged)

  -- the body is whole and right with the bytes that were taken
  whole_known : AcceptedAreWhole → (n : ℕ) (payload : List ℕ) → n ≡ part_in h.asked.announced.framing h.behind piece
      → framed.Judges h.asked.announced (h.behind ++ piece) false (bodies.Accepted payload)
      → Judges settings old.context.moment false (rest ++ take n piece) (commanded settings.dialect h.head old.context.moment (found_sum h.asked.announced.form payload) [] (command_of new.admission.plan (found_sum h.asked.announced.form payload) payload))
  whole_known whole n payload is judged =
      let framing = h.asked.announced.framing in
      let size = size_in framing (h.behind ++ piece) in
      let bytes = h.behind ++ take n piece in
      let front = whole h.asked.announced (h.behind ++ piece) false payload judged in
      let taken : take size (h.behind ++ piece) ≡ bytes = part_taken h.behind piece size (h.within piece) ∙ ap (λ k. h.behind ++ take k piece) (sym is) in
      let accepted = subst (λ (b : List ℕ). framed.Judges h.asked.announced b false (bodies.Accepted payload)) taken front.alone in
      let shorter : length bytes ≤ size = rw (← taken) (omega (arith, length-take size (h.behind ++ piece))) in
      let all : bytes ++ drop n piece ≡ h.behind ++ piece = append_assoc h.behind (take n piece) (drop n piece) ∙ ap (λ l. h.behind ++ l) (take-append-drop n piece) in
      let still = (whole h.asked.announced bytes false payload accepted).stays (drop n piece) in
      let same : size ≡ size_in framing bytes = ap (size_in framing) (sym all) ∙ still in
      let none : drop (size_in framing bytes) bytes ≡ [] = drop_all (size_in framing bytes) bytes (omega (arith, shorter, same)) in
      let is_so : concluded settings.dialect h.head old.context.moment h.asked (h.behind ++ take n piece) (bodies.Accepted payload)
      ≡ commanded settings.dialect h.head old.context.moment (found_sum h.asked.announced.form payload) [] (command_of new.admission.plan (found_sum h.asked.announced.form payload) payload) = rw (none, planned, h.plan) refl in
      subst (λ (d : Decision). Judges settings old.context.moment false (rest ++ take n piece) d) is_so (body_known n (bodies.Accepted payload) accepted)

  module _ (judge : ReadersJudge) (undecided : ReadersStayOpen) (short : OpenBodiesAreShort) (whole : AcceptedAreWhole) (n : ℕ)
      (fed : IsFed h.asked.announced h.behind piece (Ok n) new.admission.reader)
      (count : taken_of new.admission.reader ≡ taken_of old.admission.reader + n) where
    by_verdict : (verdict : bodies.Verdict) → verdict_of new.admission.reader ≡ verdict → (p : Progress) → Settles h.asked.announced.form new verdict p
        → Progresses settings old.context (rest ++ take n piece) p
    by_verdict (bodies.Open held) at p settles =
        let judged = subst (λ (v : bodies.Verdict). framed.Judges h.asked.announced (h.behind ++ piece) false v) at (judge new.admission.reader h.asked.announced (h.behind ++ piece) false fed.1) in
        let lacks = short h.asked.announced (h.behind ++ piece) held judged in
        let joined = length-append h.behind piece in
        let all : n ≡ length piece = fed.0 ∙ omega (arith, short_here h.asked.announced.framing (h.behind ++ piece) lacks, joined) in
        let same : take n piece ≡ piece = take_all n piece (omega (arith, all)) in
        let body : IsInBody settings new (rest ++ take n piece) = record {
          begun = still_incoming n (rw same fed.1) (count ∙ ap (λ k. k + n) h.taken ∙ rw same (omega (arith, all, joined))) (λ more. rw same (omega (arith, lacks more)));
          held = held;
          undecided = at;
        } in
        subst (λ (q : Progress). Progresses settings old.context (rest ++ take n piece) q) (sym settles) (kept, body)
    by_verdict (bodies.Accepted payload) at p (inl (died, takes)) = rw died tt
    by_verdict (bodies.Accepted payload) at p (inr settles) =
        let judged = subst (λ (v : bodies.Verdict). framed.Judges h.asked.announced (h.behind ++ piece) false v) at (judge new.admission.reader h.asked.announced (h.behind ++ piece) false fed.1) in
        commanded_known n (found_sum h.asked.announced.form payload) (command_of new.admission.plan (found_sum h.asked.announced.form payload) payload) (whole_known whole n payload fed.0 judged) p settles
    by_verdict (bodies.Refused place code) at p settles =
        let still = undecided new.admission.reader fed.2 (rw at refl) in
        let never : bodies.Refused place code ≡ bodies.Open still.0 = sym at ∙ still.1 in
        absurd (cc)

  -- the reader refuses, or memory ran out
  pub progress_err : ReadersJudge → ReadersFail → RefusalsStand → (code : Code) → IsFed h.asked.announced h.behind piece (Err code) new.admission.reader
      → taken_of old.admission.reader ≤ taken_of new.admission.reader → (n : ℕ) → n ≡ taken_of new.admission.reader - taken_of old.admission.reader
      → (p : Progress) → IsRefusedBy code p → Progresses settings old.context (rest ++ take n piece) p
  progress_err judge fail stand code fed counts n is p (inl lost) =
      subst (λ (q : Progress). Progresses settings old.context (rest ++ take n piece) q) (sym lost.1) tt
  progress_err judge fail stand code (failed, inl ran_out) counts n is p (inr refused) = absurd (refused.0 ran_out.0)
  progress_err judge fail stand code (failed, inr stands) counts n is p (inr refused) =
      let bytes = h.behind ++ piece in
      let place = taken_of new.admission.reader in
      let judged = subst (λ (v : bodies.Verdict). framed.Judges h.asked.announced bytes false v) (fail new.admission.reader h.asked.announced bytes false code stands failed) (judge new.admission.reader h.asked.announced bytes false stands) in
      let there = stand h.asked.announced bytes place code judged in
      let front : take place bytes ≡ h.behind ++ take n piece = take_beyond h.behind piece place (omega (arith, counts, h.taken)) ∙ ap (λ k. h.behind ++ take k piece) (omega (arith, is, h.taken)) in
      let known = body_known n (bodies.Refused place code) (subst (λ (b : List ℕ). framed.Judges h.asked.announced b false (bodies.Refused place code)) front there.1) in
      let is_so : concluded settings.dialect h.head old.context.moment h.asked (h.behind ++ take n piece) (bodies.Refused place code) ≡ (verdicts.Refused code old.context.head_only, []) = rw (h.context) refl in
      subst (λ (q : Progress). Progresses settings old.context (rest ++ take n piece) q) (sym refused.1)
      (subst (λ (d : Decision). Judges settings old.context.moment false (rest ++ take n piece) d) is_so known)

-- a whole message isn't open
never_open : (sum : Option Checksum) (rule : Result Command Code) → ¬ (is_open (settled_as sum rule) ≡ true)
never_open sum (Ok command) is = absurd (cc)
never_open sum (Err code) is = absurd (cc)

-- where bytes are still to come, all that came were taken
module _ (judge : ReadersJudge) (undecided : ReadersStayOpen) (short : OpenBodiesAreShort) (settings : Settings) (old new : Incoming) (rest piece : List ℕ)
    (h : IsIncoming settings old rest) (n : ℕ) (fed : IsFed h.asked.announced h.behind piece (Ok n) new.admission.reader) (p : Progress) where
  taken_by : (verdict : bodies.Verdict) → verdict_of new.admission.reader ≡ verdict → Settles h.asked.announced.form new verdict p → is_open p ≡ true → n ≡ length piece
  taken_by (bodies.Open held) at settles still =
      let judged = subst (λ (v : bodies.Verdict). framed.Judges h.asked.announced (h.behind ++ piece) false v) at (judge new.admission.reader h.asked.announced (h.behind ++ piece) false fed.1) in
      fed.0 ∙ omega (arith, short_here h.asked.announced.framing (h.behind ++ piece) (short h.asked.announced (h.behind ++ piece) held judged), length-append h.behind piece)
  taken_by (bodies.Accepted payload) at (inl (died, takes)) still = let same = ap is_open died in absurd (cc)
  taken_by (bodies.Accepted payload) at (inr settles) still = absurd (never_open (found_sum h.asked.announced.form payload) (command_of new.admission.plan (found_sum h.asked.announced.form payload) payload) (sym (ap is_open settles) ∙ still))
  taken_by (bodies.Refused place code) at settles still =
      let open_still = undecided new.admission.reader fed.2 (rw at refl) in
      let never : bodies.Refused place code ≡ bodies.Open open_still.0 = sym at ∙ open_still.1 in
      absurd (cc)

  pub all_taken : Settles h.asked.announced.form new (verdict_of new.admission.reader) p → is_open p ≡ true → n ≡ length piece
  all_taken settles still = taken_by (verdict_of new.admission.reader) refl settles still

-- the reader takes the bytes, and refuses nothing
pub progress_ok : HeadsStay → PairsStay → ReadersJudge → ReadersStayOpen → OpenBodiesAreShort → AcceptedAreWhole
    → (settings : Settings) (old new : Incoming) (rest piece : List ℕ) (h : IsIncoming settings old rest)
    → new.context ≡ old.context → new.admission.plan ≡ old.admission.plan
    → (n : ℕ) → IsFed h.asked.announced h.behind piece (Ok n) new.admission.reader
    → taken_of new.admission.reader ≡ taken_of old.admission.reader + n
    → (p : Progress) → Settles h.asked.announced.form new (verdict_of new.admission.reader) p
    → Progresses settings old.context (rest ++ take n piece) p
progress_ok heads pairs judge undecided short whole settings old new rest piece h kept planned n fed count p settles =
    by_verdict heads pairs settings old new rest piece h kept planned judge undecided short whole n fed count (verdict_of new.admission.reader) refl p settles
