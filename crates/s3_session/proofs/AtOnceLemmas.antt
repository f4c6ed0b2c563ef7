-- Nothing is decided about a message before the byte with which it is.
use Rattle.std.proofs.Common.{◌≡◌, ◌≢◌, ℕ, ◌+◌, ◌-◌, ◌<◌, ◌≤◌, false, List, ◌++◌, take, drop, length, refl, sym, ap, subst, ◌∙◌, arith, inl, inr, append_assoc, length-append, Ok, Err}
use Rattle.std.proofs.lemmas.List.{length-take, take-append-drop}
use Rattle.s3_config.specs.Settings.{Settings}
use Rattle.s3_terms.specs.declared.code.Code.{Code}
use Rattle.s3_aws_chunked.specs.Finality.{DecidesAs, IsDecided}
use Rattle.s3_aws_chunked.specs.Verdict as bodies
use Rattle.s3_framed_bodies.specs.declared.reader.BodyReader.{BodyReader}
use Rattle.s3_framed_bodies.specs.Framed.{FramedBody, size_in}
use Rattle.s3_framed_bodies.specs.Laws.{AcceptedAreWhole, ReadersFail, ReadersJudge, ReadersStayOpen, RefusalsStand, VerdictsAreOne, VerdictsExist}
use Rattle.s3_framed_bodies.specs.Laws.{VerdictsStay as BodiesStay}
use Rattle.s3_framed_bodies.specs.Reader.{IsFed, taken_of, verdict_of}
use Rattle.s3_framed_bodies.specs.Verdict as framed
use Rattle.s3_session.specs.Decision.{Judges, open_yet}
use Rattle.s3_session.specs.declared.incoming.Incoming.{Incoming}
use Rattle.s3_session.specs.declared.incoming.Progress.{Progress}
use Rattle.s3_session.specs.declared.incoming.Progress.TheVariants as progress
use Rattle.s3_session.specs.Incoming.{IsIncoming, IsRefusedBy}
use Rattle.s3_session.proofs.StayLemmas.{HeadsStay, PairsStay}
use Rattle.s3_session.proofs.FrontLemmas.{body_judged, front_more}

-- so many of these bytes are fewer than those with which this is decided
abbrev IsEarly : FramedBody → List ℕ → ℕ → bodies.Verdict → Type 0
IsEarly announced all n (bodies.Open held) = Unit {0}
IsEarly announced all n (bodies.Accepted payload) = n < size_in announced.framing all
IsEarly announced all n (bodies.Refused place code) = n < place

still_early : (announced : FramedBody) (all : List ℕ) (n m : ℕ) (verdict : bodies.Verdict) → n ≤ m → IsEarly announced all m verdict
    → IsEarly announced all n verdict
still_early announced all n m (bodies.Open held) le early = tt
still_early announced all n m (bodies.Accepted payload) le early = omega (arith, le, early)
still_early announced all n m (bodies.Refused place code) le early = omega (arith, le, early)

module _ (stay : BodiesStay) (one : VerdictsAreOne) (exist : VerdictsExist) (stand : RefusalsStand) (whole : AcceptedAreWhole) where
  -- a body is open before
  module _ (announced : FramedBody) (bytes more : List ℕ) (final : bodies.Verdict) (reached : framed.Judges announced (bytes ++ more) false final) (early : IsEarly announced (bytes ++ more) (length bytes) final) where
    decides : (known : bodies.Verdict) → framed.Judges announced bytes false known → IsDecided known → DecidesAs known final
    decides known judged decided = one announced (bytes ++ more) false known final (stay announced bytes more false known judged decided) reached

    too_late : (known other : bodies.Verdict) → framed.Judges announced bytes false known → IsDecided known → DecidesAs known other → ¬ (IsEarly announced (bytes ++ more) (length bytes) other)
    too_late (bodies.Open held) other judged decided same soon = absurd decided
    too_late (bodies.Accepted payload) (bodies.Open held) judged decided same soon = absurd same
    too_late (bodies.Accepted payload) (bodies.Accepted also) judged decided same soon = (let known_whole = whole announced bytes false payload judged in absurd (omega (arith, known_whole.come, known_whole.stays more, soon)))
    too_late (bodies.Accepted payload) (bodies.Refused place code) judged decided same soon = absurd same
    too_late (bodies.Refused place code) (bodies.Open held) judged decided same soon = absurd same
    too_late (bodies.Refused place code) (bodies.Accepted also) judged decided same soon = absurd same
    too_late (bodies.Refused place code) (bodies.Refused at other) judged decided same soon = absurd (omega (arith, same.0, (stand announced bytes place code judged).0, soon))

    open_as : (known : bodies.Verdict) → framed.Judges announced bytes false known → (held : List ℕ) × framed.Judges announced bytes false (bodies.Open held)
    open_as (bodies.Open held) judged = (held, judged)
    open_as (bodies.Accepted payload) judged = absurd (too_late (bodies.Accepted payload) final judged tt (decides (bodies.Accepted payload) judged tt) early)
    open_as (bodies.Refused place code) judged = absurd (too_late (bodies.Refused place code) final judged tt (decides (bodies.Refused place code) judged tt) early)

    open_before : (held : List ℕ) × framed.Judges announced bytes false (bodies.Open held)
    open_before = let known = exist announced bytes false in open_as known.0 known.1

  module _ (heads : HeadsStay) (pairs : PairsStay) (settings : Settings) (old : Incoming) (rest piece : List ℕ) (h : IsIncoming settings old rest) where
    -- and so is its message
    message_open : (k : ℕ) (final : bodies.Verdict) → framed.Judges h.asked.announced (h.behind ++ piece) false final → IsEarly h.asked.announced (h.behind ++ piece) (length h.behind + k) final
        → Judges settings old.context.moment false (rest ++ take k piece) open_yet
    message_open k final judged early =
        let announced = h.asked.announced in
        let bytes = h.behind ++ take k piece in
        let all : h.behind ++ piece ≡ bytes ++ drop k piece = ap (λ l. h.behind ++ l) (sym (take-append-drop k piece)) ∙ sym (append_assoc h.behind (take k piece) (drop k piece)) in
        let few : length bytes ≤ length h.behind + k = omega (arith, length-append h.behind (take k piece), length-take k piece) in
        let known = open_before announced bytes (drop k piece) final (subst (λ (b : List ℕ). framed.Judges announced b false final) all judged)
        (subst (λ (b : List ℕ). IsEarly announced b (length bytes) final) all (still_early announced (h.behind ++ piece) (length bytes) (length h.behind + k) final few early)) in
        body_judged settings old.context.moment false (rest ++ take k piece) h.text bytes h.head
        (front_more heads pairs rest h.text h.behind (take k piece) (record { found = h.found; joined = h.joined })) h.says h.asked h.admitted (bodies.Open known.0) known.1

    -- where its reader refuses nothing
    module _ (reader : BodyReader) (n : ℕ) (fed : IsFed h.asked.announced h.behind piece (Ok n) reader) (judge : ReadersJudge) (undecided : ReadersStayOpen) where
      early_of : (k : ℕ) → k < n → (final : bodies.Verdict) → verdict_of reader ≡ final → IsEarly h.asked.announced (h.behind ++ piece) (length h.behind + k) final
      early_of k less (bodies.Open held) at = tt
      early_of k less (bodies.Accepted payload) at = omega (arith, less, fed.0)
      early_of k less (bodies.Refused place code) at =
          let still = undecided reader fed.2 (rw at refl) in
          let never : bodies.Refused place code ≡ bodies.Open still.0 = sym at ∙ still.1 in
          absurd (cc)

      pub taken_open : (k : ℕ) → k < n → Judges settings old.context.moment false (rest ++ take k piece) open_yet
      taken_open k less =
          message_open k (verdict_of reader) (judge reader h.asked.announced (h.behind ++ piece) false fed.1)
          (early_of k less (verdict_of reader) refl)

    -- where it refuses the body, and memory did not run out
    pub refused_open : (reader : BodyReader) → ReadersJudge → ReadersFail → (code : Code) → IsFed h.asked.announced h.behind piece (Err code) reader
        → (n : ℕ) → n ≡ taken_of reader - taken_of old.admission.reader → (p : Progress) → IsRefusedBy code p → p ≢ progress.Died
        → (k : ℕ) → k < n → Judges settings old.context.moment false (rest ++ take k piece) open_yet
    refused_open reader judge fail code fed n is p (inl lost) lives k less = absurd (lives lost.1)
    refused_open reader judge fail code (failed, inl ran_out) n is p (inr refused) lives k less = absurd (refused.0 ran_out.0)
    refused_open reader judge fail code (failed, inr stands) n is p (inr refused) lives k less =
        let bytes = h.behind ++ piece in
        let place = taken_of reader in
        let judged = subst (λ (v : bodies.Verdict). framed.Judges h.asked.announced bytes false v) (fail reader h.asked.announced bytes false code stands failed) (judge reader h.asked.announced bytes false stands) in
        message_open k (bodies.Refused place code) judged (omega (arith, is, less, h.taken))
