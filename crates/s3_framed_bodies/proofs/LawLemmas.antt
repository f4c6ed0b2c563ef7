-- What is known of a body, however its end is told, by what is known of each way.
use Rattle.std.proofs.Common.{◌≡◌, ℕ, ◌+◌, ◌<◌, ◌≤◌, Bool, true, false, min, List, [], ◌++◌, take, length, refl, sym, ap, subst, ◌∙◌, arith, append-nil, length-append}
use Rattle.std.proofs.lemmas.List.{length-take-le}
use Rattle.s3_terms.specs.declared.code.Code.{Code}
use Rattle.s3_terms.specs.declared.code.Code.TheVariants.{IncompleteBody}
use Rattle.s3_http_heads.specs.declared.body_length.BodyFraming.{BodyFraming}
use Rattle.s3_http_heads.specs.declared.body_length.BodyFraming.TheVariants.{Sized, Coded}
use Rattle.s3_signing.specs.Verdict.{Proved}
use Rattle.s3_aws_chunked.specs.Finality.{DecidesAs, IsDecided}
use Rattle.s3_aws_chunked.specs.Verdict.{Verdict, Accepted, Open, Refused, accepts}
use Rattle.s3_payloads.specs.Form.{IsSentAsItIs}
use Rattle.s3_payloads.specs.Laws as payloads
use Rattle.s3_payloads.specs.Reader as readers
use Rattle.s3_payloads.specs.declared.form.Form.{Form}
use Rattle.s3_payloads.specs.declared.reader.PayloadReader.{PayloadReader}
use Rattle.s3_transfer_chunks.specs.Body.{AcceptedAreBodies, BodiesAreAccepted, IsTransferBody}
use Rattle.s3_transfer_chunks.specs.Finality as codings
use Rattle.s3_transfer_chunks.specs.Reading.{taken_in}
use Rattle.s3_transfer_chunks.specs.Verdict as transfer
use Rattle.s3_framed_bodies.specs.Coded.{StageFailed, StageStands, coded_taken, stage_verdict}
use Rattle.s3_framed_bodies.specs.Framed.{Ends, FramedBody, IsDataOf, announced_with, size_in}
use Rattle.s3_framed_bodies.specs.Laws.{AcceptedAreWhole, AreShort, EndsAreSizes, EndsDecide, OpenBodiesAreShort, OpenBodiesEndIncomplete, ReadersFail, ReadersJudge, ReadersStayOpen, ReadersStayWithin, RefusalsStand, VerdictsAreOne, VerdictsExist, VerdictsStay, WholePayloadsAreData}
use Rattle.s3_framed_bodies.specs.Reader.{CodedFor, HasFailed, KindFailed, KindStands, SizedFor, kind_taken, kind_verdict}
use Rattle.s3_framed_bodies.specs.Verdict.{CodingJudged, FramingJudged}
use Rattle.s3_framed_bodies.specs.declared.coded.CodedReader.{CodedReader}
use Rattle.s3_framed_bodies.specs.declared.coded.Stage.{Stage}
use Rattle.s3_framed_bodies.specs.declared.coded.Stage.TheVariants as stages
use Rattle.s3_framed_bodies.specs.declared.reader.Kind.{Kind}
use Rattle.s3_framed_bodies.specs.declared.reader.Kind.TheVariants as kinds
use Rattle.s3_framed_bodies.proofs.CodingLemmas.{accepted_by, accepted_place, coding_ends, coding_exists, coding_one, coding_open, coding_payload, coding_stands, coding_stays, taken_within, takes_more}

-- ---- verdicts

stays_by : payloads.VerdictsStay → codings.VerdictsStay → (framing : BodyFraming) (form : Form) (proved : Proved) (bytes more : List ℕ) (ended : Bool) (verdict : Verdict)
    → FramingJudged framing form proved bytes false verdict → IsDecided verdict → FramingJudged framing form proved (bytes ++ more) ended verdict
stays_by law coding (Sized size) form proved bytes more ended verdict judged decided =
    law (announced_with form proved size) bytes more ended verdict judged decided
stays_by law coding (Coded limit decoded) form proved bytes more ended verdict judged decided =
    coding_stays form proved decoded coding limit bytes more ended verdict judged decided

pub verdicts_stay : payloads.VerdictsStay → codings.VerdictsStay → VerdictsStay
verdicts_stay law coding body bytes more ended verdict judged decided =
    stays_by law coding body.framing body.form body.proved bytes more ended verdict judged decided

one_by : payloads.VerdictsAreOne → (framing : BodyFraming) (form : Form) (proved : Proved) (bytes : List ℕ) (ended : Bool) (one other : Verdict)
    → FramingJudged framing form proved bytes ended one → FramingJudged framing form proved bytes ended other → DecidesAs one other
one_by law (Sized size) form proved bytes ended one other is also = law (announced_with form proved size) bytes ended one other is also
one_by law (Coded limit decoded) form proved bytes ended one other is also =
    coding_one form proved decoded law (transfer.verdict_of limit bytes ended) one other is also

pub verdicts_are_one : payloads.VerdictsAreOne → VerdictsAreOne
verdicts_are_one law body bytes ended one other is also = one_by law body.framing body.form body.proved bytes ended one other is also

exists_by : payloads.VerdictsExist → (framing : BodyFraming) (form : Form) (proved : Proved) (bytes : List ℕ) (ended : Bool)
    → (verdict : Verdict) × FramingJudged framing form proved bytes ended verdict
exists_by law (Sized size) form proved bytes ended = law (announced_with form proved size) bytes ended
exists_by law (Coded limit decoded) form proved bytes ended = coding_exists form proved decoded law (transfer.verdict_of limit bytes ended)

pub verdicts_exist : payloads.VerdictsExist → VerdictsExist
verdicts_exist law body bytes ended = exists_by law body.framing body.form body.proved bytes ended

ends_by : payloads.EndsDecide → codings.EndsDecide → (framing : BodyFraming) (form : Form) (proved : Proved) (bytes : List ℕ) (verdict : Verdict)
    → FramingJudged framing form proved bytes true verdict → IsDecided verdict
ends_by law coding (Sized size) form proved bytes verdict judged = law (announced_with form proved size) bytes verdict judged
ends_by law coding (Coded limit decoded) form proved bytes verdict judged =
    coding_ends form proved decoded law (transfer.verdict_of limit bytes true) verdict (coding limit bytes) judged

pub ends_decide : payloads.EndsDecide → codings.EndsDecide → EndsDecide
ends_decide law coding body bytes verdict judged = ends_by law coding body.framing body.form body.proved bytes verdict judged

-- ---- open bodies

sized_short : (size : ℕ) (bytes : List ℕ) → length bytes < size → AreShort (Sized size) bytes
sized_short size bytes less more = omega (arith, less)

module _ (law : payloads.OpenBodiesAreShort) (ended : payloads.EndsDecide) (bodies : AcceptedAreBodies) (accepted : BodiesAreAccepted) (stand : codings.RefusalsStand) (take_all : codings.OpenBodiesTakeAll) (stay : codings.VerdictsStay) where
  short_by : (framing : BodyFraming) (form : Form) (proved : Proved) (bytes held : List ℕ) → FramingJudged framing form proved bytes false (Open held)
      → AreShort framing bytes
  short_by (Sized size) form proved bytes held judged = sized_short size bytes (law (announced_with form proved size) bytes held judged)
  short_by (Coded limit decoded) form proved bytes held judged = λ more.
      takes_more bodies accepted stand take_all stay limit bytes more held
      (coding_open form proved decoded ended (transfer.verdict_of limit bytes false) held judged)

  pub open_are_short : OpenBodiesAreShort
  open_are_short body bytes held judged = short_by body.framing body.form body.proved bytes held judged

incomplete_by : payloads.OpenBodiesEndIncomplete → payloads.EndsDecide → codings.OpenBodiesEndIncomplete → (framing : BodyFraming) (form : Form) (proved : Proved) (bytes held : List ℕ)
    → FramingJudged framing form proved bytes false (Open held) → FramingJudged framing form proved bytes true (Refused (length bytes) IncompleteBody)
incomplete_by law ended coding (Sized size) form proved bytes held judged = law (announced_with form proved size) bytes held judged
incomplete_by law ended coding (Coded limit decoded) form proved bytes held judged =
    subst (λ (told : transfer.Verdict). CodingJudged form proved decoded told (Refused (length bytes) IncompleteBody))
    (sym (coding limit bytes held (coding_open form proved decoded ended (transfer.verdict_of limit bytes false) held judged))) refl

pub open_end_incomplete : payloads.OpenBodiesEndIncomplete → payloads.EndsDecide → codings.OpenBodiesEndIncomplete → OpenBodiesEndIncomplete
open_end_incomplete law ended coding body bytes held judged = incomplete_by law ended coding body.framing body.form body.proved bytes held judged

-- ---- a refusal stands

stands_by : payloads.RefusalsStand → AcceptedAreBodies → BodiesAreAccepted → codings.RefusalsStand → (framing : BodyFraming) (form : Form) (proved : Proved) (bytes : List ℕ) (place : ℕ) (code : Code)
    → FramingJudged framing form proved bytes false (Refused place code)
    → (place ≤ length bytes) × FramingJudged framing form proved (take place bytes) false (Refused place code)
stands_by law bodies accepted coding (Sized size) form proved bytes place code judged = law (announced_with form proved size) bytes place code judged
stands_by law bodies accepted coding (Coded limit decoded) form proved bytes place code judged =
    coding_stands form proved decoded bodies accepted coding limit bytes place code judged

pub refusals_stand : payloads.RefusalsStand → AcceptedAreBodies → BodiesAreAccepted → codings.RefusalsStand → RefusalsStand
refusals_stand law bodies accepted coding body bytes place code judged =
    stands_by law bodies accepted coding body.framing body.form body.proved bytes place code judged

-- ---- what is accepted is whole

module _ (law : payloads.AcceptedAreWhole) (bodies : AcceptedAreBodies) (accepted : BodiesAreAccepted) (stand : codings.RefusalsStand) (fixed : codings.NoMoreIsTaken) where
  whole_by : (framing : BodyFraming) (form : Form) (proved : Proved) (bytes : List ℕ) (ended : Bool) (payload : List ℕ)
      → FramingJudged framing form proved bytes ended (Accepted payload)
      → (size_in framing bytes ≤ length bytes)
      × FramingJudged framing form proved (take (size_in framing bytes) bytes) false (Accepted payload)
      × Ends framing (take (size_in framing bytes) bytes)
      × ((more : List ℕ) → size_in framing (bytes ++ more) ≡ size_in framing bytes)
  whole_by (Sized size) form proved bytes ended payload judged =
      let front = law (announced_with form proved size) bytes ended payload judged in
      (front.0, front.1, (take size bytes, (refl, length-take-le size bytes front.0)), λ more. refl)
  whole_by (Coded limit decoded) form proved bytes ended payload judged =
      let whole = accepted_by form proved decoded bodies accepted stand fixed limit bytes ended payload (transfer.verdict_of limit bytes ended) refl judged in
      (whole.0, whole.1, (whole.2.0, (whole.2.1, whole.2.2)), whole.3)

  pub accepted_are_whole : AcceptedAreWhole
  accepted_are_whole body bytes ended payload judged =
      let whole = whole_by body.framing body.form body.proved bytes ended payload judged in
      record { come = whole.0; alone = whole.1; ends = whole.2; stays = whole.3 }

pub ends_are_sizes : BodiesAreAccepted → EndsAreSizes
ends_are_sizes accepted (Sized size) bytes more (held, (same, is)) = sym is
ends_are_sizes accepted (Coded limit decoded) bytes more (held, (is, within)) =
    sym (accepted_place limit (bytes ++ more) false (length bytes) held (accepted limit bytes more false held is within))

payload_by : payloads.WholePayloadsAreBodies → BodiesAreAccepted → (framing : BodyFraming) (form : Form) (proved : Proved) (bytes payload : List ℕ) → IsSentAsItIs form → Ends framing bytes
    → FramingJudged framing form proved bytes false (Accepted payload) → IsDataOf framing bytes payload
payload_by law accepted (Sized size) form proved bytes payload plain (held, (same, is)) judged = (law (announced_with form proved size) bytes payload false plain is judged, is)
payload_by law accepted (Coded limit decoded) form proved bytes payload plain (held, (is, within)) judged =
    let told = ap (λ (b : List ℕ). transfer.verdict_of limit b false) (sym (append-nil bytes)) ∙ accepted limit bytes [] false held is within in
    let same = coding_payload form proved decoded law plain (transfer.verdict_of limit bytes false) (length bytes) held payload told judged in
    (subst (IsTransferBody bytes) (sym same) is, subst (λ (b : List ℕ). length b ≤ limit) (sym same) within)

pub whole_payloads : payloads.WholePayloadsAreBodies → BodiesAreAccepted → WholePayloadsAreData
whole_payloads law accepted body bytes payload plain ends judged = payload_by law accepted body.framing body.form body.proved bytes payload plain ends judged

-- ---- readers

stage_judges : (stage : Stage) (reader : CodedReader) (body : FramedBody) (limit decoded : ℕ) (bytes : List ℕ) (ended : Bool)
    → StageStands stage reader body limit decoded bytes ended
    → CodingJudged body.form body.proved decoded (transfer.verdict_of limit bytes ended) (stage_verdict stage (coded_taken reader) reader.held)
stage_judges stages.Coming reader body limit decoded bytes ended stands =
    subst (λ (e : Bool). CodingJudged body.form body.proved decoded (transfer.verdict_of limit bytes e) (Open reader.held)) (sym stands.going)
    (subst (λ (told : transfer.Verdict). CodingJudged body.form body.proved decoded told (Open reader.held)) (sym stands.still) refl)
stage_judges (stages.Passed payload sum) reader body limit decoded bytes ended stands = stands.0
stage_judges (stages.Failed code) reader body limit decoded bytes ended stands = stands

sized_judges : payloads.PayloadsJudge → (framing : BodyFraming) (reader : PayloadReader) (body : FramedBody) (bytes : List ℕ) (ended : Bool)
    → SizedFor framing reader body bytes ended → FramingJudged framing body.form body.proved bytes ended (readers.verdict_of reader)
sized_judges law (Sized size) reader body bytes ended stands = law reader (announced_with body.form body.proved size) bytes ended stands
sized_judges law (Coded limit decoded) reader body bytes ended stands = absurd stands

coded_judges : (framing : BodyFraming) (reader : CodedReader) (body : FramedBody) (bytes : List ℕ) (ended : Bool)
    → CodedFor framing reader body bytes ended → FramingJudged framing body.form body.proved bytes ended (stage_verdict reader.stage (coded_taken reader) reader.held)
coded_judges (Sized size) reader body bytes ended stands = absurd stands
coded_judges (Coded limit decoded) reader body bytes ended stands = stage_judges reader.stage reader body limit decoded bytes ended stands.stands

kind_judges : payloads.PayloadsJudge → (kind : Kind) (body : FramedBody) (bytes : List ℕ) (ended : Bool) → KindStands kind body bytes ended
    → FramingJudged body.framing body.form body.proved bytes ended (kind_verdict kind)
kind_judges law (kinds.Sized reader) body bytes ended stands = sized_judges law body.framing reader body bytes ended stands
kind_judges law (kinds.Coded reader) body bytes ended stands = coded_judges body.framing reader body bytes ended stands

pub readers_judge : payloads.PayloadsJudge → ReadersJudge
readers_judge law reader body bytes ended stands = kind_judges law reader.kind body bytes ended stands

module _ (law : payloads.PayloadsStayWithin) (bodies : AcceptedAreBodies) (stand : codings.RefusalsStand) (take_all : codings.OpenBodiesTakeAll) where
  sized_within : (framing : BodyFraming) (reader : PayloadReader) (body : FramedBody) (bytes : List ℕ) (ended : Bool)
      → SizedFor framing reader body bytes ended → readers.taken_of reader ≤ length bytes
  sized_within (Sized size) reader body bytes ended stands = law reader (announced_with body.form body.proved size) bytes ended stands
  sized_within (Coded limit decoded) reader body bytes ended stands = absurd stands

  coded_within : (framing : BodyFraming) (reader : CodedReader) (body : FramedBody) (bytes : List ℕ) (ended : Bool)
      → CodedFor framing reader body bytes ended → coded_taken reader ≤ length bytes
  coded_within (Sized size) reader body bytes ended stands = absurd stands
  coded_within (Coded limit decoded) reader body bytes ended stands = omega (arith, stands.counts, taken_within bodies stand take_all limit bytes)

  kind_within : (kind : Kind) (body : FramedBody) (bytes : List ℕ) (ended : Bool) → KindStands kind body bytes ended → kind_taken kind ≤ length bytes
  kind_within (kinds.Sized reader) body bytes ended stands = sized_within body.framing reader body bytes ended stands
  kind_within (kinds.Coded reader) body bytes ended stands = coded_within body.framing reader body bytes ended stands

  pub readers_stay_within : ReadersStayWithin
  readers_stay_within reader body bytes ended stands = kind_within reader.kind body bytes ended stands

stage_fails : (stage : Stage) (taken : ℕ) (held : List ℕ) (code : Code) → StageFailed stage code → stage_verdict stage taken held ≡ Refused taken code
stage_fails stages.Coming taken held code failed = absurd failed
stage_fails (stages.Passed payload sum) taken held code failed = absurd failed
stage_fails (stages.Failed other) taken held code failed = ap (Refused taken) failed

sized_fails : payloads.PayloadsFail → (framing : BodyFraming) (reader : PayloadReader) (body : FramedBody) (bytes : List ℕ) (ended : Bool) (code : Code)
    → SizedFor framing reader body bytes ended → readers.HasFailed reader code → readers.verdict_of reader ≡ Refused (readers.taken_of reader) code
sized_fails law (Sized size) reader body bytes ended code stands failed = law reader (announced_with body.form body.proved size) bytes ended code stands failed
sized_fails law (Coded limit decoded) reader body bytes ended code stands failed = absurd stands

kind_fails : payloads.PayloadsFail → (kind : Kind) (body : FramedBody) (bytes : List ℕ) (ended : Bool) (code : Code) → KindStands kind body bytes ended
    → KindFailed kind code → kind_verdict kind ≡ Refused (kind_taken kind) code
kind_fails law (kinds.Sized reader) body bytes ended code stands failed = sized_fails law body.framing reader body bytes ended code stands failed
kind_fails law (kinds.Coded reader) body bytes ended code stands failed = stage_fails reader.stage (coded_taken reader) reader.held code failed

pub readers_fail : payloads.PayloadsFail → ReadersFail
readers_fail law reader body bytes ended code stands failed = kind_fails law reader.kind body bytes ended code stands failed

stage_open : (stage : Stage) (taken : ℕ) (held : List ℕ) → ((code : Code) → ¬ (StageFailed stage code)) → accepts (stage_verdict stage taken held) ≡ false
    → (others : List ℕ) × (stage_verdict stage taken held ≡ Open others)
stage_open stages.Coming taken held never is = (held, refl)
stage_open (stages.Passed payload sum) taken held never is = absurd (cc)
stage_open (stages.Failed code) taken held never is = absurd (never code refl)

kind_open : payloads.PayloadsStayOpen → (kind : Kind) → ((code : Code) → ¬ (KindFailed kind code)) → accepts (kind_verdict kind) ≡ false
    → (held : List ℕ) × (kind_verdict kind ≡ Open held)
kind_open law (kinds.Sized reader) never is = law reader never is
kind_open law (kinds.Coded reader) never is = stage_open reader.stage (coded_taken reader) reader.held never is

pub readers_stay_open : payloads.PayloadsStayOpen → ReadersStayOpen
readers_stay_open law reader never is = kind_open law reader.kind never is
