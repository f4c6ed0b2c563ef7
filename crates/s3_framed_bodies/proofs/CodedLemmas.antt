-- How a reader of a body in the transfer coding goes on.
use Rattle.std.proofs.Common.{◌≡◌, ◌≢◌, ◌⊎◌, ℕ, ◌+◌, ◌-◌, ◌^◌, ◌<◌, ◌≤◌, Bool, true, false, min, List, [], ◌++◌, take, length, refl, sym, ap, subst, ◌∙◌, arith, inl, inr, append-nil, length-append, Option, Some, None, Result, Ok, Err, IfOk}
use Rattle.std.specs.Prelude.{⊤, if◌then◌else◌}
use Rattle.std.proofs.lemmas.Bool.{cases_Bool}
use Rattle.s3_terms.specs.declared.code.Code.{Code}
use Rattle.s3_terms.specs.declared.code.Code.TheVariants.{InternalError, IncompleteBody}
use Rattle.s3_integrity.specs.declared.checksum.Checksum.{Checksum}
use Rattle.s3_aws_chunked.specs.Finality.{IsDecided}
use Rattle.s3_aws_chunked.specs.Verdict.{Accepted, Refused}
use Rattle.s3_payloads.specs.FoundSum.{found_sum}
use Rattle.s3_payloads.specs.Outcome.{EndedTo, FedTo}
use Rattle.s3_payloads.specs.declared.form.Form.{Form}
use Rattle.s3_signing.specs.Verdict.{Proved}
use Rattle.s3_transfer_chunks.specs.Body.{AcceptedAreBodies, BodiesAreAccepted}
use Rattle.s3_transfer_chunks.specs.Decoder as decoders
use Rattle.s3_transfer_chunks.specs.Finality as codings
use Rattle.s3_transfer_chunks.specs.Laws.{DecodersJudge}
use Rattle.s3_transfer_chunks.specs.Reading.{code_at, code_of, taken_in}
use Rattle.s3_transfer_chunks.specs.Sinks.{Grows, got}
use Rattle.s3_transfer_chunks.specs.Verdict as transfer
use Rattle.s3_transfer_chunks.specs.Verdict.{verdict_at}
use Rattle.s3_transfer_chunks.specs.declared.decoder.TransferDecoder.{TransferDecoder}
use Rattle.s3_transfer_chunks.specs.declared.place.Fault.{Fault}
use Rattle.s3_transfer_chunks.specs.declared.place.Fault.TheVariants as faults
use Rattle.s3_transfer_chunks.specs.declared.place.Place.{Place}
use Rattle.s3_transfer_chunks.specs.declared.place.Place.TheVariants as places
use Rattle.s3_framed_bodies.specs.Coded.{CodedFailed, CodedPassed, CodedStands, Decoded, IsComing, SettledTo, StageFailed, StageStands, coded_part, coded_taken, coded_verdict, stage_verdict}
use Rattle.s3_framed_bodies.specs.Data.{DataTold}
use Rattle.s3_framed_bodies.specs.Framed.{FramedBody}
use Rattle.s3_framed_bodies.specs.Verdict.{CodingJudged, DataJudged}
use Rattle.s3_framed_bodies.specs.declared.coded.CodedReader.{CodedReader}
use Rattle.s3_framed_bodies.specs.declared.coded.Stage.{Stage}
use Rattle.s3_framed_bodies.specs.declared.coded.Stage.TheVariants.{Coming, Passed, Failed}
use Rattle.s3_framed_bodies.proofs.CodingLemmas.{accepted_alone, accepted_by, accepted_place, coding_decided, coding_size, coding_stays, decided_behind, taken_within, takes_more}

-- ---- what a decoder says

place_open : (place : Place) (taken : ℕ) (held : List ℕ) → ((code : Code) → ¬ (code_at place ≡ Some code)) → transfer.accepts (verdict_at place taken held) ≡ false
    → verdict_at place taken held ≡ transfer.Open held
place_open places.Over taken held never is = absurd (cc)
place_open (places.Size digits) taken held never is = refl
place_open (places.Line size tail) taken held never is = refl
place_open (places.Data left) taken held never is = refl
place_open places.DataEnd taken held never is = refl
place_open places.Last taken held never is = refl
place_open places.LastEnd taken held never is = refl
place_open (places.Refused fault) taken held never is = absurd (never (code_of fault) refl)

place_over : (place : Place) (taken : ℕ) (held : List ℕ) → transfer.accepts (verdict_at place taken held) ≡ true
    → verdict_at place taken held ≡ transfer.Accepted taken held
place_over places.Over taken held is = refl
place_over (places.Size digits) taken held is = absurd (cc)
place_over (places.Line size tail) taken held is = absurd (cc)
place_over (places.Data left) taken held is = absurd (cc)
place_over places.DataEnd taken held is = absurd (cc)
place_over places.Last taken held is = absurd (cc)
place_over places.LastEnd taken held is = absurd (cc)
place_over (places.Refused fault) taken held is = absurd (cc)

fault_other : (fault : Fault) (code : Code) → code_of fault ≡ code → code ≢ InternalError
fault_other faults.Invalid code is = λ same. absurd (cc)
fault_other faults.TooLarge code is = λ same. absurd (cc)
fault_other faults.Incomplete code is = λ same. absurd (cc)

place_failed : (place : Place) (taken : ℕ) (held : List ℕ) (code : Code) → code_at place ≡ Some code
    → (code ≢ InternalError) × (verdict_at place taken held ≡ transfer.Refused taken code)
place_failed places.Over taken held code is = absurd (cc)
place_failed (places.Size digits) taken held code is = absurd (cc)
place_failed (places.Line size tail) taken held code is = absurd (cc)
place_failed (places.Data left) taken held code is = absurd (cc)
place_failed places.DataEnd taken held code is = absurd (cc)
place_failed places.Last taken held code is = absurd (cc)
place_failed places.LastEnd taken held code is = absurd (cc)
place_failed (places.Refused fault) taken held code is =
    let same : code_of fault ≡ code = cc in
    (fault_other fault code same, ap (transfer.Refused taken) same)

failed_by : (lost : Bool) (place : Place) (taken : ℕ) (held : List ℕ) (code : Code) → (if lost then Some InternalError else code_at place) ≡ Some code
    → (code ≡ InternalError) ⊎ ((code ≢ InternalError) × (verdict_at place taken held ≡ transfer.Refused taken code))
failed_by true place taken held code is = inl cc
failed_by false place taken held code is = inr (place_failed place taken held code is)

-- a decoder that has refused has lost its memory, or says so of its body
decoder_failed : (decoder : TransferDecoder) (held : List ℕ) (code : Code) → decoders.Failed decoder code
    → (code ≡ InternalError) ⊎ ((code ≢ InternalError) × (decoders.verdict_by decoder held ≡ transfer.Refused (decoders.taken_of decoder) code))
decoder_failed decoder held code is = failed_by decoder.lost decoder.standing.place (decoders.taken_of decoder) held code is

-- one that hasn't lost it and refuses nothing
decoder_kept : (decoder : TransferDecoder) → decoder.lost ≡ false → ((code : Code) → ¬ (decoders.Failed decoder code)) → (code : Code) → ¬ (code_at decoder.standing.place ≡ Some code)
decoder_kept decoder kept never code is =
    never code (ap (λ (lost : Bool). if lost then Some InternalError else code_at decoder.standing.place) kept ∙ is)

-- a sink has what it had, and what it got
pub stands_at : (decoder : TransferDecoder) (limit : ℕ) (bytes before after : List ℕ) → decoders.Stands decoder limit bytes false (before ++ got before after)
    → Grows before after → decoders.Stands decoder limit bytes false after
stands_at decoder limit bytes before after stands grows = subst (λ (held : List ℕ). decoders.Stands decoder limit bytes false held) (sym grows) stands

-- what is counted isn't cut where it is less than 2^64 - 1
pub taken_exact : (decoder : TransferDecoder) (limit : ℕ) (bytes held : List ℕ) → decoders.Stands decoder limit bytes false held → decoders.taken_of decoder < 2 ^ 64 - 1
    → decoders.taken_of decoder ≡ taken_in limit bytes
taken_exact decoder limit bytes held stands fits = omega (arith, stands.counts, fits)

pub map_ok : {A : Type 0} (result : Result A Code) (P Q : A → Type 0) → ((value : A) → P value → Q value) → IfOk result P → IfOk result Q
map_ok (Ok value) P Q to is = to value is
map_ok (Err code) P Q to is = tt

-- ---- a piece

module _ (bodies : AcceptedAreBodies) (accepted : BodiesAreAccepted) (judge : DecodersJudge) (take_all : codings.OpenBodiesTakeAll) (stand : codings.RefusalsStand) (stay : codings.VerdictsStay)
    (old mid : CodedReader) (piece : List ℕ) (body : FramedBody) (limit decoded : ℕ) (bytes : List ℕ) (h : CodedStands old body limit decoded bytes false) (coming : old.stage ≡ Coming)
    (keeps : mid ≡ record old { decoder = mid.decoder; held = mid.held }) where
  came : IsComing old limit bytes false
  came = subst (λ (s : Stage). StageStands s old body limit decoded bytes false) coming h.stands

  all_taken : taken_in limit bytes ≡ length bytes
  all_taken = take_all limit bytes old.held came.still

  -- what the decoder says is the verdict on the coding
  known : Decoded mid piece limit bytes → coded_taken mid < 2 ^ 64 - 1 → transfer.verdict_of limit (bytes ++ piece) false ≡ decoders.verdict_by mid.decoder mid.held
  known decodes fits = sym (judge mid.decoder limit (bytes ++ piece) false mid.held decodes.0 (omega (arith, decodes.1, fits)))

  -- the coding is decided behind the bytes that came before
  part_some : (p : ℕ) → length bytes < p → p ≡ taken_in limit (bytes ++ piece) → 0 < coded_part limit bytes piece
  part_some p behind is = omega (arith, behind, is, taken_within bodies stand take_all limit (bytes ++ piece), length-append bytes piece)

  module _ (new : CodedReader) (form : new.form ≡ old.form) (proved : new.verified ≡ old.verified) (says : new.decoded ≡ old.decoded) (decoder : new.decoder ≡ mid.decoder) where
    stands_as : Decoded mid piece limit bytes → coded_taken mid < 2 ^ 64 - 1 → StageStands new.stage new body limit decoded (bytes ++ piece) false
        → CodedStands new body limit decoded (bytes ++ piece) false
    stands_as decodes fits stands = record {
      form = form ∙ h.form;
      proved = proved ∙ h.proved;
      says = says ∙ h.says;
      counts = ap decoders.taken_of decoder ∙ decodes.1;
      fits = subst (λ (d : TransferDecoder). decoders.taken_of d < 2 ^ 64 - 1) (sym decoder) fits;
      stands = stands;
    }

    -- memory ran out in the piece
    fed_lost : new.stage ≡ Failed InternalError → 0 < length piece
        → FedTo piece (coded_part limit bytes piece) (CodedStands new body limit decoded (bytes ++ piece) false) (CodedFailed new) (Err InternalError)
    fed_lost stage some =
        let more = takes_more bodies accepted stand take_all stay limit bytes piece old.held came.still in
        (subst (λ (s : Stage). StageFailed s InternalError) (sym stage) refl, inl (refl, omega (arith, some, more)))

    -- the coding is refused
    fed_refused : (code : Code) → new.stage ≡ Failed code → Decoded mid piece limit bytes → coded_taken mid < 2 ^ 64 - 1
        → decoders.verdict_by mid.decoder mid.held ≡ transfer.Refused (coded_taken mid) code
        → FedTo piece (coded_part limit bytes piece) (CodedStands new body limit decoded (bytes ++ piece) false) (CodedFailed new) (Err code)
    fed_refused code stage decodes fits says_so =
        let told = known decodes fits ∙ says_so in
        let same : coded_taken new ≡ coded_taken mid = ap decoders.taken_of decoder in
        let judged : CodingJudged body.form body.proved decoded (transfer.verdict_of limit (bytes ++ piece) false) (Refused (coded_taken new) code) =
        subst (λ (v : transfer.Verdict). CodingJudged body.form body.proved decoded v (Refused (coded_taken new) code)) (sym told) (ap (λ (n : ℕ). Refused n code) same) in (
          subst (λ (s : Stage). StageFailed s code) (sym stage) refl,
          inr (stands_as decodes fits (subst (λ (s : Stage). StageStands s new body limit decoded (bytes ++ piece) false) (sym stage) judged)),
        )

    -- and what comes of a whole piece
    module _ (decodes : Decoded mid piece limit bytes) (fits : coded_taken mid < 2 ^ 64 - 1) (len : ℕ) (never : (code : Code) → ¬ (decoders.Failed mid.decoder code))
        (size : taken_in limit (bytes ++ piece) ≡ taken_in limit bytes + len) (within : len ≤ length piece) where
      part_is : len ≡ coded_part limit bytes piece
      part_is = omega (arith, size, within, all_taken)

      -- the coding goes on
      fed_open : transfer.accepts (decoders.verdict_by mid.decoder mid.held) ≡ false → new ≡ mid
          → FedTo piece (coded_part limit bytes piece) (CodedStands new body limit decoded (bytes ++ piece) false) (CodedFailed new) (Ok len)
      fed_open still is =
          let stage : new.stage ≡ Coming = ap (λ (r : CodedReader). r.stage) is ∙ ap (λ (r : CodedReader). r.stage) keeps ∙ coming in
          let told = known decodes fits ∙ place_open mid.decoder.standing.place (coded_taken mid) mid.held (decoder_kept mid.decoder decodes.0.kept never) still in
          let here : IsComing mid limit (bytes ++ piece) false = record { stands = decodes.0; still = told; going = refl } in
          let goes_on : IsComing new limit (bytes ++ piece) false = subst (λ (r : CodedReader). IsComing r limit (bytes ++ piece) false) (sym is) here in (
            part_is,
            stands_as decodes fits (subst (λ (s : Stage). StageStands s new body limit decoded (bytes ++ piece) false) (sym stage) goes_on),
            λ code failed. subst (λ (s : Stage). StageFailed s code) stage failed,
          )

      -- or it has ended
      module _ (over : transfer.accepts (decoders.verdict_by mid.decoder mid.held) ≡ true) where
        ended : transfer.verdict_of limit (bytes ++ piece) false ≡ transfer.Accepted (coded_taken mid) mid.held
        ended = known decodes fits ∙ place_over mid.decoder.standing.place (coded_taken mid) mid.held over

        some : 0 < coded_part limit bytes piece
        some =
            let alone = accepted_alone bodies accepted limit (bytes ++ piece) false (coded_taken mid) mid.held ended in
            part_some (coded_taken mid) (decided_behind bodies accepted stand take_all stay limit bytes piece old.held (coded_taken mid) (transfer.Accepted (coded_taken mid) mid.held) came.still tt alone) decodes.1

        told_as : (result : Result (List ℕ × Option Checksum) Code) → DataTold mid.form mid.verified mid.decoded (coded_taken mid) mid.held result
            → DataTold body.form body.proved decoded (coded_taken mid) mid.held result
        told_as result told =
            let forms : body.form ≡ mid.form = sym (ap (λ (r : CodedReader). r.form) keeps ∙ h.form) in
            let proofs_are : body.proved ≡ mid.verified = sym (ap (λ (r : CodedReader). r.verified) keeps ∙ h.proved) in
            let counts : decoded ≡ mid.decoded = sym (ap (λ (r : CodedReader). r.decoded) keeps ∙ h.says) in
            subst (λ (f : Form). DataTold f body.proved decoded (coded_taken mid) mid.held result) (sym forms)
            (subst (λ (p : Proved). DataTold mid.form p decoded (coded_taken mid) mid.held result) (sym proofs_are)
            (subst (λ (d : ℕ). DataTold mid.form mid.verified d (coded_taken mid) mid.held result) (sym counts) told))

        fed_passed : SettledTo mid new (Ok tt)
            → FedTo piece (coded_part limit bytes piece) (CodedStands new body limit decoded (bytes ++ piece) false) (CodedFailed new) (Ok len)
        fed_passed (payload, sum, stage, told) =
            let known_of = told_as (Ok (payload, sum)) (told (coded_taken mid)) in
            let judged : CodingJudged body.form body.proved decoded (transfer.verdict_of limit (bytes ++ piece) false) (Accepted payload) =
            subst (λ (v : transfer.Verdict). CodingJudged body.form body.proved decoded v (Accepted payload)) (sym ended) known_of.0 in (
              part_is,
              stands_as decodes fits (subst (λ (s : Stage). StageStands s new body limit decoded (bytes ++ piece) false) (sym stage) (judged, known_of.1)),
              λ code failed. subst (λ (s : Stage). StageFailed s code) stage failed,
            )

        failed_as : (code : Code) → new.stage ≡ Failed code → (code ≡ InternalError) ⊎ DataJudged body.form body.proved decoded (coded_taken mid) mid.held (Refused (coded_taken mid) code)
            → FedTo piece (coded_part limit bytes piece) (CodedStands new body limit decoded (bytes ++ piece) false) (CodedFailed new) (Err code)
        failed_as code stage (inl lost) = (subst (λ (s : Stage). StageFailed s code) (sym stage) refl, inl (lost, some))
        failed_as code stage (inr told) =
            let same : coded_taken new ≡ coded_taken mid = ap decoders.taken_of decoder in
            let judged : CodingJudged body.form body.proved decoded (transfer.verdict_of limit (bytes ++ piece) false) (Refused (coded_taken new) code) =
            subst (λ (v : transfer.Verdict). CodingJudged body.form body.proved decoded v (Refused (coded_taken new) code)) (sym ended)
            (subst (λ (n : ℕ). DataJudged body.form body.proved decoded (coded_taken mid) mid.held (Refused n code)) (sym same) told) in (
              subst (λ (s : Stage). StageFailed s code) (sym stage) refl,
              inr (stands_as decodes fits (subst (λ (s : Stage). StageStands s new body limit decoded (bytes ++ piece) false) (sym stage) judged)),
            )

        fed_failed : (code : Code) → SettledTo mid new (Err code)
            → FedTo piece (coded_part limit bytes piece) (CodedStands new body limit decoded (bytes ++ piece) false) (CodedFailed new) (Err code)
        fed_failed code (stage, told) = failed_as code stage (told_as (Err code) (told (coded_taken mid)))

-- ---- what is answered of a piece

-- the bytes that were taken, or the code of what is wrong
abbrev pub answered_with : ℕ → Result ⊤ Code → Result ℕ Code
answered_with len (Ok done) = Ok len
answered_with len (Err code) = Err code

-- a reader that refuses as it settles has the stage that says so
pub settled_failed : (mid new : CodedReader) (result : Result ⊤ Code) (code : Code)
    → ((held : List ℕ) → transfer.accepts (decoders.verdict_by mid.decoder held) ≡ false → (result ≡ Ok tt) × (new ≡ mid))
    → ((held : List ℕ) → transfer.accepts (decoders.verdict_by mid.decoder held) ≡ true → SettledTo mid new result)
    → result ≡ Err code → CodedFailed new code
settled_failed mid new result code going over is = elim (cases_Bool (transfer.accepts (decoders.verdict_by mid.decoder []))) [
  | inl ended ↦
      let told = subst (λ (r : Result ⊤ Code). SettledTo mid new r) is (over [] ended) in
      subst (λ (s : Stage). StageFailed s code) (sym told.0) refl
  | inr still ↦ let never : Ok tt ≡ Err code = sym (going [] still).0 ∙ is in absurd (cc)
]

module _ (bodies : AcceptedAreBodies) (accepted : BodiesAreAccepted) (judge : DecodersJudge) (take_all : codings.OpenBodiesTakeAll) (stand : codings.RefusalsStand) (stay : codings.VerdictsStay)
    (old mid new : CodedReader) (piece : List ℕ) (keeps : mid ≡ record old { decoder = mid.decoder; held = mid.held }) (result : Result ℕ Code)
    (decoding : result ≢ Err InternalError → (limit : ℕ) (bytes : List ℕ) → decoders.Stands old.decoder limit bytes false old.held → Decoded mid piece limit bytes)
    (fitting : result ≢ Err InternalError → coded_taken mid < 2 ^ 64 - 1)
    (body : FramedBody) (limit decoded : ℕ) (bytes : List ℕ) (h : CodedStands old body limit decoded bytes false) (coming : old.stage ≡ Coming) where
  -- the piece was decoded
  pub fed_settled : (len : ℕ) → result ≡ Ok len → ((code : Code) → ¬ (decoders.Failed mid.decoder code))
      → ((l : ℕ) (b : List ℕ) → decoders.Stands old.decoder l b false old.held → taken_in l (b ++ piece) ≡ taken_in l b + len) → len ≤ length piece
      → new ≡ record mid { stage = new.stage; held = new.held } → (settled : Result ⊤ Code)
      → ((held : List ℕ) → transfer.accepts (decoders.verdict_by mid.decoder held) ≡ false → (settled ≡ Ok tt) × (new ≡ mid))
      → ((held : List ℕ) → transfer.accepts (decoders.verdict_by mid.decoder held) ≡ true → SettledTo mid new settled)
      → FedTo piece (coded_part limit bytes piece) (CodedStands new body limit decoded (bytes ++ piece) false) (CodedFailed new) (answered_with len settled)
  fed_settled len is never sized within kept settled going over =
      let lives : result ≢ Err InternalError = λ lost. (let clash : Ok len ≡ Err InternalError = sym is ∙ lost in absurd (cc)) in
      let here = came bodies accepted judge take_all stand stay old mid piece body limit decoded bytes h coming keeps in
      let decodes = decoding lives limit bytes here.stands in
      let fits = fitting lives in
      let size = sized limit bytes here.stands in
      let form = ap (λ (r : CodedReader). r.form) kept ∙ ap (λ (r : CodedReader). r.form) keeps in
      let proved = ap (λ (r : CodedReader). r.verified) kept ∙ ap (λ (r : CodedReader). r.verified) keeps in
      let says = ap (λ (r : CodedReader). r.decoded) kept ∙ ap (λ (r : CodedReader). r.decoded) keeps in
      let decoder = ap (λ (r : CodedReader). r.decoder) kept in
      let Fed : Result ⊤ Code → Type 0 = λ r. FedTo piece (coded_part limit bytes piece) (CodedStands new body limit decoded (bytes ++ piece) false) (CodedFailed new) (answered_with len r) in
      elim (cases_Bool (transfer.accepts (decoders.verdict_by mid.decoder mid.held))) [
        | inl ended ↦ by_result form proved says decoder decodes fits len never size within ended settled (over mid.held ended)
        | inr still ↦
            let goes = going mid.held still in
            subst Fed (sym goes.0)
            (fed_open bodies accepted judge take_all stand stay old mid piece body limit decoded bytes h coming keeps new form proved says decoder decodes fits len never size within still goes.1)
      ]
    where
      by_result : (form : new.form ≡ old.form) (proved : new.verified ≡ old.verified) (says : new.decoded ≡ old.decoded) (decoder : new.decoder ≡ mid.decoder)
          (decodes : Decoded mid piece limit bytes) (fits : coded_taken mid < 2 ^ 64 - 1) (n : ℕ) (no_fault : (code : Code) → ¬ (decoders.Failed mid.decoder code))
          (size : taken_in limit (bytes ++ piece) ≡ taken_in limit bytes + n) (few : n ≤ length piece) (ended : transfer.accepts (decoders.verdict_by mid.decoder mid.held) ≡ true)
          (r : Result ⊤ Code) → SettledTo mid new r
          → FedTo piece (coded_part limit bytes piece) (CodedStands new body limit decoded (bytes ++ piece) false) (CodedFailed new) (answered_with n r)
      by_result form proved says decoder decodes fits n no_fault size few ended (Ok done) told =
          fed_passed bodies accepted judge take_all stand stay old mid piece body limit decoded bytes h coming keeps new form proved says decoder decodes fits n no_fault size few ended told
      by_result form proved says decoder decodes fits n no_fault size few ended (Err code) told =
          fed_failed bodies accepted judge take_all stand stay old mid piece body limit decoded bytes h coming keeps new form proved says decoder decodes fits n no_fault size few ended code told

  -- or it was refused
  pub fed_err : (code : Code) → result ≡ Err code → (code ≡ InternalError) ⊎ decoders.Failed mid.decoder code
      → (result ≡ Err InternalError → coded_taken old < 2 ^ 64 - 1 → decoders.Failed old.decoder InternalError ⊎ (0 < length piece))
      → new ≡ record mid { stage = Failed code }
      → FedTo piece (coded_part limit bytes piece) (CodedStands new body limit decoded (bytes ++ piece) false) (CodedFailed new) (Err code)
  fed_err code is err memory made = by err
    where
      form : new.form ≡ old.form
      form = ap (λ (r : CodedReader). r.form) made ∙ ap (λ (r : CodedReader). r.form) keeps

      proved : new.verified ≡ old.verified
      proved = ap (λ (r : CodedReader). r.verified) made ∙ ap (λ (r : CodedReader). r.verified) keeps

      says : new.decoded ≡ old.decoded
      says = ap (λ (r : CodedReader). r.decoded) made ∙ ap (λ (r : CodedReader). r.decoded) keeps

      decoder : new.decoder ≡ mid.decoder
      decoder = ap (λ (r : CodedReader). r.decoder) made

      stage : new.stage ≡ Failed code
      stage = ap (λ (r : CodedReader). r.stage) made

      Fed : Code → Type 0
      Fed c = FedTo piece (coded_part limit bytes piece) (CodedStands new body limit decoded (bytes ++ piece) false) (CodedFailed new) (Err c)

      here : IsComing old limit bytes false
      here = came bodies accepted judge take_all stand stay old mid piece body limit decoded bytes h coming keeps

      never_lost : ¬ (decoders.Failed old.decoder InternalError)
      never_lost failed =
          let at = ap (λ (lost : Bool). if lost then Some InternalError else code_at old.decoder.standing.place) (sym here.stands.kept) ∙ failed in
          (place_failed old.decoder.standing.place 0 [] InternalError at).0 refl

      asked : decoders.Failed old.decoder InternalError ⊎ (0 < length piece) → 0 < length piece
      asked (inl failed) = absurd (never_lost failed)
      asked (inr some) = some

      lost : code ≡ InternalError → Fed code
      lost same =
          let at : new.stage ≡ Failed InternalError = stage ∙ ap Failed same in
          subst Fed (sym same)
          (fed_lost bodies accepted judge take_all stand stay old mid piece body limit decoded bytes h coming keeps new form proved says decoder at (asked (memory (is ∙ ap Err same) h.fits)))

      refused : (code ≡ InternalError) ⊎ ((code ≢ InternalError) × (decoders.verdict_by mid.decoder mid.held ≡ transfer.Refused (coded_taken mid) code)) → Fed code
      refused (inl same) = lost same
      refused (inr (other, says_so)) =
          let lives : result ≢ Err InternalError = λ e. (let same : code ≡ InternalError = (let clash : Err code ≡ Err InternalError = sym is ∙ e in cc) in other same) in
          fed_refused bodies accepted judge take_all stand stay old mid piece body limit decoded bytes h coming keeps new form proved says decoder code stage (decoding lives limit bytes here.stands) (fitting lives) says_so

      by : (code ≡ InternalError) ⊎ decoders.Failed mid.decoder code → Fed code
      by (inl same) = lost same
      by (inr failed) = refused (decoder_failed mid.decoder mid.held code failed)

-- ---- behind what was decided

module _ (reader : CodedReader) (body : FramedBody) (limit decoded : ℕ) (bytes piece : List ℕ) (h : CodedStands reader body limit decoded bytes false) (fixed : codings.NoMoreIsTaken) (stay : codings.VerdictsStay) where
  pub passed_fed : AcceptedAreBodies → BodiesAreAccepted → codings.RefusalsStand → (payload : List ℕ) (sum : Option Checksum) → reader.stage ≡ Passed payload sum
      → FedTo piece (coded_part limit bytes piece) (CodedStands reader body limit decoded (bytes ++ piece) false) (CodedFailed reader) (Ok 0)
  passed_fed bodies accepted stand payload sum is =
      let s = subst (λ (g : Stage). StageStands g reader body limit decoded bytes false) is h.stands in
      let whole = accepted_by body.form body.proved decoded bodies accepted stand fixed limit bytes false payload (transfer.verdict_of limit bytes false) refl s.0 in
      let judged = coding_stays body.form body.proved decoded stay limit bytes piece false (Accepted payload) s.0 tt in (
        omega (arith, whole.0, whole.3 piece),
        record {
          form = h.form;
          proved = h.proved;
          says = h.says;
          counts = h.counts ∙ sym (whole.3 piece);
          fits = h.fits;
          stands = subst (λ (g : Stage). StageStands g reader body limit decoded (bytes ++ piece) false) (sym is) (judged, s.1);
        },
        λ code failed. subst (λ (g : Stage). StageFailed g code) is failed,
      )

  pub failed_fed : (code : Code) → reader.stage ≡ Failed code
      → FedTo piece (coded_part limit bytes piece) (CodedStands reader body limit decoded (bytes ++ piece) false) (CodedFailed reader) (Err code)
  failed_fed code is =
      let s = subst (λ (g : Stage). StageStands g reader body limit decoded bytes false) is h.stands in
      let judged = coding_stays body.form body.proved decoded stay limit bytes piece false (Refused (coded_taken reader) code) s tt in
      let size = coding_size body.form body.proved decoded fixed limit bytes piece (Refused (coded_taken reader) code) s tt in (
        subst (λ (g : Stage). StageFailed g code) (sym is) refl,
        inr (record {
          form = h.form;
          proved = h.proved;
          says = h.says;
          counts = h.counts ∙ sym size;
          fits = h.fits;
          stands = subst (λ (g : Stage). StageStands g reader body limit decoded (bytes ++ piece) false) (sym is) judged;
        }),
      )
