-- What is known of a body in the transfer coding, by what is known of the coding and of its data.
use Rattle.std.proofs.Common.{◌≡◌, ℕ, ◌+◌, ◌<◌, ◌≤◌, Bool, true, false, min, List, [], ◌++◌, take, drop, length, refl, sym, ap, subst, ◌∙◌, arith, inl, inr, append-nil, append_assoc, length-append}
use Rattle.std.proofs.lemmas.Bool.{cases_lt}
use Rattle.std.proofs.lemmas.List.{length-take-le, take-append-drop, take-append-le}
use Rattle.s3_terms.specs.declared.code.Code.{Code}
use Rattle.s3_terms.specs.declared.code.Code.TheVariants.{IncompleteBody}
use Rattle.s3_signing.specs.Verdict.{Proved}
use Rattle.s3_aws_chunked.specs.Finality.{DecidesAs, IsDecided}
use Rattle.s3_aws_chunked.specs.Verdict.{Verdict, Accepted, Open, Refused}
use Rattle.s3_payloads.specs.Form.{IsSentAsItIs}
use Rattle.s3_payloads.specs.Laws as payloads
use Rattle.s3_payloads.specs.Verdict as judgements
use Rattle.s3_payloads.specs.declared.form.Form.{Form}
use Rattle.s3_transfer_chunks.specs.Body.{AcceptedAreBodies, BodiesAreAccepted, IsTransferBody}
use Rattle.s3_transfer_chunks.specs.Finality as codings
use Rattle.s3_transfer_chunks.specs.Reading.{reading_of, taken_in}
use Rattle.s3_transfer_chunks.specs.Verdict as transfer
use Rattle.s3_transfer_chunks.specs.Verdict.{verdict_at}
use Rattle.s3_transfer_chunks.specs.declared.place.Place.{Place}
use Rattle.s3_transfer_chunks.specs.declared.place.Place.TheVariants as places
use Rattle.s3_framed_bodies.specs.Framed.{announced_with}
use Rattle.s3_framed_bodies.specs.Verdict.{CodingJudged, DataJudgedBy, has_length, told_at}

-- ---- where the coding ends

accepted_at : (place : Place) (taken p : ℕ) (held h : List ℕ) → verdict_at place taken held ≡ transfer.Accepted p h → p ≡ taken
accepted_at places.Over taken p held h is = cc
accepted_at (places.Size digits) taken p held h is = absurd (cc)
accepted_at (places.Line size tail) taken p held h is = absurd (cc)
accepted_at (places.Data left) taken p held h is = absurd (cc)
accepted_at places.DataEnd taken p held h is = absurd (cc)
accepted_at places.Last taken p held h is = absurd (cc)
accepted_at places.LastEnd taken p held h is = absurd (cc)
accepted_at (places.Refused fault) taken p held h is = absurd (cc)

refused_at : (place : Place) (taken p : ℕ) (held : List ℕ) (code : Code) → verdict_at place taken held ≡ transfer.Refused p code → p ≡ taken
refused_at places.Over taken p held code is = absurd (cc)
refused_at (places.Size digits) taken p held code is = absurd (cc)
refused_at (places.Line size tail) taken p held code is = absurd (cc)
refused_at (places.Data left) taken p held code is = absurd (cc)
refused_at places.DataEnd taken p held code is = absurd (cc)
refused_at places.Last taken p held code is = absurd (cc)
refused_at places.LastEnd taken p held code is = absurd (cc)
refused_at (places.Refused fault) taken p held code is = cc

-- what is decided of the coding is decided behind the bytes that are taken
pub accepted_place : (limit : ℕ) (bytes : List ℕ) (ended : Bool) (p : ℕ) (held : List ℕ) → transfer.verdict_of limit bytes ended ≡ transfer.Accepted p held
    → p ≡ taken_in limit bytes
accepted_place limit bytes ended p held is = accepted_at (reading_of limit bytes ended).place (taken_in limit bytes) p (reading_of limit bytes ended).held held is

pub refused_place : (limit : ℕ) (bytes : List ℕ) (ended : Bool) (p : ℕ) (code : Code) → transfer.verdict_of limit bytes ended ≡ transfer.Refused p code
    → p ≡ taken_in limit bytes
refused_place limit bytes ended p code is = refused_at (reading_of limit bytes ended).place (taken_in limit bytes) p (reading_of limit bytes ended).held code is

-- no more bytes are taken than have come
module _ (bodies : AcceptedAreBodies) (stand : codings.RefusalsStand) (take_all : codings.OpenBodiesTakeAll) where
  within_by : (limit : ℕ) (bytes : List ℕ) (told : transfer.Verdict) → transfer.verdict_of limit bytes false ≡ told → taken_in limit bytes ≤ length bytes
  within_by limit bytes (transfer.Accepted p held) is = omega (arith, accepted_place limit bytes false p held is, (bodies limit bytes false p held is).0)
  within_by limit bytes (transfer.Refused p code) is = omega (arith, refused_place limit bytes false p code is, (stand limit bytes p code is).0)
  within_by limit bytes (transfer.Open held) is = omega (arith, take_all limit bytes held is)

  pub taken_within : (limit : ℕ) (bytes : List ℕ) → taken_in limit bytes ≤ length bytes
  taken_within limit bytes = within_by limit bytes (transfer.verdict_of limit bytes false) refl

-- a body in the coding is one without what stands behind it
pub accepted_alone : AcceptedAreBodies → BodiesAreAccepted → (limit : ℕ) (bytes : List ℕ) (ended : Bool) (p : ℕ) (held : List ℕ)
    → transfer.verdict_of limit bytes ended ≡ transfer.Accepted p held → transfer.verdict_of limit (take p bytes) false ≡ transfer.Accepted p held
accepted_alone bodies accepted limit bytes ended p held is =
    let front = bodies limit bytes ended p held is in
    let made = accepted limit (take p bytes) [] false held front.1 front.2 in
    ap (λ (b : List ℕ). transfer.verdict_of limit b false) (sym (append-nil (take p bytes)))
    ∙ made ∙ ap (λ (n : ℕ). transfer.Accepted n held) (length-take-le p bytes front.0)

-- ---- what is open takes more

module _ (bodies : AcceptedAreBodies) (accepted : BodiesAreAccepted) (stand : codings.RefusalsStand) (take_all : codings.OpenBodiesTakeAll) (stay : codings.VerdictsStay) where
  -- what is decided isn't decided among bytes that are open
  pub decided_behind : (limit : ℕ) (bytes more held : List ℕ) (p : ℕ) (told : transfer.Verdict) → transfer.verdict_of limit bytes false ≡ transfer.Open held
      → codings.IsDecided told → transfer.verdict_of limit (take p (bytes ++ more)) false ≡ told → length bytes < p
  decided_behind limit bytes more held p told still decided is = elim (cases_lt (length bytes) p) [
    | inl behind ↦ behind
    | inr within ↦
        let front : transfer.verdict_of limit (take p bytes) false ≡ told = ap (λ (b : List ℕ). transfer.verdict_of limit b false) (sym (take-append-le p bytes more within)) ∙ is in
        let stays = stay limit (take p bytes) (drop p bytes) false (subst codings.IsDecided (sym front) decided) in
        let known : transfer.verdict_of limit bytes false ≡ told =
        ap (λ (b : List ℕ). transfer.verdict_of limit b false) (sym (take-append-drop p bytes)) ∙ stays ∙ front in
        absurd (subst codings.IsDecided (sym known ∙ still) decided)
  ]

  more_by : (limit : ℕ) (bytes more held : List ℕ) → transfer.verdict_of limit bytes false ≡ transfer.Open held
      → (told : transfer.Verdict) → transfer.verdict_of limit (bytes ++ more) false ≡ told → length bytes + min 1 (length more) ≤ taken_in limit (bytes ++ more)
  more_by limit bytes more held still (transfer.Open also) is = omega (arith, take_all limit (bytes ++ more) also is, length-append bytes more)
  more_by limit bytes more held still (transfer.Accepted p also) is =
      let alone = accepted_alone bodies accepted limit (bytes ++ more) false p also is in
      let behind = decided_behind limit bytes more held p (transfer.Accepted p also) still tt alone in
      omega (arith, behind, accepted_place limit (bytes ++ more) false p also is)
  more_by limit bytes more held still (transfer.Refused p code) is =
      let behind = decided_behind limit bytes more held p (transfer.Refused p code) still tt (stand limit (bytes ++ more) p code is).1 in
      omega (arith, behind, refused_place limit (bytes ++ more) false p code is)

  -- bytes that are open are all of their body, and so is the first byte of what follows
  pub takes_more : (limit : ℕ) (bytes more held : List ℕ) → transfer.verdict_of limit bytes false ≡ transfer.Open held
      → length bytes + min 1 (length more) ≤ taken_in limit (bytes ++ more)
  takes_more limit bytes more held still = more_by limit bytes more held still (transfer.verdict_of limit (bytes ++ more) false) refl

-- ---- what is said at the end of the coding

pub told_one : (place : ℕ) (said other : Verdict) → DecidesAs said other → DecidesAs (told_at place said) (told_at place other)
told_one place (Refused p code) (Refused q also) same = (refl, same.1)
told_one place (Refused p code) (Accepted held) same = absurd same
told_one place (Refused p code) (Open held) same = absurd same
told_one place (Accepted held) (Refused q also) same = absurd same
told_one place (Accepted held) (Accepted also) same = same
told_one place (Accepted held) (Open also) same = absurd same
told_one place (Open held) (Refused q also) same = absurd same
told_one place (Open held) (Accepted also) same = absurd same
told_one place (Open held) (Open also) same = tt

told_decided : (place : ℕ) (said : Verdict) → IsDecided said → IsDecided (told_at place said)
told_decided place (Refused p code) decided = tt
told_decided place (Accepted held) decided = tt
told_decided place (Open held) decided = absurd decided

told_refused : (place p : ℕ) (code : Code) (said : Verdict) → Refused p code ≡ told_at place said → p ≡ place
told_refused place p code (Refused q also) is = cc
told_refused place p code (Accepted held) is = absurd (cc)
told_refused place p code (Open held) is = absurd (cc)

told_accepted : (place : ℕ) (payload : List ℕ) (said : Verdict) → Accepted payload ≡ told_at place said → said ≡ Accepted payload
told_accepted place payload (Refused q also) is = absurd (cc)
told_accepted place payload (Accepted held) is = sym is
told_accepted place payload (Open held) is = absurd (cc)

same_decides : (verdict : Verdict) → DecidesAs verdict verdict
same_decides (Refused place code) = (refl, refl)
same_decides (Accepted held) = refl
same_decides (Open held) = tt

-- two that are the same decide the same
both_decide : (known one other : Verdict) → one ≡ known → other ≡ known → DecidesAs one other
both_decide known one other is also = subst (DecidesAs one) (is ∙ sym also) (same_decides one)

module _ (form : Form) (proved : Proved) (decoded : ℕ) where
  -- ---- data

  data_one : payloads.VerdictsAreOne → (fits : Bool) (place : ℕ) (held : List ℕ) (one other : Verdict)
      → DataJudgedBy fits form proved place held one → DataJudgedBy fits form proved place held other → DecidesAs one other
  data_one law false place held one other is also = both_decide (Refused place IncompleteBody) one other is also
  data_one law true place held one other is also =
      let same = told_one place is.0 also.0 (law (announced_with form proved (length held)) held true is.0 also.0 is.1 also.1) in
      subst (λ (v : Verdict). DecidesAs v other) (sym is.2) (subst (λ (v : Verdict). DecidesAs (told_at place is.0) v) (sym also.2) same)

  data_exists : payloads.VerdictsExist → (fits : Bool) (place : ℕ) (held : List ℕ) → (verdict : Verdict) × DataJudgedBy fits form proved place held verdict
  data_exists law false place held = (Refused place IncompleteBody, refl)
  data_exists law true place held =
      let said = law (announced_with form proved (length held)) held true in
      (told_at place said.0, (said.0, said.1, refl))

  data_decided : payloads.EndsDecide → (fits : Bool) (place : ℕ) (held : List ℕ) (verdict : Verdict)
      → DataJudgedBy fits form proved place held verdict → IsDecided verdict
  data_decided law false place held verdict is = subst IsDecided (sym is) tt
  data_decided law true place held verdict is =
      subst IsDecided (sym is.2) (told_decided place is.0 (law (announced_with form proved (length held)) held is.0 is.1))

  data_place : (fits : Bool) (place p : ℕ) (held : List ℕ) (code : Code) → DataJudgedBy fits form proved place held (Refused p code) → p ≡ place
  data_place false place p held code is = cc
  data_place true place p held code is = told_refused place p code is.0 is.2

  data_payload : payloads.WholePayloadsAreBodies → IsSentAsItIs form → (fits : Bool) (place : ℕ) (held payload : List ℕ)
      → DataJudgedBy fits form proved place held (Accepted payload) → payload ≡ held
  data_payload law plain false place held payload is = absurd (cc)
  data_payload law plain true place held payload is =
      let said = told_accepted place payload is.0 is.2 in
      law (announced_with form proved (length held)) held payload true plain refl
      (subst (λ (v : Verdict). judgements.Judges (announced_with form proved (length held)) held true v) said is.1)

  -- ---- the coding

  pub coding_decided : (told : transfer.Verdict) (verdict : Verdict) → CodingJudged form proved decoded told verdict → IsDecided verdict → codings.IsDecided told
  coding_decided (transfer.Refused place code) verdict judged decided = tt
  coding_decided (transfer.Accepted place held) verdict judged decided = tt
  coding_decided (transfer.Open held) verdict judged decided = subst IsDecided judged decided

  pub coding_stays : codings.VerdictsStay → (limit : ℕ) (bytes more : List ℕ) (ended : Bool) (verdict : Verdict)
      → CodingJudged form proved decoded (transfer.verdict_of limit bytes false) verdict → IsDecided verdict
      → CodingJudged form proved decoded (transfer.verdict_of limit (bytes ++ more) ended) verdict
  coding_stays law limit bytes more ended verdict judged decided =
      subst (λ (told : transfer.Verdict). CodingJudged form proved decoded told verdict)
      (sym (law limit bytes more ended (coding_decided (transfer.verdict_of limit bytes false) verdict judged decided))) judged

  pub coding_size : codings.NoMoreIsTaken → (limit : ℕ) (bytes more : List ℕ) (verdict : Verdict)
      → CodingJudged form proved decoded (transfer.verdict_of limit bytes false) verdict → IsDecided verdict
      → taken_in limit (bytes ++ more) ≡ taken_in limit bytes
  coding_size law limit bytes more verdict judged decided =
      law limit bytes more (coding_decided (transfer.verdict_of limit bytes false) verdict judged decided)

  pub coding_one : payloads.VerdictsAreOne → (told : transfer.Verdict) (one other : Verdict)
      → CodingJudged form proved decoded told one → CodingJudged form proved decoded told other → DecidesAs one other
  coding_one law (transfer.Refused place code) one other is also = both_decide (Refused place code) one other is also
  coding_one law (transfer.Open held) one other is also = both_decide (Open held) one other is also
  coding_one law (transfer.Accepted place held) one other is also =
      data_one law (has_length form decoded (length held)) place held one other is also

  pub coding_exists : payloads.VerdictsExist → (told : transfer.Verdict) → (verdict : Verdict) × CodingJudged form proved decoded told verdict
  coding_exists law (transfer.Refused place code) = (Refused place code, refl)
  coding_exists law (transfer.Open held) = (Open held, refl)
  coding_exists law (transfer.Accepted place held) = data_exists law (has_length form decoded (length held)) place held

  pub coding_ends : payloads.EndsDecide → (told : transfer.Verdict) (verdict : Verdict) → codings.IsDecided told
      → CodingJudged form proved decoded told verdict → IsDecided verdict
  coding_ends law (transfer.Refused place code) verdict ended is = subst IsDecided (sym is) tt
  coding_ends law (transfer.Open held) verdict ended is = absurd ended
  coding_ends law (transfer.Accepted place held) verdict ended is = data_decided law (has_length form decoded (length held)) place held verdict is

  pub coding_open : payloads.EndsDecide → (told : transfer.Verdict) (held : List ℕ) → CodingJudged form proved decoded told (Open held)
      → told ≡ transfer.Open held
  coding_open law (transfer.Refused place code) held is = absurd (cc)
  coding_open law (transfer.Open also) held is = cc
  coding_open law (transfer.Accepted place all) held is = absurd (data_decided law (has_length form decoded (length all)) place all (Open held) is)

  pub coding_payload : payloads.WholePayloadsAreBodies → IsSentAsItIs form → (told : transfer.Verdict) (place : ℕ) (held payload : List ℕ)
      → told ≡ transfer.Accepted place held → CodingJudged form proved decoded told (Accepted payload) → payload ≡ held
  coding_payload law plain told place held payload at is =
      data_payload law plain (has_length form decoded (length held)) place held payload
      (subst (λ (t : transfer.Verdict). CodingJudged form proved decoded t (Accepted payload)) at is)

  -- a refusal stands at its place
  module _ (bodies : AcceptedAreBodies) (accepted : BodiesAreAccepted) (stand : codings.RefusalsStand) where
    refusal_by : (limit : ℕ) (bytes : List ℕ) (place : ℕ) (code : Code) (told : transfer.Verdict) → transfer.verdict_of limit bytes false ≡ told
        → CodingJudged form proved decoded told (Refused place code)
        → (place ≤ length bytes) × CodingJudged form proved decoded (transfer.verdict_of limit (take place bytes) false) (Refused place code)
    refusal_by limit bytes place code (transfer.Refused p also) at is =
        let same : transfer.Refused p also ≡ transfer.Refused place code = cc in
        let there = stand limit bytes place code (at ∙ same) in
        (there.0, subst (λ (told : transfer.Verdict). CodingJudged form proved decoded told (Refused place code)) (sym there.1) refl)
    refusal_by limit bytes place code (transfer.Open held) at is = absurd (cc)
    refusal_by limit bytes place code (transfer.Accepted p held) at is =
        let same : place ≡ p = data_place (has_length form decoded (length held)) p place held code is in
        let front = bodies limit bytes false p held at in
        let alone = accepted_alone bodies accepted limit bytes false p held at in (
          omega (arith, same, front.0),
          subst (λ (n : ℕ). CodingJudged form proved decoded (transfer.verdict_of limit (take n bytes) false) (Refused place code)) (sym same)
              (subst (λ (told : transfer.Verdict). CodingJudged form proved decoded told (Refused place code)) (sym alone) is),
        )

    pub coding_stands : (limit : ℕ) (bytes : List ℕ) (place : ℕ) (code : Code)
        → CodingJudged form proved decoded (transfer.verdict_of limit bytes false) (Refused place code)
        → (place ≤ length bytes) × CodingJudged form proved decoded (transfer.verdict_of limit (take place bytes) false) (Refused place code)
    coding_stands limit bytes place code is = refusal_by limit bytes place code (transfer.verdict_of limit bytes false) refl is

    -- what is accepted is a body in the coding, and what stands behind it isn't looked at
    module _ (fixed : codings.NoMoreIsTaken) where
      stays_by : (limit : ℕ) (bytes more : List ℕ) (p : ℕ) → codings.IsDecided (transfer.verdict_of limit (take p bytes) false)
          → taken_in limit (bytes ++ more) ≡ taken_in limit bytes
      stays_by limit bytes more p decided =
          let joined : take p bytes ++ (drop p bytes ++ more) ≡ bytes ++ more =
          sym (append_assoc (take p bytes) (drop p bytes) more) ∙ ap (λ (l : List ℕ). l ++ more) (take-append-drop p bytes) in
          ap (taken_in limit) (sym joined) ∙ fixed limit (take p bytes) (drop p bytes ++ more) decided
          ∙ sym (fixed limit (take p bytes) (drop p bytes) decided) ∙ ap (taken_in limit) (take-append-drop p bytes)

      pub accepted_by : (limit : ℕ) (bytes : List ℕ) (ended : Bool) (payload : List ℕ) (told : transfer.Verdict) → transfer.verdict_of limit bytes ended ≡ told
          → CodingJudged form proved decoded told (Accepted payload)
          → (taken_in limit bytes ≤ length bytes)
          × CodingJudged form proved decoded (transfer.verdict_of limit (take (taken_in limit bytes) bytes) false) (Accepted payload)
          × ((held : List ℕ) × IsTransferBody (take (taken_in limit bytes) bytes) held × (length held ≤ limit))
          × ((more : List ℕ) → taken_in limit (bytes ++ more) ≡ taken_in limit bytes)
      accepted_by limit bytes ended payload (transfer.Refused p also) at is = absurd (cc)
      accepted_by limit bytes ended payload (transfer.Open held) at is = absurd (cc)
      accepted_by limit bytes ended payload (transfer.Accepted p held) at is =
          let same = accepted_place limit bytes ended p held at in
          let front = bodies limit bytes ended p held at in
          let alone = accepted_alone bodies accepted limit bytes ended p held at in
          let known = subst (λ (told : transfer.Verdict). CodingJudged form proved decoded told (Accepted payload)) (sym alone) is in
          let sized = subst (λ (n : ℕ). (n ≤ length bytes) × CodingJudged form proved decoded (transfer.verdict_of limit (take n bytes) false) (Accepted payload)
          × ((h : List ℕ) × IsTransferBody (take n bytes) h × (length h ≤ limit))) same
          (front.0, known, (held, front.1, front.2)) in
          (sized.0, sized.1, sized.2, λ more. stays_by limit bytes more p (subst codings.IsDecided (sym alone) tt))
