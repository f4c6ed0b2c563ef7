-- What is fed to a reader of data, and what is told of it.
use Rattle.std.proofs.Common.{◌≡◌, ◌⊎◌, ℕ, ◌+◌, ◌≤◌, Bool, true, false, List, ◌++◌, take, drop, length, refl, sym, ap, subst, ◌∙◌, arith, inl, inr, Option, Result, Ok, Err, IfErr, IsErrAnd}
use Rattle.std.specs.Prelude.{⊤}
use Rattle.std.proofs.Math.Seq.{take-add}
use Rattle.std.proofs.lemmas.List.{take-append-drop}
use Rattle.s3_terms.specs.declared.code.Code.{Code}
use Rattle.s3_terms.specs.declared.code.Code.TheVariants.{InternalError, IncompleteBody}
use Rattle.s3_bodies.specs.Pieces.{IsPieceAt}
use Rattle.s3_integrity.specs.declared.checksum.Checksum.{Checksum}
use Rattle.s3_signing.specs.Verdict.{Proved}
use Rattle.s3_http_heads.specs.declared.body_length.BodyFraming.{BodyFraming}
use Rattle.s3_http_heads.specs.declared.body_length.BodyFraming.TheVariants.{Sized, Coded}
use Rattle.s3_aws_chunked.specs.Verdict.{Verdict, Accepted, Open, Refused}
use Rattle.s3_payloads.specs.Form.{Announced}
use Rattle.s3_payloads.specs.FoundSum.{found_sum}
use Rattle.s3_payloads.specs.Laws.{PayloadsFail, PayloadsJudge, VerdictsStay}
use Rattle.s3_payloads.specs.Outcome.{FedTo, finished, part_of}
use Rattle.s3_payloads.specs.Reader.{HasFailed, HasPassed, IsEnded, IsFed, Stands, taken_of, verdict_of}
use Rattle.s3_payloads.specs.Verdict.{Judges}
use Rattle.s3_payloads.specs.declared.form.Form.{Form}
use Rattle.s3_payloads.specs.declared.reader.PayloadReader.{PayloadReader}
use Rattle.s3_framed_bodies.specs.Framed.{FramedBody, announced_with}
use Rattle.s3_framed_bodies.specs.Data.{DataTold}
use Rattle.s3_framed_bodies.specs.Reader.{SizedFor}
use Rattle.s3_framed_bodies.specs.Verdict.{DataJudged, DataJudgedBy, has_length, told_at}

-- the piece stands behind the bytes before it
pub read_more : (held piece : List ℕ) (at : ℕ) → IsPieceAt at held piece → take at held ++ piece ≡ take (at + length piece) held
read_more held piece at is = ap (λ (p : List ℕ). take at held ++ p) (sym is.stands) ∙ sym (take-add at (length piece) held)

-- a reader that has taken it stands behind it
pub fed_stands : (reader : PayloadReader) (announced : Announced) (held piece : List ℕ) (at n : ℕ) (result : Result ℕ Code) → IsPieceAt at held piece
    → IsFed announced (take at held) piece result reader → result ≡ Ok n → Stands reader announced (take (at + length piece) held) false
fed_stands reader announced held piece at n result is fed ok =
    let known = subst (λ (r : Result ℕ Code). IsFed announced (take at held) piece r reader) ok fed in
    subst (λ (b : List ℕ). Stands reader announced b false) (read_more held piece at is) known.1

-- one that refuses it refuses all data
pub fed_refuses : PayloadsJudge → PayloadsFail → VerdictsStay → (reader : PayloadReader) (announced : Announced) (held piece : List ℕ) (at : ℕ) (result : Result ℕ Code) (code : Code)
    → IsPieceAt at held piece → IsFed announced (take at held) piece result reader → result ≡ Err code
    → (code ≡ InternalError) ⊎ ((place : ℕ) × Judges announced held true (Refused place code))
fed_refuses judge fail stay reader announced held piece at result code is fed err =
    by (subst (λ (r : Result ℕ Code). IsFed announced (take at held) piece r reader) err fed)
  where
    by : IsFed announced (take at held) piece (Err code) reader → (code ≡ InternalError) ⊎ ((place : ℕ) × Judges announced held true (Refused place code))
    by (failed, inl ran_out) = inl ran_out.0
    by (failed, inr stands) =
        let all = at + length piece in
        let there = subst (λ (b : List ℕ). Stands reader announced b false) (read_more held piece at is) stands in
        let said = fail reader announced (take all held) false code there failed in
        let judged = subst (λ (v : Verdict). Judges announced (take all held) false v) said (judge reader announced (take all held) false there) in
        inr (
          taken_of reader,
          subst (λ (b : List ℕ). Judges announced b true (Refused (taken_of reader) code)) (take-append-drop all held)
              (stay announced (take all held) (drop all held) true (Refused (taken_of reader) code) judged tt),
        )

-- an error that is handed on
pub err_as : {A : Type 0} (result : Result A Code) (code : Code) (P : Code → Type 0) → IsErrAnd result (λ e. e ≡ code) → P code → IfErr result P
err_as (Ok value) code P never is = absurd never
err_as (Err e) code P same is = subst P (sym same) is

-- ---- what is told of all data

module _ (form : Form) (proved : Proved) (decoded : ℕ) (held : List ℕ) where
  told_of : (place : ℕ) (said : Verdict) → has_length form decoded (length held) ≡ true → Judges (announced_with form proved (length held)) held true said
      → DataJudged form proved decoded place held (told_at place said)
  told_of place said is judged =
      subst (λ (t : Bool). DataJudgedBy t form proved place held (told_at place said)) (sym is) (said, judged, refl)

  -- it is refused
  pub told_err : PayloadsJudge → PayloadsFail → (place : ℕ) (reader : PayloadReader) (ended : Result ⊤ Code) (code : Code) (result : Result (List ℕ × Option Checksum) Code)
      → has_length form decoded (length held) ≡ true → IsEnded (announced_with form proved (length held)) held ended reader → ended ≡ Err code
      → IsErrAnd result (λ e. e ≡ code) → DataTold form proved decoded place held result
  told_err judge fail place reader ended code (Ok told) is at err never = absurd never
  told_err judge fail place reader ended code (Err e) is at err same =
      let announced = announced_with form proved (length held) in
      let known = subst (λ (r : Result ⊤ Code). IsEnded announced held r reader) err at in
      let said = fail reader announced held true code known.0 known.1 in
      let judged = subst (λ (v : Verdict). Judges announced held true v) said (judge reader announced held true known.0) in
      inr (subst (λ (c : Code). DataJudged form proved decoded place held (Refused place c)) (sym same) (told_of place (Refused (taken_of reader) code) is judged))

  finished_as : (verdict : Verdict) (payload : List ℕ) → finished verdict ≡ Ok payload → verdict ≡ Accepted payload
  finished_as (Accepted told) payload is = cc
  finished_as (Refused place code) payload is = absurd (cc)
  finished_as (Open told) payload is = absurd (cc)

  -- or accepted
  pub told_ok : PayloadsJudge → (place : ℕ) (reader : PayloadReader) (ended : Result ⊤ Code) (finish : Result (List ℕ) Code) (payload : List ℕ) (sum : Option Checksum)
      → has_length form decoded (length held) ≡ true → IsEnded (announced_with form proved (length held)) held ended reader → ended ≡ Ok tt
      → ((announced : Announced) (bytes : List ℕ) (end : Bool) → Stands reader announced bytes end → finish ≡ finished (verdict_of reader)) → finish ≡ Ok payload
      → ((announced : Announced) (all told : List ℕ) (end : Bool) → Stands reader announced all end → verdict_of reader ≡ Accepted told → sum ≡ found_sum announced.form told)
      → DataJudged form proved decoded place held (Accepted payload) × (sum ≡ found_sum form payload)
  told_ok judge place reader ended finish payload sum is at ok says finishes sums =
      let announced = announced_with form proved (length held) in
      let known = subst (λ (r : Result ⊤ Code). IsEnded announced held r reader) ok at in
      let accepted = finished_as (verdict_of reader) payload (sym (says announced held true known.0) ∙ finishes) in
      let judged = subst (λ (v : Verdict). Judges announced held true v) accepted (judge reader announced held true known.0) in
      (told_of place (Accepted payload) is judged, sums announced held payload true known.0 accepted)

-- the checksum of a body with a length
pub sized_sum : (framing : BodyFraming) (reader : PayloadReader) (body : FramedBody) (bytes payload : List ℕ) (ended : Bool) (result : Option Checksum)
    → ((announced : Announced) (all told : List ℕ) (end : Bool) → Stands reader announced all end → verdict_of reader ≡ Accepted told → result ≡ found_sum announced.form told)
    → SizedFor framing reader body bytes ended → verdict_of reader ≡ Accepted payload → result ≡ found_sum body.form payload
sized_sum (Sized size) reader body bytes payload ended result told stands is = told (announced_with body.form body.proved size) bytes payload ended stands is
sized_sum (Coded limit decoded) reader body bytes payload ended result told stands is = absurd stands
