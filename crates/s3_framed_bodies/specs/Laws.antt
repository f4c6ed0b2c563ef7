-- What is known of every body, however its end is told, as laws: they speak of the definitions, and of no code.
use Rattle.std.specs.Prelude.{◌≡◌, ℕ, ◌+◌, ◌≤◌, Bool, true, false, min, List, ◌++◌, length, take}
use Rattle.s3_terms.specs.declared.code.Code.{Code}
use Rattle.s3_terms.specs.declared.code.Code.TheVariants.{IncompleteBody}
use Rattle.s3_http_heads.specs.declared.body_length.BodyFraming.{BodyFraming}
use Rattle.s3_aws_chunked.specs.Verdict.{Verdict, Accepted, Open, Refused, accepts}
use Rattle.s3_aws_chunked.specs.Finality.{DecidesAs, IsDecided}
use Rattle.s3_payloads.specs.Form.{IsSentAsItIs}
use Rattle.s3_framed_bodies.specs.declared.reader.BodyReader.{BodyReader}
use Rattle.s3_framed_bodies.specs.Framed.{Ends, FramedBody, IsDataOf, size_in}
use Rattle.s3_framed_bodies.specs.Reader.{HasFailed, Stands, taken_of, verdict_of}
use Rattle.s3_framed_bodies.specs.Verdict.{Judges}

-- a reader that stands after some bytes of a body says of it what they say
abbrev pub ReadersJudge : Type 0
ReadersJudge =
    (reader : BodyReader) (body : FramedBody) (bytes : List ℕ) (ended : Bool)
    → Stands reader body bytes ended → Judges body bytes ended (verdict_of reader)

-- it never has taken more than have come
abbrev pub ReadersStayWithin : Type 0
ReadersStayWithin =
    (reader : BodyReader) (body : FramedBody) (bytes : List ℕ) (ended : Bool)
    → Stands reader body bytes ended → taken_of reader ≤ length bytes

-- where it has refused, it says so, at the count of what it has taken
abbrev pub ReadersFail : Type 0
ReadersFail =
    (reader : BodyReader) (body : FramedBody) (bytes : List ℕ) (ended : Bool) (code : Code)
    → Stands reader body bytes ended → HasFailed reader code → verdict_of reader ≡ Refused (taken_of reader) code

-- and where it has neither refused nor accepted, that its body is open
abbrev pub ReadersStayOpen : Type 0
ReadersStayOpen =
    (reader : BodyReader) → ((code : Code) → ¬ (HasFailed reader code)) → accepts (verdict_of reader) ≡ false
    → (held : List ℕ) × (verdict_of reader ≡ Open held)

-- what was decided about a body before the end of the input stays decided, whatever follows, and whether or not that is the
-- end: so the verdict doesn't depend on how the bytes are cut
abbrev pub VerdictsStay : Type 0
VerdictsStay =
    (body : FramedBody) (bytes more : List ℕ) (ended : Bool) (verdict : Verdict)
    → Judges body bytes false verdict → IsDecided verdict → Judges body (bytes ++ more) ended verdict

-- no two verdicts on the same bytes decide something else
abbrev pub VerdictsAreOne : Type 0
VerdictsAreOne =
    (body : FramedBody) (bytes : List ℕ) (ended : Bool) (one other : Verdict)
    → Judges body bytes ended one → Judges body bytes ended other → DecidesAs one other

-- all bytes have a verdict
abbrev pub VerdictsExist : Type 0
VerdictsExist = (body : FramedBody) (bytes : List ℕ) (ended : Bool) → (verdict : Verdict) × Judges body bytes ended verdict

-- once no more bytes come, something is decided
abbrev pub EndsDecide : Type 0
EndsDecide = (body : FramedBody) (bytes : List ℕ) (verdict : Verdict) → Judges body bytes true verdict → IsDecided verdict

-- whatever follows these bytes, they are all of their body, and so is the first byte of what follows
abbrev pub AreShort : BodyFraming → List ℕ → Type 0
AreShort framing bytes = (more : List ℕ) → length bytes + min 1 (length more) ≤ size_in framing (bytes ++ more)

-- a body that is open lacks bytes
abbrev pub OpenBodiesAreShort : Type 0
OpenBodiesAreShort =
    (body : FramedBody) (bytes held : List ℕ) → Judges body bytes false (Open held) → AreShort body.framing bytes

-- and is incomplete where its input ends there
abbrev pub OpenBodiesEndIncomplete : Type 0
OpenBodiesEndIncomplete =
    (body : FramedBody) (bytes held : List ℕ) → Judges body bytes false (Open held)
    → Judges body bytes true (Refused (length bytes) IncompleteBody)

-- a refusal stands at its place: the bytes up to there have come, and are refused for themselves
abbrev pub RefusalsStand : Type 0
RefusalsStand =
    (body : FramedBody) (bytes : List ℕ) (place : ℕ) (code : Code) → Judges body bytes false (Refused place code)
    → (place ≤ length bytes) × Judges body (take place bytes) false (Refused place code)

-- The bytes of a body have all come, and are judged so by themselves: whatever stands behind them isn't looked at.
pub record IsWhole (body : FramedBody) (bytes payload : List ℕ) : Type 0 where
  pub come : size_in body.framing bytes ≤ length bytes
  pub alone : Judges body (take (size_in body.framing bytes) bytes) false (Accepted payload)
  pub ends : Ends body.framing (take (size_in body.framing bytes) bytes)
  pub stays : (more : List ℕ) → size_in body.framing (bytes ++ more) ≡ size_in body.framing bytes

-- a body is accepted once its last byte has come, and by its own bytes alone, whether or not the input ends there
abbrev pub AcceptedAreWhole : Type 0
AcceptedAreWhole =
    (body : FramedBody) (bytes : List ℕ) (ended : Bool) (payload : List ℕ) → Judges body bytes ended (Accepted payload)
    → IsWhole body bytes payload

-- of bytes that end where their body does, and others behind them, just they are the body's
abbrev pub EndsAreSizes : Type 0
EndsAreSizes =
    (framing : BodyFraming) (bytes more : List ℕ) → Ends framing bytes → size_in framing (bytes ++ more) ≡ length bytes

-- the payload of a body that is sent as it is is its data
abbrev pub WholePayloadsAreData : Type 0
WholePayloadsAreData =
    (body : FramedBody) (bytes payload : List ℕ) → IsSentAsItIs body.form → Ends body.framing bytes
    → Judges body bytes false (Accepted payload) → IsDataOf body.framing bytes payload
