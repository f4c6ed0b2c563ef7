-- What is known of every body, as laws: they speak of the definitions, and of no code.
use Rattle.std.specs.Prelude.{◌≡◌, ◌↔◌, ℕ, ◌<◌, ◌≤◌, Bool, true, false, min, List, ◌++◌, length, take, Some}
use Rattle.base64.specs.Engines.{standard}
use Rattle.base64.specs.GeneralPurpose.{IsBytes, encode_of}
use Rattle.s3_terms.specs.declared.code.Code.{Code}
use Rattle.s3_terms.specs.declared.code.Code.TheVariants.{IncompleteBody}
use Rattle.s3_aws_chunked.specs.Verdict.{Verdict, Accepted, Open, Refused, accepts}
use Rattle.s3_aws_chunked.specs.Finality.{DecidesAs, IsDecided}
use Rattle.s3_payloads.specs.declared.reader.PayloadReader.{PayloadReader}
use Rattle.s3_payloads.specs.Form.{Announced, IsSentAsItIs, digest_of}
use Rattle.s3_payloads.specs.Reader.{HasFailed, HasPassed, Stands, taken_of, verdict_of}
use Rattle.s3_payloads.specs.Verdict.{Judges}

-- an MD5 is found in its base64 (RFC 4648, section 4), and in no other text
abbrev pub DigestsAreEncoded : Type 0
DigestsAreEncoded =
    (text digest : List ℕ) → IsBytes text → IsBytes digest
    → (digest_of text ≡ Some digest) ↔ ((length digest ≡ 16) × (text ≡ encode_of standard digest))

-- a reader that stands after some bytes of a body says of it what they say
abbrev pub PayloadsJudge : Type 0
PayloadsJudge =
    (reader : PayloadReader) (announced : Announced) (bytes : List ℕ) (ended : Bool)
    → Stands reader announced bytes ended → Judges announced bytes ended (verdict_of reader)

-- where it has refused nothing, it has taken them all, up to the end of Content-Length
abbrev pub PayloadsCount : Type 0
PayloadsCount =
    (reader : PayloadReader) (announced : Announced) (bytes : List ℕ) (ended : Bool)
    → Stands reader announced bytes ended → ((code : Code) → ¬ (HasFailed reader code))
    → taken_of reader ≡ min announced.length (length bytes)

-- and never more than have come
abbrev pub PayloadsStayWithin : Type 0
PayloadsStayWithin =
    (reader : PayloadReader) (announced : Announced) (bytes : List ℕ) (ended : Bool)
    → Stands reader announced bytes ended → taken_of reader ≤ length bytes

-- where it has refused, it says so, at the count of what it has taken
abbrev pub PayloadsFail : Type 0
PayloadsFail =
    (reader : PayloadReader) (announced : Announced) (bytes : List ℕ) (ended : Bool) (code : Code)
    → Stands reader announced bytes ended → HasFailed reader code → verdict_of reader ≡ Refused (taken_of reader) code

-- and where it has passed, it says that too, and of what data
abbrev pub PayloadsPass : Type 0
PayloadsPass =
    (reader : PayloadReader) → HasPassed reader → (payload : List ℕ) × (verdict_of reader ≡ Accepted payload)

-- and where it has neither refused nor accepted, that its body is open
abbrev pub PayloadsStayOpen : Type 0
PayloadsStayOpen =
    (reader : PayloadReader) → ((code : Code) → ¬ (HasFailed reader code)) → accepts (verdict_of reader) ≡ false
    → (held : List ℕ) × (verdict_of reader ≡ Open held)

-- what was decided about a body before the end of the input stays decided, whatever follows, and whether or not that
-- is the end: so the verdict doesn't depend on how the bytes are cut
abbrev pub VerdictsStay : Type 0
VerdictsStay =
    (announced : Announced) (bytes more : List ℕ) (ended : Bool) (verdict : Verdict)
    → Judges announced bytes false verdict → IsDecided verdict → Judges announced (bytes ++ more) ended verdict

-- no two verdicts on the same bytes decide something else
abbrev pub VerdictsAreOne : Type 0
VerdictsAreOne =
    (announced : Announced) (bytes : List ℕ) (ended : Bool) (one other : Verdict)
    → Judges announced bytes ended one → Judges announced bytes ended other → DecidesAs one other

-- all bytes have a verdict
abbrev pub VerdictsExist : Type 0
VerdictsExist =
    (announced : Announced) (bytes : List ℕ) (ended : Bool) → (verdict : Verdict) × Judges announced bytes ended verdict

-- once no more bytes come, something is decided
abbrev pub EndsDecide : Type 0
EndsDecide = (announced : Announced) (bytes : List ℕ) (verdict : Verdict) → Judges announced bytes true verdict → IsDecided verdict

-- a body that is open lacks bytes: where all bytes of Content-Length have come, something is decided
abbrev pub OpenBodiesAreShort : Type 0
OpenBodiesAreShort =
    (announced : Announced) (bytes held : List ℕ) → Judges announced bytes false (Open held) → length bytes < announced.length

-- and is incomplete where its input ends there
abbrev pub OpenBodiesEndIncomplete : Type 0
OpenBodiesEndIncomplete =
    (announced : Announced) (bytes held : List ℕ) → Judges announced bytes false (Open held)
    → Judges announced bytes true (Refused (length bytes) IncompleteBody)

-- a refusal stands at its place: the bytes up to there have come, and are refused for themselves
abbrev pub RefusalsStand : Type 0
RefusalsStand =
    (announced : Announced) (bytes : List ℕ) (place : ℕ) (code : Code) → Judges announced bytes false (Refused place code)
    → (place ≤ length bytes) × Judges announced (take place bytes) false (Refused place code)

-- where a body is open, it is refused behind the bytes that have come
abbrev pub RefusalsComeBehind : Type 0
RefusalsComeBehind =
    (announced : Announced) (bytes more held : List ℕ) (place : ℕ) (code : Code)
    → Judges announced bytes false (Open held) → Judges announced (bytes ++ more) false (Refused place code)
    → (length bytes < place) × (place ≤ length (bytes ++ more))

-- and its reader has taken the bytes up to there: some of the piece that brings the refusal
abbrev pub PayloadsStopThere : Type 0
PayloadsStopThere =
    (reader : PayloadReader) (announced : Announced) (bytes piece held : List ℕ) (code : Code)
    → Judges announced bytes false (Open held) → Stands reader announced (bytes ++ piece) false → HasFailed reader code
    → (length bytes < taken_of reader) × (taken_of reader ≤ length (bytes ++ piece))

-- a body is accepted once its last byte has come, and by its own bytes alone: whatever stands behind them, and whether
-- or not the input ends there, isn't looked at
abbrev pub AcceptedAreWhole : Type 0
AcceptedAreWhole =
    (announced : Announced) (bytes : List ℕ) (ended : Bool) (payload : List ℕ) → Judges announced bytes ended (Accepted payload)
    → (announced.length ≤ length bytes) × Judges announced (take announced.length bytes) false (Accepted payload)

-- the payload of a body that is sent as it is is the body
abbrev pub WholePayloadsAreBodies : Type 0
WholePayloadsAreBodies =
    (announced : Announced) (body payload : List ℕ) (ended : Bool) → IsSentAsItIs announced.form → length body ≡ announced.length
    → Judges announced body ended (Accepted payload) → payload ≡ body
