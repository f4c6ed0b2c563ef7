-- What is known of a body by the bytes that have come behind its head, however its end is told (RFC 9112, 7.1; Amazon S3 API
-- Reference, "Error responses": IncompleteBody).
use Rattle.std.specs.Prelude.{◌≡◌, ℕ, Bool, true, false, ◌==◌, List, length}
use Rattle.s3_terms.specs.declared.code.Code.{Code}
use Rattle.s3_terms.specs.declared.code.Code.TheVariants.{IncompleteBody}
use Rattle.s3_http_heads.specs.declared.body_length.BodyFraming.{BodyFraming}
use Rattle.s3_http_heads.specs.declared.body_length.BodyFraming.TheVariants.{Sized, Coded}
use Rattle.s3_signing.specs.Verdict.{Proved}
use Rattle.s3_aws_chunked.specs.Verdict.{Verdict, Accepted, Open, Refused}
use Rattle.s3_payloads.specs.declared.form.Form.{Form}
use Rattle.s3_payloads.specs.declared.form.Form.TheVariants as forms
use Rattle.s3_payloads.specs.Verdict as payloads
use Rattle.s3_transfer_chunks.specs.Verdict as transfer
use Rattle.s3_framed_bodies.specs.Framed.{FramedBody, announced_with}

-- data of so many bytes in the transfer coding is as long as the head says, where it is sent as it is; chunks are counted by
-- themselves
abbrev pub has_length : Form → ℕ → ℕ → Bool
has_length (forms.Whole hash digests) decoded size = size == decoded
has_length (forms.Chunks counted) decoded size = true
has_length (forms.TrailedChunks counted algorithm signed) decoded size = true

-- what is said of a body's data, said of the body where it ends
abbrev pub told_at : ℕ → Verdict → Verdict
told_at place (Refused other code) = Refused place code
told_at place (Accepted payload) = Accepted payload
told_at place (Open held) = Open held

-- the verdict on data that has all come in the transfer coding, up to a place, by whether it is as long as the head says: it is
-- judged as a body that was sent with its length
abbrev pub DataJudgedBy : Bool → Form → Proved → ℕ → List ℕ → Verdict → Type 0
DataJudgedBy false form proved place held verdict = verdict ≡ Refused place IncompleteBody
DataJudgedBy true form proved place held verdict =
    (said : Verdict) × payloads.Judges (announced_with form proved (length held)) held true said × (verdict ≡ told_at place said)

abbrev pub DataJudged : Form → Proved → ℕ → ℕ → List ℕ → Verdict → Type 0
DataJudged form proved decoded place held verdict =
    DataJudgedBy (has_length form decoded (length held)) form proved place held verdict

-- the verdict on a body in the transfer coding, by that on the coding: its data is judged once it has ended
abbrev pub CodingJudged : Form → Proved → ℕ → transfer.Verdict → Verdict → Type 0
CodingJudged form proved decoded (transfer.Refused place code) verdict = verdict ≡ Refused place code
CodingJudged form proved decoded (transfer.Open held) verdict = verdict ≡ Open held
CodingJudged form proved decoded (transfer.Accepted place held) verdict = DataJudged form proved decoded place held verdict

abbrev pub FramingJudged : BodyFraming → Form → Proved → List ℕ → Bool → Verdict → Type 0
FramingJudged (Sized size) form proved bytes ended verdict = payloads.Judges (announced_with form proved size) bytes ended verdict
FramingJudged (Coded limit decoded) form proved bytes ended verdict =
    CodingJudged form proved decoded (transfer.verdict_of limit bytes ended) verdict

-- the verdict on a body that was announced so, by the bytes behind its head; ended says that no more come
abbrev pub Judges : FramedBody → List ℕ → Bool → Verdict → Type 0
Judges body bytes ended verdict = FramingJudged body.framing body.form body.proved bytes ended verdict
