-- How a reader of a body in the transfer coding stands after all bytes so far.
-- Only clauses of private functions cite these, and nobody has to believe them.
use Rattle.std.specs.Prelude.{◌≡◌, ℕ, ◌-◌, ◌^◌, ◌<◌, Bool, false, min, List, ◌++◌, length, Option, Result, Ok, Err, ⊤}
use Rattle.s3_terms.specs.declared.code.Code.{Code}
use Rattle.s3_integrity.specs.declared.checksum.Checksum.{Checksum}
use Rattle.s3_aws_chunked.specs.Verdict.{Verdict, Accepted, Open, Refused}
use Rattle.s3_payloads.specs.FoundSum.{found_sum}
use Rattle.s3_transfer_chunks.specs.Decoder as decoder
use Rattle.s3_transfer_chunks.specs.Reading.{taken_in}
use Rattle.s3_transfer_chunks.specs.Verdict as transfer
use Rattle.s3_framed_bodies.specs.Data.{DataTold}
use Rattle.s3_framed_bodies.specs.Framed.{FramedBody}
use Rattle.s3_framed_bodies.specs.Verdict.{CodingJudged}
use Rattle.s3_framed_bodies.specs.declared.coded.CodedReader.{CodedReader}
use Rattle.s3_framed_bodies.specs.declared.coded.Stage.{Stage}
use Rattle.s3_framed_bodies.specs.declared.coded.Stage.TheVariants.{Coming, Passed, Failed}

-- how many bytes it has taken
abbrev pub coded_taken : CodedReader → ℕ
coded_taken reader = decoder.taken_of reader.decoder

-- what a stage says of the body, behind so many bytes and this data
abbrev pub stage_verdict : Stage → ℕ → List ℕ → Verdict
stage_verdict Coming taken held = Open held
stage_verdict (Passed payload sum) taken held = Accepted payload
stage_verdict (Failed code) taken held = Refused taken code

-- what the reader says of its body
abbrev pub coded_verdict : CodedReader → Verdict
coded_verdict reader = stage_verdict reader.stage (coded_taken reader) reader.held

abbrev pub StageFailed : Stage → Code → Type 0
StageFailed Coming code = ⊥
StageFailed (Passed payload sum) code = ⊥
StageFailed (Failed other) code = other ≡ code

-- it has refused with this code
abbrev pub CodedFailed : CodedReader → Code → Type 0
CodedFailed reader code = StageFailed reader.stage code

abbrev pub StagePassed : Stage → Type 0
StagePassed Coming = ⊥
StagePassed (Passed payload sum) = Unit {0}
StagePassed (Failed code) = ⊥

-- it has read a whole body, with nothing wrong
abbrev pub CodedPassed : CodedReader → Type 0
CodedPassed reader = StagePassed reader.stage

-- the coding is read so far, and the data so far is at hand
pub record IsComing (reader : CodedReader) (limit : ℕ) (bytes : List ℕ) (ended : Bool) : Type 0 where
  pub stands : decoder.Stands reader.decoder limit bytes false reader.held
  pub still : transfer.verdict_of limit bytes false ≡ transfer.Open reader.held
  pub going : ended ≡ false

abbrev pub StageStands : Stage → CodedReader → FramedBody → ℕ → ℕ → List ℕ → Bool → Type 0
StageStands Coming reader body limit decoded bytes ended = IsComing reader limit bytes ended
StageStands (Passed payload sum) reader body limit decoded bytes ended =
    CodingJudged body.form body.proved decoded (transfer.verdict_of limit bytes ended) (Accepted payload) × (sum ≡ found_sum body.form payload)
StageStands (Failed code) reader body limit decoded bytes ended =
    CodingJudged body.form body.proved decoded (transfer.verdict_of limit bytes ended) (Refused (coded_taken reader) code)

-- after these bytes of a body that was announced so, whose coding has such limits, and the end of the input where it has ended,
-- the reader stands there; memory never ran out
pub record CodedStands (reader : CodedReader) (body : FramedBody) (limit decoded : ℕ) (bytes : List ℕ) (ended : Bool) : Type 0 where
  pub form : reader.form ≡ body.form
  pub proved : reader.verified ≡ body.proved
  pub says : reader.decoded ≡ decoded
  pub counts : coded_taken reader ≡ taken_in limit bytes
  pub fits : coded_taken reader < 2 ^ 64 - 1
  pub stands : StageStands reader.stage reader body limit decoded bytes ended

-- how much of a piece is the body's, of which these bytes came before
abbrev pub coded_part : ℕ → List ℕ → List ℕ → ℕ
coded_part limit bytes piece = min (length piece) (taken_in limit (bytes ++ piece) - length bytes)

-- what decoding a piece comes to, at the decoder and its data
abbrev pub Decoded : CodedReader → List ℕ → ℕ → List ℕ → Type 0
Decoded new piece limit bytes =
    decoder.Stands new.decoder limit (bytes ++ piece) false new.held × (coded_taken new ≡ taken_in limit (bytes ++ piece))

-- what judging all data comes to: the stage is what was told of it
abbrev pub SettledTo : CodedReader → CodedReader → Result ⊤ Code → Type 0
SettledTo old new (Ok done) =
    (payload : List ℕ) × (sum : Option Checksum) × (new.stage ≡ Passed payload sum)
    × ((place : ℕ) → DataTold old.form old.verified old.decoded place old.held (Ok (payload, sum)))
SettledTo old new (Err code) =
    (new.stage ≡ Failed code) × ((place : ℕ) → DataTold old.form old.verified old.decoded place old.held (Err code))
