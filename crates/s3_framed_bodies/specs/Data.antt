-- What comes of the data of a body that has all come.
-- Only clauses of private functions cite these, and nobody has to believe them.
use Rattle.std.specs.Prelude.{◌≡◌, ◌⊎◌, ℕ, List, Option, Result, Ok, Err}
use Rattle.s3_terms.specs.declared.code.Code.{Code}
use Rattle.s3_terms.specs.declared.code.Code.TheVariants.{InternalError}
use Rattle.s3_signing.specs.Verdict.{Proved}
use Rattle.s3_integrity.specs.declared.checksum.Checksum.{Checksum}
use Rattle.s3_aws_chunked.specs.Verdict.{Accepted, Refused}
use Rattle.s3_payloads.specs.declared.form.Form.{Form}
use Rattle.s3_payloads.specs.FoundSum.{found_sum}
use Rattle.s3_framed_bodies.specs.Verdict.{DataJudged}

-- it is accepted, with its payload and the checksum that was found of it; or refused; or memory ran out
abbrev pub DataTold : Form → Proved → ℕ → ℕ → List ℕ → Result (List ℕ × Option Checksum) Code → Type 0
DataTold form proved decoded place held (Ok told) =
    DataJudged form proved decoded place held (Accepted told.0) × (told.1 ≡ found_sum form told.0)
DataTold form proved decoded place held (Err code) = (code ≡ InternalError) ⊎ DataJudged form proved decoded place held (Refused place code)
