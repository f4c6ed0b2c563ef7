-- What the calls of a reader bring, whichever way its body is sent.
use Rattle.std.specs.Prelude.{◌≡◌, ◌⊎◌, ℕ, ◌-◌, ◌<◌, min, List, length, Result, Ok, Err, ⊤}
use Rattle.s3_terms.specs.declared.code.Code.{Code}
use Rattle.s3_terms.specs.declared.code.Code.TheVariants.{InternalError, IncompleteBody}
use Rattle.s3_aws_chunked.specs.Verdict.{Verdict, Accepted, Open, Refused}

-- how much of a piece is the body's, of which these bytes came before: all of it, or what Content-Length leaves
abbrev pub part_of : ℕ → List ℕ → List ℕ → ℕ
part_of size bytes piece = min (length piece) (size - length bytes)

-- what a piece brings, of which so many bytes are the body's: they were taken, and the reader stands behind the
-- piece and has refused nothing; or it has refused, where memory ran out for some of them, or standing there
abbrev pub FedTo : List ℕ → ℕ → Type 0 → (Code → Type 0) → Result ℕ Code → Type 0
FedTo piece part stands failed (Ok taken) = (taken ≡ part) × stands × ((code : Code) → ¬ (failed code))
FedTo piece part stands failed (Err code) = failed code × (((code ≡ InternalError) × (0 < part)) ⊎ stands)

-- what the end of input brings: the body is whole, or the reader has refused
abbrev pub EndedTo : Type 0 → (Code → Type 0) → Type 0 → Result ⊤ Code → Type 0
EndedTo stands failed passed (Ok done) = stands × passed
EndedTo stands failed passed (Err code) = stands × failed code

-- what is handed out where a body is known so: its data, or the code of what is wrong with it
abbrev pub finished : Verdict → Result (List ℕ) Code
finished (Accepted payload) = Ok payload
finished (Refused place code) = Err code
finished (Open held) = Err IncompleteBody
