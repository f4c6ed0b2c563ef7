-- How a reader stands after all bytes so far.
-- `Stands` is what the clauses of the reader carry along. What it comes to is a law, `readers_judge`: the verdict
-- on these bytes. So its inside, and that of `Decoder`, need not be believed.
use Rattle.std.specs.Prelude.{◌≡◌, ℕ, Bool, false, List, Option, Some, option_map, if◌then◌else◌, Result, Ok, Err, ⊤}
use Rattle.s3_terms.specs.declared.code.Code.{Code}
use Rattle.s3_terms.specs.declared.code.Code.TheVariants.{InternalError, IncompleteBody}
use Rattle.s3_aws_chunked.specs.Verdict.{Terms, Verdict, Accepted, Open}
use Rattle.s3_aws_chunked.specs.Verdict as verdicts
use Rattle.s3_aws_chunked.specs.Decoder.{Shows, code_of, fault_at, progress_of}
use Rattle.s3_aws_chunked.specs.declared.phase.Phase.{Phase}
use Rattle.s3_aws_chunked.specs.declared.phase.Phase.TheVariants.{Size, Line, Data, Ending, Over, Refused}
use Rattle.s3_aws_chunked.specs.declared.reader.ChunkReader.{ChunkReader}

-- after these bytes of a body with these terms, and the end of the input where it has ended, the reader stands
-- so, and gave this data to its sinks; memory never ran out
pub record Stands (reader : ChunkReader) (terms : Terms) (bytes : List ℕ) (ended : Bool) (held : List ℕ) : Type 0 where
  pub kept : reader.lost ≡ false
  pub shows : Shows reader.decoder (progress_of terms bytes ended)
  pub given : held ≡ (progress_of terms bytes ended).held

-- the code with which the reader has refused
abbrev pub refusal_of : ChunkReader → Option Code
refusal_of reader =
    if reader.lost then Some InternalError else option_map code_of (fault_at reader.decoder.place.phase)

-- it has refused with this code
abbrev pub Failed : ChunkReader → Code → Type 0
Failed reader code = refusal_of reader ≡ Some code

-- the reader has read a whole body, with nothing wrong
abbrev pub IsDone : ChunkReader → Type 0
IsDone reader = (reader.lost ≡ false) × (reader.decoder.place.phase ≡ Over)

-- how many bytes of the body it has taken
abbrev pub taken_of : ChunkReader → ℕ
taken_of reader = reader.decoder.place.span.taken

-- what a phase says
abbrev pub verdict_at : Phase → ℕ → List ℕ → Verdict
verdict_at (Refused fault) taken held = verdicts.Refused taken (code_of fault)
verdict_at Over taken held = Accepted held
verdict_at (Size digits) taken held = Open held
verdict_at (Line place size) taken held = Open held
verdict_at (Data left last) taken held = Open held
verdict_at (Ending last) taken held = Open held

-- what the reader says of its body, if it gave this data
abbrev pub verdict_of : ChunkReader → List ℕ → Verdict
verdict_of reader held = verdict_at reader.decoder.place.phase (taken_of reader) held

-- what the end of input is answered where this is said of the body
abbrev pub said_at_end : Verdict → Result ⊤ Code
said_at_end (Accepted held) = Ok tt
said_at_end (verdicts.Refused place code) = Err code
said_at_end (Open held) = Err IncompleteBody
