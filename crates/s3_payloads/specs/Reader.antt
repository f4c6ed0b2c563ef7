-- How a reader of a payload stands after all bytes so far.
-- `Stands` is what the clauses of the reader carry along. What it comes to is a law, `payloads_are_judged`: the
-- verdict on these bytes. So its inside need not be believed.
use Rattle.std.specs.Prelude.{◌≡◌, ℕ, Bool, true, false, List, ◌++◌, length, Result, ⊤}
use Rattle.s3_terms.specs.declared.code.Code.{Code}
use Rattle.s3_aws_chunked.specs.Verdict.{Verdict}
use Rattle.s3_aws_chunked.specs.Reader as chunked
use Rattle.s3_payloads.specs.declared.chunks.ChunksReader.{ChunksReader}
use Rattle.s3_payloads.specs.declared.form.Form.{Form}
use Rattle.s3_payloads.specs.declared.form.Form.TheVariants as forms
use Rattle.s3_payloads.specs.declared.reader.PayloadReader.{PayloadReader}
use Rattle.s3_payloads.specs.declared.reader.Mode.{Mode}
use Rattle.s3_payloads.specs.declared.reader.Mode.TheVariants as modes
use Rattle.s3_payloads.specs.declared.trailed.TrailedReader.{TrailedReader}
use Rattle.s3_payloads.specs.declared.whole.Stage.TheVariants as stages
use Rattle.s3_payloads.specs.Form.{Announced}
use Rattle.s3_payloads.specs.Outcome.{FedTo, EndedTo, part_of}
use Rattle.s3_payloads.specs.Trailed.{TrailedDone, TrailedFailed, TrailedStands, trailed_by, trailed_taken}
use Rattle.s3_payloads.specs.Verdict.{terms_of, trailed_terms}
use Rattle.s3_payloads.specs.Whole.{WholeState, WholeStands, told}

abbrev pub WholeFor : Form → WholeState → Announced → List ℕ → Bool → Type 0
WholeFor (forms.Whole hash digests) whole announced bytes ended =
    WholeStands whole hash digests announced.length bytes ended
WholeFor (forms.Chunks decoded) whole announced bytes ended = ⊥
WholeFor (forms.TrailedChunks decoded algorithm signed) whole announced bytes ended = ⊥

abbrev pub ChunksFor : Form → ChunksReader → Announced → List ℕ → Bool → Type 0
ChunksFor (forms.Whole hash digests) chunks announced bytes ended = ⊥
ChunksFor (forms.Chunks decoded) chunks announced bytes ended =
    chunked.Stands chunks.chunks (terms_of announced decoded) bytes ended chunks.payload
ChunksFor (forms.TrailedChunks decoded algorithm signed) chunks announced bytes ended = ⊥

abbrev pub TrailedFor : Form → TrailedReader → Announced → List ℕ → Bool → Type 0
TrailedFor (forms.Whole hash digests) trailed announced bytes ended = ⊥
TrailedFor (forms.Chunks decoded) trailed announced bytes ended = ⊥
TrailedFor (forms.TrailedChunks decoded algorithm signed) trailed announced bytes ended =
    TrailedStands trailed algorithm (trailed_terms announced decoded algorithm signed) bytes ended

abbrev pub ModeStands : Mode → Announced → List ℕ → Bool → Type 0
ModeStands (modes.Whole whole) announced bytes ended = WholeFor announced.form whole announced bytes ended
ModeStands (modes.Chunks chunks) announced bytes ended = ChunksFor announced.form chunks announced bytes ended
ModeStands (modes.Trailed trailed) announced bytes ended = TrailedFor announced.form trailed announced bytes ended

-- after these bytes of a body that was announced so, and the end of the input where it has ended, the reader
-- stands there; memory never ran out
abbrev pub Stands : PayloadReader → Announced → List ℕ → Bool → Type 0
Stands reader announced bytes ended = ModeStands reader.mode announced bytes ended

abbrev pub mode_verdict : Mode → Verdict
mode_verdict (modes.Whole whole) = told whole.bytes whole.stage
mode_verdict (modes.Chunks chunks) = chunked.verdict_of chunks.chunks chunks.payload
mode_verdict (modes.Trailed trailed) = trailed_by trailed

-- what the reader says of its body
abbrev pub verdict_of : PayloadReader → Verdict
verdict_of reader = mode_verdict reader.mode

abbrev pub ModeFailed : Mode → Code → Type 0
ModeFailed (modes.Whole whole) code = whole.stage ≡ stages.Failed code
ModeFailed (modes.Chunks chunks) code = chunked.Failed chunks.chunks code
ModeFailed (modes.Trailed trailed) code = TrailedFailed trailed code

-- the reader has refused with this code
abbrev pub HasFailed : PayloadReader → Code → Type 0
HasFailed reader code = ModeFailed reader.mode code

abbrev pub ModePassed : Mode → Type 0
ModePassed (modes.Whole whole) = whole.stage ≡ stages.Passed
ModePassed (modes.Chunks chunks) = chunked.IsDone chunks.chunks
ModePassed (modes.Trailed trailed) = TrailedDone trailed

-- the reader has read a whole body, with nothing wrong
abbrev pub HasPassed : PayloadReader → Type 0
HasPassed reader = ModePassed reader.mode

abbrev pub mode_taken : Mode → ℕ
mode_taken (modes.Whole whole) = length whole.bytes
mode_taken (modes.Chunks chunks) = chunked.taken_of chunks.chunks
mode_taken (modes.Trailed trailed) = trailed_taken trailed

-- how many bytes of the body it has taken
abbrev pub taken_of : PayloadReader → ℕ
taken_of reader = mode_taken reader.mode

-- what a piece brings behind these bytes
abbrev pub IsFed : Announced → List ℕ → List ℕ → Result ℕ Code → PayloadReader → Type 0
IsFed announced bytes piece result new =
    FedTo piece (part_of announced.length bytes piece) (Stands new announced (bytes ++ piece) false) (HasFailed new) result

-- what the end of input brings behind them
abbrev pub IsEnded : Announced → List ℕ → Result ⊤ Code → PayloadReader → Type 0
IsEnded announced bytes result new =
    EndedTo (Stands new announced bytes true) (HasFailed new) (HasPassed new) result
