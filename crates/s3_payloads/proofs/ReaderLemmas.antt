-- What the calls of a reader of signed chunks bring, by what was announced.
use Rattle.std.proofs.Common.{ℕ, true, false, List, ◌++◌, Result}
use Rattle.std.specs.Prelude.{⊤}
use Rattle.s3_terms.specs.declared.code.Code.{Code}
use Rattle.s3_aws_chunked.specs.Verdict.{Terms}
use Rattle.s3_aws_chunked.specs.Reader as chunked
use Rattle.s3_payloads.specs.declared.chunks.ChunksReader.{ChunksReader}
use Rattle.s3_payloads.specs.declared.form.Form.{Form}
use Rattle.s3_payloads.specs.declared.form.Form.TheVariants as forms
use Rattle.s3_payloads.specs.Form.{Announced}
use Rattle.s3_payloads.specs.Outcome.{FedTo, EndedTo, part_of}
use Rattle.s3_payloads.specs.Reader.{ChunksFor}
use Rattle.s3_payloads.specs.Verdict.{terms_of}

-- a piece
pub chunks_fed_for : (form : Form) (announced : Announced) (old new : ChunksReader) (bytes piece : List ℕ) (result : Result ℕ Code)
    → ChunksFor form old announced bytes false
    → ((terms : Terms) → chunked.Stands old.chunks terms bytes false old.payload
    → FedTo piece (part_of terms.encoded bytes piece) (chunked.Stands new.chunks terms (bytes ++ piece) false new.payload) (chunked.Failed new.chunks) result)
    → FedTo piece (part_of announced.length bytes piece) (ChunksFor form new announced (bytes ++ piece) false) (chunked.Failed new.chunks) result
chunks_fed_for (forms.Whole hash digests) announced old new bytes piece result stands fed = absurd stands
chunks_fed_for (forms.Chunks decoded) announced old new bytes piece result stands fed = fed (terms_of announced decoded) stands
chunks_fed_for (forms.TrailedChunks decoded algorithm signed) announced old new bytes piece result stands fed = absurd stands

-- the end of input
pub chunks_ended_for : (form : Form) (announced : Announced) (old new : ChunksReader) (bytes : List ℕ) (result : Result ⊤ Code)
    → ChunksFor form old announced bytes false
    → ((terms : Terms) → chunked.Stands old.chunks terms bytes false old.payload
    → EndedTo (chunked.Stands new.chunks terms bytes true new.payload) (chunked.Failed new.chunks) (chunked.IsDone new.chunks) result)
    → EndedTo (ChunksFor form new announced bytes true) (chunked.Failed new.chunks) (chunked.IsDone new.chunks) result
chunks_ended_for (forms.Whole hash digests) announced old new bytes result stands ended = absurd stands
chunks_ended_for (forms.Chunks decoded) announced old new bytes result stands ended = ended (terms_of announced decoded) stands
chunks_ended_for (forms.TrailedChunks decoded algorithm signed) announced old new bytes result stands ended = absurd stands
