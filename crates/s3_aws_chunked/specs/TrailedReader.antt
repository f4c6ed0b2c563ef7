-- How a reader of a body with a trailer stands after all bytes so far.
use Rattle.std.specs.Prelude.{◌≡◌, ℕ, ◌<◌, nat_lt, Bool, true, false, List, Option, Some, None, option_map, if◌then◌else◌}
use Rattle.s3_terms.specs.declared.code.Code.{Code}
use Rattle.s3_terms.specs.declared.code.Code.TheVariants.{InternalError}
use Rattle.s3_integrity.specs.Algorithm.{header_of}
use Rattle.s3_unsigned_chunks.specs.Verdict.{Verdict}
use Rattle.s3_aws_chunked.specs.Trailer.{taken_with, value_of_trailer}
use Rattle.s3_aws_chunked.specs.Decoder.{Shows, code_of, fault_at, is_at_end}
use Rattle.s3_aws_chunked.specs.Trailed.{TrailedTerms, Reading, is_whole, reading_of, verdict_at}
use Rattle.s3_aws_chunked.specs.declared.phase.Fault.{Fault}
use Rattle.s3_aws_chunked.specs.declared.trailed.TrailedDecoder.{TrailedDecoder}
use Rattle.s3_aws_chunked.specs.declared.trailed_reader.TrailedChunkReader.{TrailedChunkReader}

-- the decoder is there
pub record ShowsTrailed (decoder : TrailedDecoder) (r : Reading) : Type 0 where
  pub chunks : Shows decoder.decoder r.chunks
  pub size : decoder.trailer.size ≡ r.size
  pub trailer : decoder.trailer.bytes ≡ r.trailer
  pub front : 0 < r.size → decoder.trailer.front ≡ r.chunks.place.span.taken

-- the chunks are over where their last first line has come
abbrev pub IsBetween : Reading → Type 0
IsBetween r = is_at_end r.chunks.place.phase ≡ false

-- how many bytes it has taken
abbrev pub taken_by : TrailedDecoder → ℕ
taken_by decoder =
    taken_with decoder.trailer.size (if nat_lt 0 decoder.trailer.size then decoder.trailer.front else decoder.decoder.place.span.taken)
    decoder.trailer.bytes

-- after these bytes of a body with these terms, and the end of the input where it has ended, the reader stands so, and gave
-- this data to its sinks; memory never ran out
pub record Stands (reader : TrailedChunkReader) (terms : TrailedTerms) (bytes : List ℕ) (ended : Bool) (held : List ℕ) : Type 0 where
  pub name : header_of reader.algorithm ≡ terms.name
  pub kept : reader.lost ≡ false
  pub shows : ShowsTrailed reader.body (reading_of terms bytes ended)
  pub given : held ≡ (reading_of terms bytes ended).chunks.held

-- the fault of its body, where it has refused that
abbrev pub fault_of : TrailedChunkReader → Option Fault
fault_of reader = fault_at reader.body.decoder.place.phase

-- the code with which the reader has refused
abbrev pub refusal_of : TrailedChunkReader → Option Code
refusal_of reader = if reader.lost then Some InternalError else option_map code_of (fault_of reader)

-- it has refused with this code
abbrev pub Failed : TrailedChunkReader → Code → Type 0
Failed reader code = refusal_of reader ≡ Some code

-- its trailer is there, whole
abbrev pub has_trailer : TrailedChunkReader → Bool
has_trailer reader = is_whole reader.body.trailer.size reader.body.trailer.bytes

-- the reader has read a whole body, with nothing wrong
pub record IsDone (reader : TrailedChunkReader) : Type 0 where
  pub kept : reader.lost ≡ false
  pub right : fault_of reader ≡ None
  pub whole : has_trailer reader ≡ true

-- how many bytes of the body it has taken
abbrev pub taken_of : TrailedChunkReader → ℕ
taken_of reader = taken_by reader.body

-- the value of the trailer, where it has come
abbrev pub value_of : TrailedChunkReader → List ℕ
value_of reader = value_of_trailer (header_of reader.algorithm) reader.body.trailer.bytes

-- what the reader says of its body, if it gave this data
abbrev pub verdict_by : TrailedChunkReader → List ℕ → Verdict
verdict_by reader held = verdict_at (fault_of reader) (has_trailer reader) (taken_of reader) held (value_of reader)
