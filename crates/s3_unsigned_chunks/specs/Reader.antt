-- How a reader stands after all bytes so far.
use Rattle.std.specs.Prelude.{◌≡◌, ℕ, Bool, false, List, Option, Some, if◌then◌else◌, Result, Ok, Err, ⊤}
use Rattle.s3_terms.specs.declared.code.Code.{Code}
use Rattle.s3_terms.specs.declared.code.Code.TheVariants.{InternalError, IncompleteBody}
use Rattle.s3_integrity.specs.Algorithm.{header_of}
use Rattle.s3_unsigned_chunks.specs.Reading.{Terms, Reading, code_at, reading_of}
use Rattle.s3_unsigned_chunks.specs.Verdict.{Verdict, Refused, Accepted, Open, verdict_at}
use Rattle.s3_unsigned_chunks.specs.declared.place.Place.{Place}
use Rattle.s3_unsigned_chunks.specs.declared.place.Place.TheVariants.{Over}
use Rattle.s3_unsigned_chunks.specs.declared.standing.Standing.{Standing}
use Rattle.s3_unsigned_chunks.specs.declared.reader.UnsignedChunkReader.{UnsignedChunkReader}

-- what is kept of a reading, with the data that the sinks got
abbrev pub reading_in : Standing → List ℕ → Reading
reading_in standing held =
    record { place = standing.place; taken = standing.taken; left = standing.left; value = standing.value; held = held }

-- it stands there now
abbrev pub standing_at : Standing → Place → Standing
standing_at standing place = record standing { place = place }

-- after these bytes of a body with these terms, and the end of the input where it has ended, the reader stands so, and gave
-- this data to its sinks; memory never ran out
pub record Stands (reader : UnsignedChunkReader) (terms : Terms) (bytes : List ℕ) (ended : Bool) (held : List ℕ) : Type 0 where
  pub name : header_of reader.algorithm ≡ terms.name
  pub encoded : reader.encoded ≡ terms.encoded
  pub kept : reader.lost ≡ false
  pub shows : reading_in reader.standing held ≡ reading_of terms bytes ended

-- the code with which the reader has refused
abbrev pub refusal_of : UnsignedChunkReader → Option Code
refusal_of reader = if reader.lost then Some InternalError else code_at reader.standing.place

-- it has refused with this code
abbrev pub Failed : UnsignedChunkReader → Code → Type 0
Failed reader code = refusal_of reader ≡ Some code

-- the reader has read a whole body, with nothing wrong
abbrev pub IsDone : UnsignedChunkReader → Type 0
IsDone reader = (reader.lost ≡ false) × (reader.standing.place ≡ Over)

-- how many bytes of the body it has taken
abbrev pub taken_of : UnsignedChunkReader → ℕ
taken_of reader = reader.standing.taken

-- the value of the trailer, as far as it was read
abbrev pub value_of : UnsignedChunkReader → List ℕ
value_of reader = reader.standing.value

-- what the reader says of its body, if it gave this data
abbrev pub verdict_by : UnsignedChunkReader → List ℕ → Verdict
verdict_by reader held = verdict_at reader.standing.place (taken_of reader) (value_of reader) held

-- what the end of input is answered where this is said of the body
abbrev pub said_at_end : Verdict → Result ⊤ Code
said_at_end (Accepted held value) = Ok tt
said_at_end (Refused place code) = Err code
said_at_end (Open held) = Err IncompleteBody
