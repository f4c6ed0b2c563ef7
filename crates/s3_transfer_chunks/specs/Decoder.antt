-- How a decoder stands after all bytes so far.
use Rattle.std.specs.Prelude.{◌≡◌, ℕ, Bool, false, List, Option, Some, if◌then◌else◌, Result, Ok, Err, ⊤, min, ◌-◌, ◌^◌}
use Rattle.s3_terms.specs.declared.code.Code.{Code}
use Rattle.s3_terms.specs.declared.code.Code.TheVariants.{InternalError, IncompleteBody}
use Rattle.s3_transfer_chunks.specs.Reading.{Reading, code_at, reading_of, taken_in}
use Rattle.s3_transfer_chunks.specs.Verdict.{Verdict, Refused, Accepted, Open, verdict_at}
use Rattle.s3_transfer_chunks.specs.declared.place.Place.{Place}
use Rattle.s3_transfer_chunks.specs.declared.place.Place.TheVariants.{Over}
use Rattle.s3_transfer_chunks.specs.declared.standing.Standing.{Standing}
use Rattle.s3_transfer_chunks.specs.declared.decoder.TransferDecoder.{TransferDecoder}

-- what is kept of a reading, with the data that the sinks got
abbrev pub reading_in : Standing → List ℕ → Reading
reading_in standing held = record { place = standing.place; left = standing.left; held = held }

-- it stands there now
abbrev pub standing_at : Standing → Place → Standing
standing_at standing place = record standing { place = place }

-- what a `u64` says that counts so many: from 2^64 - 1 on it stays
abbrev pub counted : ℕ → ℕ
counted count = min count (2 ^ 64 - 1)

-- after these bytes of a body whose data may have so many bytes, and the end of the input where it has ended, the decoder
-- stands so, and gave this data to its sinks; memory never ran out
pub record Stands (decoder : TransferDecoder) (limit : ℕ) (bytes : List ℕ) (ended : Bool) (held : List ℕ) : Type 0 where
  pub kept : decoder.lost ≡ false
  pub shows : reading_in decoder.standing held ≡ reading_of limit bytes ended
  pub counts : decoder.taken ≡ counted (taken_in limit bytes)

-- the code with which the decoder has refused
abbrev pub refusal_of : TransferDecoder → Option Code
refusal_of decoder = if decoder.lost then Some InternalError else code_at decoder.standing.place

-- it has refused with this code
abbrev pub Failed : TransferDecoder → Code → Type 0
Failed decoder code = refusal_of decoder ≡ Some code

-- the decoder has read a whole body, with nothing wrong
abbrev pub IsDone : TransferDecoder → Type 0
IsDone decoder = (decoder.lost ≡ false) × (decoder.standing.place ≡ Over)

-- how many bytes of the body it has taken
abbrev pub taken_of : TransferDecoder → ℕ
taken_of decoder = decoder.taken

-- what the decoder says of its body, if it gave this data
abbrev pub verdict_by : TransferDecoder → List ℕ → Verdict
verdict_by decoder held = verdict_at decoder.standing.place (taken_of decoder) held

-- what the end of the input is answered where this is said of the body
abbrev pub said_at_end : Verdict → Result ⊤ Code
said_at_end (Accepted place held) = Ok tt
said_at_end (Refused place code) = Err code
said_at_end (Open held) = Err IncompleteBody
