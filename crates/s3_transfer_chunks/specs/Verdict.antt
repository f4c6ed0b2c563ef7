-- What is known of a body in the chunked transfer coding after some of its bytes.
use Rattle.std.specs.Prelude.{ℕ, Bool, true, false, List}
use Rattle.s3_terms.specs.declared.code.Code.{Code}
use Rattle.s3_transfer_chunks.specs.Reading.{Reading, code_of, reading_of, taken_in}
use Rattle.s3_transfer_chunks.specs.declared.place.Place.{Place}
use Rattle.s3_transfer_chunks.specs.declared.place.Place.TheVariants as places

-- it is refused at a place with a code, over at a place with its data, or still open with the data so far
pub data Verdict : Type 0 where
  Refused : ℕ → Code → Verdict
  Accepted : ℕ → List ℕ → Verdict
  Open : List ℕ → Verdict

-- whether the body is accepted
abbrev pub accepts : Verdict → Bool
accepts (Accepted place held) = true
accepts (Refused place code) = false
accepts (Open held) = false

-- what a place says, behind so many bytes, with this data
abbrev pub verdict_at : Place → ℕ → List ℕ → Verdict
verdict_at (places.Refused fault) taken held = Refused taken (code_of fault)
verdict_at places.Over taken held = Accepted taken held
verdict_at (places.Size digits) taken held = Open held
verdict_at (places.Line size tail) taken held = Open held
verdict_at (places.Data left) taken held = Open held
verdict_at places.DataEnd taken held = Open held
verdict_at places.Last taken held = Open held
verdict_at places.LastEnd taken held = Open held

-- what a reading says behind so many bytes
abbrev pub verdict_in : Reading → ℕ → Verdict
verdict_in reading taken = verdict_at reading.place taken reading.held

-- what these bytes say of a body whose data may have so many bytes, where the last argument says that no more come
abbrev pub verdict_of : ℕ → List ℕ → Bool → Verdict
verdict_of limit bytes ended = verdict_in (reading_of limit bytes ended) (taken_in limit bytes)
