-- What is known of a body in chunks without signatures after some of its bytes.
use Rattle.std.specs.Prelude.{ℕ, Bool, true, false, List}
use Rattle.s3_terms.specs.declared.code.Code.{Code}
use Rattle.s3_unsigned_chunks.specs.Reading.{Terms, Reading, code_of, reading_of}
use Rattle.s3_unsigned_chunks.specs.declared.place.Place.{Place}
use Rattle.s3_unsigned_chunks.specs.declared.place.Place.TheVariants as places

-- it is refused at a place with a code, accepted with its data and the value of its trailer, or still open with the data so far
pub data Verdict : Type 0 where
  Refused : ℕ → Code → Verdict
  Accepted : List ℕ → List ℕ → Verdict
  Open : List ℕ → Verdict

-- whether the body is accepted
abbrev pub accepts : Verdict → Bool
accepts (Accepted held value) = true
accepts (Refused place code) = false
accepts (Open held) = false

-- what a place says, behind so many bytes, with this value of the trailer and this data
abbrev pub verdict_at : Place → ℕ → List ℕ → List ℕ → Verdict
verdict_at (places.Refused fault) taken value held = Refused taken (code_of fault)
verdict_at places.Over taken value held = Accepted held value
verdict_at (places.Size digits) taken value held = Open held
verdict_at (places.SizeEnd size) taken value held = Open held
verdict_at (places.Data left) taken value held = Open held
verdict_at places.DataEnd taken value held = Open held
verdict_at (places.Name matched) taken value held = Open held
verdict_at places.Value taken value held = Open held
verdict_at places.Gap taken value held = Open held
verdict_at places.ValueEnd taken value held = Open held
verdict_at places.Last taken value held = Open held
verdict_at places.LastEnd taken value held = Open held

-- what a reading says
abbrev pub verdict_in : Reading → Verdict
verdict_in reading = verdict_at reading.place reading.taken reading.value reading.held

-- what these bytes of a body with these terms say of it, where the last argument says that no more come
abbrev pub verdict_of : Terms → List ℕ → Bool → Verdict
verdict_of terms bytes ended = verdict_in (reading_of terms bytes ended)
