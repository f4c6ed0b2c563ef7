-- How a body in the chunked transfer coding is read, byte by byte.
use Rattle.std.specs.Prelude.{ℕ, ◌+◌, ◌-◌, Bool, true, false, nat_lt, if◌then◌else◌, List, [], ◌∷◌, ◌++◌, length, Option, Some, None}
use Rattle.s3_terms.specs.declared.code.Code.{Code}
use Rattle.s3_terms.specs.declared.code.Code.TheVariants.{InvalidRequest, EntityTooLarge, IncompleteBody}
use Rattle.s3_transfer_chunks.specs.Place.{read}
use Rattle.s3_transfer_chunks.specs.declared.place.Fault.{Fault}
use Rattle.s3_transfer_chunks.specs.declared.place.Fault.TheVariants.{Invalid, TooLarge, Incomplete}
use Rattle.s3_transfer_chunks.specs.declared.place.Place.{Place}
use Rattle.s3_transfer_chunks.specs.declared.place.Place.TheVariants.{Size, Line, Data, DataEnd, Last, LastEnd, Over, Refused}
use Rattle.s3_transfer_chunks.specs.declared.place.Step.{Step}
use Rattle.s3_transfer_chunks.specs.declared.place.Step.TheVariants.{Misspelled, Moves, Announces}

-- how a body was read so far: where it stands in the spelling, how much of the limit no size has announced yet, and the data
-- so far
pub record Reading : Type 0 where
  pub place : Place
  pub left : ℕ
  pub held : List ℕ

-- the code of a fault
abbrev pub code_of : Fault → Code
code_of Invalid = InvalidRequest
code_of TooLarge = EntityTooLarge
code_of Incomplete = IncompleteBody

-- the code, where it is refused
abbrev pub code_at : Place → Option Code
code_at (Refused fault) = Some (code_of fault)
code_at (Size digits) = None
code_at (Line size tail) = None
code_at (Data left) = None
code_at DataEnd = None
code_at Last = None
code_at LastEnd = None
code_at Over = None

-- nothing more is read
abbrev pub is_settled : Place → Bool
is_settled Over = true
is_settled (Refused fault) = true
is_settled (Size digits) = false
is_settled (Line size tail) = false
is_settled (Data left) = false
is_settled DataEnd = false
is_settled Last = false
is_settled LastEnd = false

-- data of a chunk is to come
abbrev pub is_data : Place → Bool
is_data (Data left) = nat_lt 0 left
is_data (Size digits) = false
is_data (Line size tail) = false
is_data DataEnd = false
is_data Last = false
is_data LastEnd = false
is_data Over = false
is_data (Refused fault) = false

-- so many bytes of the data are gone
abbrev pub data_left : Place → ℕ → Place
data_left (Data left) count = Data (left - count)
data_left (Size digits) count = Size digits
data_left (Line size tail) count = Line size tail
data_left DataEnd count = DataEnd
data_left Last count = Last
data_left LastEnd count = LastEnd
data_left Over count = Over
data_left (Refused fault) count = Refused fault

abbrev pub moved : Reading → Place → Reading
moved reading place = record reading { place = place }

abbrev pub refused : Reading → Fault → Reading
refused reading fault = moved reading (Refused fault)

-- a size is known; all sizes together come to the limit at most
abbrev pub announced : Reading → ℕ → Place → Reading
announced reading size place =
    if nat_lt reading.left size then refused reading TooLarge
    else record reading { left = reading.left - size; place = place }

-- what a byte says
unfoldable pub turned : Reading → Step → Reading
turned reading Misspelled = refused reading Invalid
turned reading (Moves place) = moved reading place
turned reading (Announces size tail) = announced reading size (Line size tail)

-- data of a chunk has come
abbrev pub data_read : Reading → List ℕ → Reading
data_read reading bytes =
    record reading { place = data_left reading.place (length bytes); held = reading.held ++ bytes }

-- a byte has come
unfoldable pub after_byte : Reading → ℕ → Reading
after_byte reading byte =
    if is_settled reading.place then reading
    else if is_data reading.place then data_read reading (byte ∷ [])
    else turned reading (read reading.place byte)

-- these bytes have come
abbrev pub run : Reading → List ℕ → Reading
run reading [] = reading
run reading (byte ∷ bytes) = run (after_byte reading byte) bytes

-- how many of these bytes are taken: none behind the end of the body, or behind a refusal
abbrev pub count_taken : Reading → List ℕ → ℕ
count_taken reading [] = 0
count_taken reading (byte ∷ bytes) =
    if is_settled reading.place then 0 else count_taken (after_byte reading byte) bytes + 1

-- nothing has come of a body whose data may have so many bytes
abbrev pub started : ℕ → Reading
started limit = record { place = Size (0, 0); left = limit; held = [] }

-- the input has ended
abbrev pub stopped : Reading → Reading
stopped reading = if is_settled reading.place then reading else refused reading Incomplete

-- these bytes have come, and the end of the input where it has ended
abbrev pub reading_of : ℕ → List ℕ → Bool → Reading
reading_of limit bytes true = stopped (run (started limit) bytes)
reading_of limit bytes false = run (started limit) bytes

-- how many of these bytes are taken
abbrev pub taken_in : ℕ → List ℕ → ℕ
taken_in limit bytes = count_taken (started limit) bytes
