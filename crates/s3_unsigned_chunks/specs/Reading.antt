-- How a body in chunks without signatures is read, byte by byte.
use Rattle.std.specs.Prelude.{ℕ, ◌+◌, ◌-◌, Bool, true, false, not, ◌==◌, nat_lt, if◌then◌else◌, List, [], ◌∷◌, ◌++◌, length, ◌&&◌, ◌||◌, Option, Some, None}
use Rattle.s3_terms.specs.declared.code.Code.{Code}
use Rattle.s3_terms.specs.declared.code.Code.TheVariants.{InvalidRequest, IncompleteBody}
use Rattle.s3_unsigned_chunks.specs.Place.{read}
use Rattle.s3_unsigned_chunks.specs.declared.place.Place.{Place}
use Rattle.s3_unsigned_chunks.specs.declared.place.Place.TheVariants.{Size, SizeEnd, Data, DataEnd, Name, Value, Gap, ValueEnd, Last, LastEnd, Over, Refused}
use Rattle.s3_unsigned_chunks.specs.declared.place.Fault.{Fault}
use Rattle.s3_unsigned_chunks.specs.declared.place.Fault.TheVariants.{Invalid, Incomplete}
use Rattle.s3_unsigned_chunks.specs.declared.place.Step.{Step}
use Rattle.s3_unsigned_chunks.specs.declared.place.Step.TheVariants.{Misspelled, Moves, Opens, Spells, Ends}

-- what a head says of its body: the name of the trailer (`x-amz-trailer`), Content-Length, which counts all bytes as they
-- are sent, and x-amz-decoded-content-length, which counts the data of the chunks
pub record Terms : Type 0 where
  pub name : List ℕ
  pub encoded : ℕ
  pub decoded : ℕ

-- how a body was read so far: where it stands in the spelling, how many bytes were taken, how much of the decoded length no
-- size has announced yet, the value of the trailer so far, and the data so far
pub record Reading : Type 0 where
  pub place : Place
  pub taken : ℕ
  pub left : ℕ
  pub value : List ℕ
  pub held : List ℕ

-- the code of a fault
abbrev pub code_of : Fault → Code
code_of Invalid = InvalidRequest
code_of Incomplete = IncompleteBody

-- the code, where it is refused
abbrev pub code_at : Place → Option Code
code_at (Refused fault) = Some (code_of fault)
code_at (Size digits) = None
code_at (SizeEnd size) = None
code_at (Data left) = None
code_at DataEnd = None
code_at (Name matched) = None
code_at Value = None
code_at Gap = None
code_at ValueEnd = None
code_at Last = None
code_at LastEnd = None
code_at Over = None

-- nothing more is read
abbrev pub is_settled : Place → Bool
is_settled Over = true
is_settled (Refused fault) = true
is_settled (Size digits) = false
is_settled (SizeEnd size) = false
is_settled (Data left) = false
is_settled DataEnd = false
is_settled (Name matched) = false
is_settled Value = false
is_settled Gap = false
is_settled ValueEnd = false
is_settled Last = false
is_settled LastEnd = false

-- data of a chunk is to come
abbrev pub is_data : Place → Bool
is_data (Data left) = nat_lt 0 left
is_data (Size digits) = false
is_data (SizeEnd size) = false
is_data DataEnd = false
is_data (Name matched) = false
is_data Value = false
is_data Gap = false
is_data ValueEnd = false
is_data Last = false
is_data LastEnd = false
is_data Over = false
is_data (Refused fault) = false

-- so many bytes of the data are gone
abbrev pub data_left : Place → ℕ → Place
data_left (Data left) count = Data (left - count)
data_left (Size digits) count = Size digits
data_left (SizeEnd size) count = SizeEnd size
data_left DataEnd count = DataEnd
data_left (Name matched) count = Name matched
data_left Value count = Value
data_left Gap count = Gap
data_left ValueEnd count = ValueEnd
data_left Last count = Last
data_left LastEnd count = LastEnd
data_left Over count = Over
data_left (Refused fault) count = Refused fault

abbrev pub moved : Reading → Place → Reading
moved reading place = record reading { place = place }

abbrev pub refused : Reading → Fault → Reading
refused reading fault = moved reading (Refused fault)

-- what stands behind the line of a size: the data of a chunk, or behind the last one the trailer
abbrev pub place_behind : ℕ → Place
place_behind size = if size == 0 then Name 0 else Data size

-- the line of a size has ended; a chunk has no more data than the decoded length leaves
unfoldable pub opened : Reading → ℕ → Reading
opened reading size =
    if nat_lt reading.left size then refused reading Invalid
    else record reading { left = reading.left - size; place = place_behind size }

-- the body has ended: the sizes come to the decoded length, and all bytes of Content-Length have come
unfoldable pub finished : ℕ → Reading → Reading
finished encoded reading =
    if nat_lt 0 reading.left then refused reading Incomplete
    else if nat_lt reading.taken encoded then refused reading Invalid
    else moved reading Over

-- what a byte says
unfoldable pub turned : ℕ → Reading → Step → ℕ → Reading
turned encoded reading Misspelled byte = refused reading Invalid
turned encoded reading (Moves place) byte = moved reading place
turned encoded reading (Opens size) byte = opened reading size
turned encoded reading Spells byte = record reading { value = reading.value ++ byte ∷ [] }
turned encoded reading Ends byte = finished encoded reading

-- all bytes of Content-Length have come, and the body has not ended
unfoldable pub settled : ℕ → Reading → Reading
settled encoded reading =
    if not (is_settled reading.place) && reading.taken == encoded then refused reading Incomplete else reading

abbrev pub counted : Reading → ℕ → Reading
counted reading more = record reading { taken = reading.taken + more }

-- a byte that is no data has come
unfoldable pub byte_read : List ℕ → ℕ → Reading → ℕ → Reading
byte_read name encoded reading byte =
    settled encoded (turned encoded (counted reading 1) (read name (length reading.value) reading.place byte) byte)

-- data of a chunk has come
unfoldable pub data_read : ℕ → Reading → List ℕ → Reading
data_read encoded reading bytes =
    settled encoded (record reading {
      place = data_left reading.place (length bytes);
      taken = reading.taken + length bytes;
      held = reading.held ++ bytes;
    })

-- no byte is read any more: it is over or refused, or all bytes of Content-Length have come
abbrev pub is_closed : ℕ → Place → ℕ → Bool
is_closed encoded place taken = is_settled place || not (nat_lt taken encoded)

-- a byte has come
unfoldable pub after_byte : Terms → Reading → ℕ → Reading
after_byte terms reading byte =
    if is_closed terms.encoded reading.place reading.taken then reading
    else if is_data reading.place then data_read terms.encoded reading (byte ∷ [])
    else byte_read terms.name terms.encoded reading byte

-- these bytes have come
abbrev pub run : Terms → Reading → List ℕ → Reading
run terms reading [] = reading
run terms reading (byte ∷ bytes) = run terms (after_byte terms reading byte) bytes

-- nothing has come
abbrev pub started : Terms → Reading
started terms =
    settled terms.encoded (record { place = Size (0, 0); taken = 0; left = terms.decoded; value = []; held = [] })

-- the input has ended
abbrev pub stopped : Reading → Reading
stopped reading = if is_settled reading.place then reading else refused reading Incomplete

-- these bytes have come, and the end of the input where it has ended
abbrev pub reading_of : Terms → List ℕ → Bool → Reading
reading_of terms bytes true = stopped (run terms (started terms) bytes)
reading_of terms bytes false = run terms (started terms) bytes
