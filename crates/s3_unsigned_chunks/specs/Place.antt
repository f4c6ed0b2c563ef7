-- The spelling of a body in chunks without signatures, byte by byte: what a byte says, by where it stands.
-- A chunk is SIZE CRLF DATA CRLF; behind the last of them follow a size of zero and CRLF, the line NAME:VALUE CRLF of the
-- trailer, and CRLF (Amazon S3 API Reference, "Authenticating requests", STREAMING-UNSIGNED-PAYLOAD-TRAILER). Behind VALUE one
-- line feed may stand, as the examples of "Signature calculations for trailing headers" have it.
use Rattle.std.specs.Prelude.{ℕ, ◌+◌, ◌*◌, ◌<◌, ◌&&◌, ◌==◌, nat_lt, if◌then◌else◌, Bool, List, length, slice_index, Option, Some, None}
use Rattle.std.specs.Char.{digit_value, eq_ignore_ascii_case, is_ascii_graphic, is_digit}
use Rattle.s3_text.specs.Characters.{carriage_return, line_feed, colon}
use Rattle.s3_unsigned_chunks.specs.declared.place.Place.{Place}
use Rattle.s3_unsigned_chunks.specs.declared.place.Place.TheVariants.{Size, SizeEnd, Data, DataEnd, Name, Value, Gap, ValueEnd, Last, LastEnd, Over, Refused}
use Rattle.s3_unsigned_chunks.specs.declared.place.Step.{Step}
use Rattle.s3_unsigned_chunks.specs.declared.place.Step.TheVariants.{Misspelled, Moves, Opens, Spells, Ends}

-- a hexadecimal digit of either case
abbrev pub is_hex : ℕ → Bool
is_hex byte = is_digit byte 16

-- so many digits of this value, and one more; at most eight
abbrev pub more_digits : ℕ × ℕ → ℕ → Option (ℕ × ℕ)
more_digits digits byte =
    if is_hex byte && nat_lt digits.0 8 then Some (digits.0 + 1, digits.1 * 16 + digit_value byte) else None

-- the digits with one more, or nothing that a body has
abbrev pub to_digits : Option (ℕ × ℕ) → Step
to_digits None = Misspelled
to_digits (Some digits) = Moves (Size digits)

-- a byte that has to be this one
abbrev pub expected : ℕ → ℕ → Place → Step
expected byte wanted place = if byte == wanted then Moves place else Misspelled

-- a byte of a size, or the CR behind it
abbrev pub read_size : ℕ × ℕ → ℕ → Step
read_size digits byte =
    if byte == carriage_return && nat_lt 0 digits.0 then Moves (SizeEnd digits.1) else to_digits (more_digits digits byte)

-- the byte behind the CR of a size
abbrev pub read_size_end : ℕ → ℕ → Step
read_size_end size byte = if byte == line_feed then Opens size else Misspelled

-- a byte of the trailer's name, in any case, or the colon behind it
abbrev pub read_name : List ℕ → ℕ → ℕ → Step
read_name name count byte =
    if nat_lt count (length name)
    then (if eq_ignore_ascii_case byte (slice_index name count) then Moves (Name (count + 1)) else Misspelled)
    else expected byte colon Value

-- a byte of the trailer's value, of which so many have come, or the line feed or the CR behind it: 1 to 64 visible characters
abbrev pub read_value : ℕ → ℕ → Step
read_value count byte =
    if byte == carriage_return && nat_lt 0 count then Moves ValueEnd
    else if byte == line_feed && nat_lt 0 count then Moves Gap
    else if is_ascii_graphic byte && nat_lt count 64 then Spells
    else Misspelled

-- the last byte of a body
abbrev pub read_end : ℕ → Step
read_end byte = if byte == line_feed then Ends else Misspelled

-- a byte that is no data, where the value of the trailer so far has so many bytes
unfoldable pub read : List ℕ → ℕ → Place → ℕ → Step
read name count (Size digits) byte = read_size digits byte
read name count (SizeEnd size) byte = read_size_end size byte
read name count (Data left) byte = expected byte carriage_return DataEnd
read name count DataEnd byte = expected byte line_feed (Size (0, 0))
read name count (Name matched) byte = read_name name matched byte
read name count Value byte = read_value count byte
read name count Gap byte = expected byte carriage_return ValueEnd
read name count ValueEnd byte = expected byte line_feed Last
read name count Last byte = expected byte carriage_return LastEnd
read name count LastEnd byte = read_end byte
read name count Over byte = Misspelled
read name count (Refused fault) byte = Misspelled

-- a byte of the value has its place there
abbrev pub HasRoom : Step → ℕ → Type 0
HasRoom Spells count = count < 64
HasRoom Misspelled count = Unit {0}
HasRoom (Moves place) count = Unit {0}
HasRoom (Opens size) count = Unit {0}
HasRoom Ends count = Unit {0}
