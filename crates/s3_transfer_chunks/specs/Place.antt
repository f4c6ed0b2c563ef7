-- The spelling of a body in the chunked transfer coding, byte by byte: what a byte says, by where it stands (RFC 9112, 7.1).
-- A chunk is SIZE EXTENSION CRLF DATA CRLF; behind the last of them follow a size of zero, EXTENSION CRLF, and CRLF. An
-- extension is passed over, and trailer fields aren't taken.
use Rattle.std.specs.Prelude.{ℕ, ◌+◌, ◌*◌, ◌&&◌, ◌||◌, ◌==◌, nat_le, nat_lt, not, if◌then◌else◌, Bool, Option, Some, None}
use Rattle.std.specs.Char.{digit_value, is_digit}
use Rattle.s3_text.specs.Characters.{carriage_return, line_feed, semicolon, space}
use Rattle.s3_transfer_chunks.specs.declared.place.Tail.{Tail}
use Rattle.s3_transfer_chunks.specs.declared.place.Tail.TheVariants.{Blanks, Extension, End}
use Rattle.s3_transfer_chunks.specs.declared.place.Place.{Place}
use Rattle.s3_transfer_chunks.specs.declared.place.Place.TheVariants.{Size, Line, Data, DataEnd, Last, LastEnd, Over, Refused}
use Rattle.s3_transfer_chunks.specs.declared.place.Step.{Step}
use Rattle.s3_transfer_chunks.specs.declared.place.Step.TheVariants.{Misspelled, Moves, Announces}

abbrev pub tab : ℕ
tab = 9

abbrev pub delete : ℕ
delete = 127

-- a hexadecimal digit of either case
abbrev pub is_hex : ℕ → Bool
is_hex byte = is_digit byte 16

-- what may stand between a size and its extension (the RFC's BWS)
abbrev pub is_blank : ℕ → Bool
is_blank byte = byte == space || byte == tab

-- what an extension may have: tabs, and all bytes from the space on but DEL
abbrev pub is_passed : ℕ → Bool
is_passed byte = byte == tab || (nat_le space byte && not (byte == delete))

-- so many digits of this value, and one more; at most sixteen
abbrev pub more_digits : ℕ × ℕ → ℕ → Option (ℕ × ℕ)
more_digits digits byte =
    if is_hex byte && nat_lt digits.0 16 then Some (digits.0 + 1, digits.1 * 16 + digit_value byte) else None

-- a byte that has to be this one
abbrev pub expected : ℕ → ℕ → Place → Step
expected byte wanted place = if byte == wanted then Moves place else Misspelled

-- the byte behind the digits of a size: with it the size is known
abbrev pub read_tail : ℕ → ℕ → Step
read_tail size byte =
    if byte == carriage_return then Announces size End
    else if byte == semicolon then Announces size Extension
    else if is_blank byte then Announces size Blanks
    else Misspelled

-- the same where one digit at least has come
abbrev pub read_behind : ℕ × ℕ → ℕ → Step
read_behind digits byte = if digits.0 == 0 then Misspelled else read_tail digits.1 byte

-- the digits with one more, or what stands behind them
abbrev pub to_digits : Option (ℕ × ℕ) → Step → Step
to_digits (Some digits) other = Moves (Size digits)
to_digits None other = other

-- a byte of a size, or the one behind it
abbrev pub read_size : ℕ × ℕ → ℕ → Step
read_size digits byte = to_digits (more_digits digits byte) (read_behind digits byte)

-- what stands behind the line of a size: the data of a chunk, or behind the last one the end of the body
abbrev pub place_behind : ℕ → Place
place_behind size = if size == 0 then Last else Data size

-- a byte of the line of a size, behind its digits
abbrev pub read_line : ℕ → Tail → ℕ → Step
read_line size Blanks byte = if is_blank byte then Moves (Line size Blanks) else expected byte semicolon (Line size Extension)
read_line size Extension byte =
    if byte == carriage_return then Moves (Line size End)
    else if is_passed byte then Moves (Line size Extension)
    else Misspelled
read_line size End byte = expected byte line_feed (place_behind size)

-- a byte that is no data
unfoldable pub read : Place → ℕ → Step
read (Size digits) byte = read_size digits byte
read (Line size tail) byte = read_line size tail byte
read (Data left) byte = expected byte carriage_return DataEnd
read DataEnd byte = expected byte line_feed (Size (0, 0))
read Last byte = expected byte carriage_return LastEnd
read LastEnd byte = expected byte line_feed Over
read Over byte = Misspelled
read (Refused fault) byte = Misspelled
