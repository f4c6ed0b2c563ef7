-- What one byte of a body says, where a reader stands in its spelling.
-- Only clauses of private functions cite these, and nobody has to believe them.
use Rattle.std.specs.Prelude.{ℕ, ◌+◌, ◌-◌, ◌<◌, ◌&&◌, ◌==◌, nat_lt, if◌then◌else◌, slice_index, Option, Some, None}
use Rattle.s3_text.specs.Characters.{is_lower_hex}
use Rattle.s3_aws_chunked.specs.Chunk.{label}
use Rattle.s3_aws_chunked.specs.Count.{more_digits}
use Rattle.s3_aws_chunked.specs.declared.phase.Phase.{Phase}
use Rattle.s3_aws_chunked.specs.declared.phase.Phase.TheVariants.{Size, Line, Data, Ending, Over, Refused}
use Rattle.s3_aws_chunked.specs.declared.phase.Event.{Event}
use Rattle.s3_aws_chunked.specs.declared.phase.Event.TheVariants.{Misspelled, Moves, Signs, Opens, Closes}

-- the digits with one more, or a fault
abbrev pub to_digits : Option (ℕ × ℕ) → Event
to_digits None = Misspelled
to_digits (Some digits) = Moves (Size digits)

-- a byte of a size, or the semicolon behind it
abbrev pub read_size : ℕ × ℕ → ℕ → Event
read_size digits byte =
    if byte == 59 && nat_lt 0 digits.0 then Moves (Line 1 digits.1) else to_digits (more_digits digits byte)

-- a byte of a first line, so many bytes behind its size
abbrev pub read_line : ℕ → ℕ → ℕ → Event
read_line place size byte =
    if nat_lt place 17 && byte == slice_index label place then Moves (Line (place + 1) size)
    else if nat_lt 16 place && nat_lt place 81 && is_lower_hex byte then Signs (place - 17) size
    else if place == 81 && byte == 13 then Moves (Line 82 size)
    else if place == 82 && byte == 10 then Opens size
    else Misspelled

-- a byte that is no data
unfoldable pub read : Phase → ℕ → Event
read (Size digits) byte = read_size digits byte
read (Line place size) byte = read_line place size byte
read (Data left last) byte = if byte == 13 then Moves (Ending last) else Misspelled
read (Ending last) byte = if byte == 10 then Closes last else Misspelled
read Over byte = Misspelled
read (Refused fault) byte = Misspelled

-- the digit of a signature has its place there
abbrev pub IsEvent : Event → Type 0
IsEvent (Signs index size) = index < 64
IsEvent Misspelled = Unit {0}
IsEvent (Moves phase) = Unit {0}
IsEvent (Opens size) = Unit {0}
IsEvent (Closes last) = Unit {0}
