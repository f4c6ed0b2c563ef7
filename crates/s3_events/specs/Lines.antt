-- What event lines say. A line is some fields with one space between each two: a word, the number of a connection, and what
-- belongs to the word.
use Rattle.std.specs.Prelude.{◌≡◌, ℕ, Bool, true, false, not, ◌&&◌, ◌==◌, nat_le, nat_lt, if◌then◌else◌, List, [], ◌∷◌, length, codes, filter_map, Option, Some, None, is_some, option_map, option_and_then, bytes_eq}
use Rattle.std.specs.List.{list_all, list_any}
use Rattle.std.specs.Result.{result_ok}
use Rattle.hex.specs.Hex.{decode_of}
use Rattle.s3_text.specs.Characters.{space}
use Rattle.s3_text.specs.Cut.{parts_at}
use Rattle.s3_text.specs.Digits.{decimal_number}
use Rattle.s3_calendar.specs.Moment.{last_moment}

-- what a line says of a connection
pub data Said : Type 0 where
  -- the moments of its messages, from the first on
  TheMoments : ℕ → List ℕ → Said
  -- these bytes come
  MoreBytes : ℕ → List ℕ → Said
  -- no more bytes come
  TheEnd : ℕ → Said
  -- its command has its turn
  ATurn : ℕ → Said

-- the number that 1 to 12 decimal digits spell
abbrev pub number_of : List ℕ → Option ℕ
number_of field = decimal_number 12 field

-- the number, if it is one that a connection has
abbrev pub connection_below : ℕ → Option ℕ
connection_below number = if nat_lt number 64 then Some number else None

-- the connection that a field names
abbrev pub connection_of : List ℕ → Option ℕ
connection_of field = option_and_then connection_below (number_of field)

-- the number of seconds, if it is one up to the end of the year 9999
abbrev pub moment_within : ℕ → Option ℕ
moment_within seconds = if nat_le seconds last_moment then Some seconds else None

-- the moment that a field names
abbrev pub moment_of : List ℕ → Option ℕ
moment_of field = option_and_then moment_within (number_of field)

-- the moments that one or more fields name
abbrev pub moments_of : List (List ℕ) → Option (List ℕ)
moments_of fields =
    if nat_le 1 (length fields) && list_all (λ field. is_some (moment_of field)) fields then Some (filter_map moment_of fields) else None

-- the bytes, at least one, that a single field spells in pairs of hexadecimal digits
abbrev pub bytes_of : List (List ℕ) → Option (List ℕ)
bytes_of (digits ∷ []) = if length digits == 0 then None else result_ok (decode_of digits)
bytes_of fields = None

-- that, where no field is left
abbrev pub alone : Said → List (List ℕ) → Option Said
alone said [] = Some said
alone said (field ∷ fields) = None

-- what a word says of a connection with the fields behind
abbrev pub said_by : List ℕ → ℕ → List (List ℕ) → Option Said
said_by word c fields =
    if bytes_eq word (codes "moments") then option_map (TheMoments c) (moments_of fields)
    else if bytes_eq word (codes "piece") then option_map (MoreBytes c) (bytes_of fields)
    else if bytes_eq word (codes "end") then alone (TheEnd c) fields
    else if bytes_eq word (codes "turn") then alone (ATurn c) fields
    else None

-- what the fields of a line say
abbrev pub said_in : List (List ℕ) → Option Said
said_in (word ∷ number ∷ fields) = option_and_then (λ c. said_by word c fields) (connection_of number)
said_in fields = None

-- what a line says, if it says anything
unfoldable pub line_of : List ℕ → Option Said
line_of line = said_in (parts_at space line)

-- the connection of which it is said
abbrev pub connection : Said → ℕ
connection (TheMoments c moments) = c
connection (MoreBytes c bytes) = c
connection (TheEnd c) = c
connection (ATurn c) = c

-- it says moments
abbrev pub are_moments : Said → Bool
are_moments (TheMoments c moments) = true
are_moments said = false

-- it is said of this connection
abbrev pub is_of : ℕ → Said → Bool
is_of c said = connection said == c

-- moments of this connection are said
abbrev pub are_moments_of : ℕ → Said → Bool
are_moments_of c said = are_moments said && (c == connection said)

-- moments of a connection are said before everything else of it, and once
abbrev pub moments_first : List Said → Bool
moments_first [] = true
moments_first (said ∷ later) = not (list_any (are_moments_of (connection said)) later) && moments_first later

-- all that some lines say, in their order
abbrev pub all_said : List (List ℕ) → List Said
all_said lines = filter_map line_of lines

-- each line says something, and moments come first
abbrev pub are_event_lines : List (List ℕ) → Bool
are_event_lines lines = list_all (λ line. is_some (line_of line)) lines && moments_first (all_said lines)

-- the same as a fact
abbrev pub AreEventLines : List (List ℕ) → Type 0
AreEventLines lines = are_event_lines lines ≡ true
