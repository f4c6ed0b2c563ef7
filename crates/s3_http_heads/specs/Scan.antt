-- How the search for the end of a head text stands after each byte.
-- Only clauses of private functions cite these, and nobody has to believe them.
use Rattle.std.specs.Prelude.{ℕ, ◌==◌, if◌then◌else◌}
use Rattle.s3_text.specs.Characters.{carriage_return, line_feed}

-- how many bytes of an empty line a text ends with, one byte on
abbrev pub after_byte : ℕ → ℕ → ℕ
after_byte matched byte =
    if byte == carriage_return then (if matched == 2 then 3 else 1)
    else (if byte == line_feed then (if matched == 1 then 2 else (if matched == 3 then 4 else 0)) else 0)
