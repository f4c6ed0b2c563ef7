-- How much of a body has come, and how many digits of a size.
-- Only clauses of private functions cite these, and nobody has to believe them.
use Rattle.std.specs.Prelude.{ℕ, ◌+◌, ◌*◌, ◌&&◌, nat_lt, if◌then◌else◌, Option, Some, None}
use Rattle.std.specs.Char.{digit_value}
use Rattle.s3_aws_chunked.specs.Chunk.{is_hex}

-- so many bytes were taken, of so many
pub record Count : Type 0 where
  pub taken : ℕ
  pub whole : ℕ

-- and so many more
abbrev pub advanced : Count → ℕ → Count
advanced count more = record { taken = count.taken + more; whole = count.whole }

-- so many digits of this value, and one more
abbrev pub more_digits : ℕ × ℕ → ℕ → Option (ℕ × ℕ)
more_digits digits byte =
    if is_hex byte && nat_lt digits.0 8 then Some (digits.0 + 1, digits.1 * 16 + digit_value byte) else None
