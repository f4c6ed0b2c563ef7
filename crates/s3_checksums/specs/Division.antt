-- What the checksums are, said by the division of polynomials alone. The bits of a number are the coefficients of a polynomial
-- over the field of two elements, that of the highest power lowest.
use Rattle.std.specs.Prelude.{◌≡◌, ℕ, ◌+◌, ◌*◌, ◌^◌, ◌<◌, Bool, List, [], ◌∷◌, length, bit_xor, if◌then◌else◌}
use Rattle.std.specs.List.{All}
use Rattle.s3_checksums.specs.Crc.{Parameters, crc, number_of}

-- the product of two polynomials, the first by its bits
unfoldable pub product : List Bool → ℕ → ℕ
product [] factor = 0
product (bit ∷ bits) factor = bit_xor (if bit then factor else 0) (2 * product bits factor)

-- The message times x^width, and the initial remainder times x to the message's length in bits, are together the quotient times
-- the generator and the remainder. The generator has degree `width`, the quotient has a bit for each of the message, and the
-- remainder is of a lower degree than the generator.
pub record IsDivision (parameters : Parameters) (message : List ℕ) (quotient : List Bool) (remainder : ℕ) : Type 0 where
  pub quotient_bits : length quotient ≡ 8 * length message
  pub remainder_bits : remainder < 2 ^ parameters.width
  pub equal : bit_xor (number_of message) parameters.initial
      ≡ bit_xor (product quotient (2 * parameters.generator + 1)) (2 ^ (8 * length message) * remainder)

-- the checksum of each message is the remainder of that division, with the last sum
abbrev pub AreRemainders : Parameters → Type 0
AreRemainders parameters =
    (message : List ℕ) → All (λ byte. byte < 256) message
    → (quotient : List Bool) × (remainder : ℕ) × (crc parameters message ≡ bit_xor remainder parameters.final)
    × IsDivision parameters message quotient remainder
