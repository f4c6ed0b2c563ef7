-- Cyclic redundancy checks (RFC 1952, 8; RFC 3720, 12.1; NVM Express NVM Command Set Specification). A message is a polynomial
-- over the field of two elements, with the lowest bit of its first byte as its highest power, and its checksum is the remainder
-- of a division by a generator. The bits of a number are the coefficients of a polynomial, that of the highest power lowest. So
-- a multiplication by x is a shift to the right, and a sum is an exclusive or.
use Rattle.std.specs.Prelude.{ℕ, zero, suc, ◌+◌, ◌-◌, ◌*◌, ◌/◌, ◌%◌, ◌^◌, ◌==◌, List, [], ◌∷◌, bit_xor, if◌then◌else◌}
use Rattle.std.specs.List.{fold}

-- the number of these bytes, the lowest first: the polynomial of a message
unfoldable pub number_of : List ℕ → ℕ
number_of [] = 0
number_of (byte ∷ rest) = byte + 256 * number_of rest

-- what tells one check from another: the bits of a remainder, the generator without its highest power, the remainder before the
-- first byte, and what is added to the last one
pub record Parameters : Type 0 where
  pub width : ℕ
  pub generator : ℕ
  pub initial : ℕ
  pub final : ℕ

-- the remainder of x times a remainder: where the product has the generator's highest power, the generator is taken away
unfoldable pub after_bit : ℕ → ℕ → ℕ
after_bit generator remainder =
    if remainder % 2 == 0 then remainder / 2
    else bit_xor (remainder / 2) generator

-- the remainder of a power of x times a remainder
unfoldable pub after_bits : ℕ → ℕ → ℕ → ℕ
after_bits generator zero remainder = remainder
after_bits generator (suc count) remainder = after_bits generator count (after_bit generator remainder)

-- the remainder after one more byte of the message
abbrev pub after_byte : ℕ → ℕ → ℕ → ℕ
after_byte generator remainder byte = after_bits generator 8 (bit_xor remainder byte)

-- the remainder after more bytes of the message, from the remainder of those before
abbrev pub after_bytes : ℕ → ℕ → List ℕ → ℕ
after_bytes generator remainder bytes = fold (after_byte generator) remainder bytes

-- the checksum of a message
unfoldable pub crc : Parameters → List ℕ → ℕ
crc parameters message =
    bit_xor (after_bytes parameters.generator parameters.initial message) parameters.final

-- CRC-32 of RFC 1952, with the generator 0x104C11DB7, highest power first
abbrev pub crc_32 : Parameters
crc_32 = record { width = 32; generator = 0xEDB88320; initial = 2 ^ 32 - 1; final = 2 ^ 32 - 1 }

-- CRC-32C of RFC 3720, with the generator 0x11EDC6F41, highest power first
abbrev pub crc_32c : Parameters
crc_32c = record { width = 32; generator = 0x82F63B78; initial = 2 ^ 32 - 1; final = 2 ^ 32 - 1 }

-- CRC-64/NVME of the NVM Command Set Specification, with the generator 0x1AD93D23594C93659, highest power first
abbrev pub crc_64_nvme : Parameters
crc_64_nvme = record { width = 64; generator = 0x9A6C9329AC4BC9B5; initial = 2 ^ 64 - 1; final = 2 ^ 64 - 1 }
