-- The generators and the values that the standards publish, so that a wrong generator, order of bits or start in a definition
-- does not check.
use Rattle.std.proofs.Common.{◌≡◌, codes, refl}
use Rattle.std.specs.Int.{w32, w64, reverse_bits, reverse_bits_onto}
use Rattle.std.specs.List.{range_with_len}
use Rattle.std.specs.Prelude.{replicate, reverse}
use Rattle.s3_checksums.specs.Crc.{after_bit, after_bits, crc, crc_32, crc_32c, crc_64_nvme}

-- the generators, as the standards write them: the highest power first, and left out
pub generator_of_crc_32 : reverse_bits w32 0x04C11DB7 ≡ crc_32.generator
unfolding reverse_bits_onto
generator_of_crc_32 = refl

pub generator_of_crc_32c : reverse_bits w32 0x1EDC6F41 ≡ crc_32c.generator
unfolding reverse_bits_onto
generator_of_crc_32c = refl

pub generator_of_crc_64_nvme : reverse_bits w64 0xAD93D23594C93659 ≡ crc_64_nvme.generator
unfolding reverse_bits_onto
generator_of_crc_64_nvme = refl

pub crc_32_of_digits : crc crc_32 (codes "123456789") ≡ 0xCBF43926
unfolding after_bit after_bits crc
crc_32_of_digits = refl

pub crc_32c_of_digits : crc crc_32c (codes "123456789") ≡ 0xE3069283
unfolding after_bit after_bits crc
crc_32c_of_digits = refl

pub crc_64_nvme_of_digits : crc crc_64_nvme (codes "123456789") ≡ 0xAE8B14860A799888
unfolding after_bit after_bits crc
crc_64_nvme_of_digits = refl

-- the examples of RFC 3720, B.4: 32 zeros, 32 ones, and the numbers up to 31, up and down
pub crc_32c_of_zeros : crc crc_32c (replicate 32 0) ≡ 0x8A9136AA
unfolding after_bit after_bits crc
crc_32c_of_zeros = refl

pub crc_32c_of_ones : crc crc_32c (replicate 32 255) ≡ 0x62A8AB43
unfolding after_bit after_bits crc
crc_32c_of_ones = refl

pub crc_32c_of_rising : crc crc_32c (range_with_len 0 32) ≡ 0x46DD794E
unfolding after_bit after_bits crc
crc_32c_of_rising = refl

pub crc_32c_of_falling : crc crc_32c (reverse (range_with_len 0 32)) ≡ 0x113FDB5C
unfolding after_bit after_bits crc
crc_32c_of_falling = refl
