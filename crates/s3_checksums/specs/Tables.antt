-- The tables by which a remainder takes in eight bytes at a time. A caller of the hashers needs nothing of this file.
use Rattle.std.specs.Prelude.{◌≡◌, ℕ, ◌+◌, ◌*◌, ◌<◌, List, slice_index}
use Rattle.s3_checksums.specs.Crc.{after_bits}

-- eight tables of 256 entries, one after another: table k has, for each byte, the remainder after the byte's own bits and
-- those of k bytes of zeros
pub record IsTable (generator : ℕ) (table : List ℕ) : Type 0 where
  pub entries : (k byte : ℕ) → k < 8 → byte < 256
      → slice_index table (256 * k + byte) ≡ after_bits generator (8 * (k + 1)) byte
