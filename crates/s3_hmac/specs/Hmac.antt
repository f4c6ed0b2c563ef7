-- HMAC with SHA-256, as functions on lists of bytes: RFC 2104, section 2, with SHA-256 as H. There
-- B, the length of a block, is 64, ipad is 64 times the byte 0x36, and opad 64 times 0x5c.
use Rattle.std.specs.Prelude.{◌≡◌, ℕ, ◌-◌, ◌<◌, List, ◌++◌, length, map, replicate, nat_le, bit_xor, if◌then◌else◌}
use Rattle.sha2.specs.Sha256.{sha256}

-- a key longer than a block is hashed first, and any other is used as it is
unfoldable pub block_key : List ℕ → List ℕ
block_key key = if nat_le (length key) 64 then key else sha256 key

-- that key, with zeros after it up to the length of a block
unfoldable pub padded_key : List ℕ → List ℕ
padded_key key = block_key key ++ replicate (64 - length (block_key key)) 0

-- the bytes, each xor this one
abbrev pub xor_each : List ℕ → ℕ → List ℕ
xor_each bytes pad = map (λ byte. bit_xor byte pad) bytes

-- HMAC of the key and the message: H (K xor opad, H (K xor ipad, message)), K being the padded key
unfoldable pub hmac : List ℕ → List ℕ → List ℕ
hmac key message =
    sha256 (xor_each (padded_key key) 0x5c ++ sha256 (xor_each (padded_key key) 0x36 ++ message))

-- a key longer than a block gives for every message what its digest gives as a key
abbrev pub LongKeysAreHashed : Type 0
LongKeysAreHashed = (key message : List ℕ) → 64 < length key
    → hmac key message ≡ hmac (sha256 key) message
