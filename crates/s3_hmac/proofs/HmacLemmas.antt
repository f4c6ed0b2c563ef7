-- What the padded key is, for a key of each length.
use Rattle.std.proofs.Common.{◌≡◌, ℕ, ◌-◌, ◌<◌, ◌≤◌, List, ◌++◌, length, replicate, arith}
use Rattle.std.proofs.lemmas.Bool.Decides.{nat_tests}
use Rattle.sha2.specs.Sha256.{sha256}
use Rattle.sha2.proofs.Facts256.{length-sha256}
use Rattle.s3_hmac.specs.Hmac.{block_key, padded_key}

-- a key that is no longer than a block is used as it is
pub block_key-short : (key : List ℕ) → length key ≤ 64 → block_key key ≡ key
unfolding block_key
block_key-short key short = grind (arith, nat_tests)

-- a longer one is hashed
pub block_key-long : (key : List ℕ) → 64 < length key → block_key key ≡ sha256 key
unfolding block_key
block_key-long key long = grind (arith, nat_tests)

-- a key that is no longer than a block, and zeros for what it lacks
pub padded_key-short : (key : List ℕ) → length key ≤ 64 → padded_key key ≡ key ++ replicate (64 - length key) 0
unfolding padded_key
padded_key-short key short = rw (block_key-short key short)

-- a longer key, hashed, and half a block of zeros
pub padded_key-long : (key : List ℕ) → 64 < length key → padded_key key ≡ sha256 key ++ replicate 32 0
unfolding padded_key
padded_key-long key long = rw (block_key-long key long, length-sha256 key)

-- a longer key is padded as its digest is
pub padded_key-digest : (key : List ℕ) → 64 < length key → padded_key key ≡ padded_key (sha256 key)
padded_key-digest key long =
    let of_digest = padded_key-short (sha256 key) (omega (arith, length-sha256 key)) in
    rw (padded_key-long key long, of_digest, length-sha256 key)

-- what is known of the padded key of a longer key, for an attribute to name
pub ruleset long_keys = (padded_key-long)
