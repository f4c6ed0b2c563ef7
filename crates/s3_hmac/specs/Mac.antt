-- What a contract sees of a running MAC: its key, and the message so far.
use Rattle.std.specs.Prelude.{ℕ, List, ◌++◌}
use Rattle.sha2.specs.Hashers.{Holds256}
use Rattle.s3_hmac.specs.Hmac.{padded_key, xor_each}
use Rattle.s3_hmac.specs.declared.mac.Mac.{Mac}

-- the running MAC has this key, and was fed this message: of the two hashes of RFC 2104, section 2,
-- the inner one holds its pad and the message, and the outer one its pad alone
pub record Runs (mac : Mac) (key message : List ℕ) : Type 0 where
  pub inner : Holds256 mac.inner (xor_each (padded_key key) 0x36 ++ message)
  pub outer : Holds256 mac.outer (xor_each (padded_key key) 0x5c)
