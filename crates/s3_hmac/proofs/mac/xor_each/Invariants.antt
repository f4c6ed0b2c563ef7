use Rattle.std.proofs.Common.{◌≡◌, ◌++◌, take, drop}
use Rattle.s3_hmac.specs.Hmac.{xor_each}
use Rattle.s3_hmac.proofs.mac.xor_each.Given as goal

abbrev pub invariant-bytes : goal.invariant-bytes
invariant-bytes l = l.byte-items ≡ xor_each (take l.byte-index l.fn.block) l.pad ++ drop l.byte-index l.fn.block
