use Rattle.std.proofs.Common.{◌≡◌, ◌++◌, take}
use Rattle.hex.specs.Hex.{encode_lower}
use Rattle.s3_events.proofs.printing.add_hex.Given as goal

abbrev pub invariant-loop-byte : goal.invariant-loop-byte
invariant-loop-byte l = l.text.items ≡ l.initial.text.items ++ encode_lower (take l.byte-index l.bytes)
