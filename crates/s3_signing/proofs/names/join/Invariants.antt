use Rattle.std.proofs.Common.{◌≡◌, take}
use Rattle.std.specs.List.{join_with_byte}
use Rattle.s3_text.specs.Characters.{semicolon}
use Rattle.s3_signing.specs.Names.{texts}
use Rattle.s3_signing.proofs.names.join.Given as goal

abbrev pub invariant-loop-i : goal.invariant-loop-i
invariant-loop-i l = l.text.items ≡ join_with_byte semicolon (take l.i (texts l.names))
