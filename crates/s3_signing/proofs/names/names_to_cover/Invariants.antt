use Rattle.std.proofs.Common.{◌≡◌, take}
use Rattle.s3_signing.specs.Names.{texts}
use Rattle.s3_signing.proofs.NameLemmas.{others_in}
use Rattle.s3_signing.proofs.names.names_to_cover.Given as goal

abbrev pub invariant-loop-index : goal.invariant-loop-index
invariant-loop-index l = texts l.names.items ≡ others_in (take l.index l.head.headers)
