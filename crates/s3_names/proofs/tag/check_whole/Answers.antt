use Rattle.std.proofs.Common.{arith}
use Rattle.hex.specs.Hex.{lower_digits}
use Rattle.hex.proofs.HexLemmas.{length-encode_with}
use Rattle.s3_names.proofs.TagLemmas.{digest_characters}
use Rattle.s3_names.proofs.tag.check_whole.Goals as goal

pub returns-clause-bound : goal.returns-clause-bound
returns-clause-bound c = omega (arith, length-encode_with lower_digits c.args.md5.now, c.requires)

pub returns-clause-characters : goal.returns-clause-characters
returns-clause-characters c = digest_characters c.args.md5.now (λ i. omega (arith, c.type_inv.md5 i))
