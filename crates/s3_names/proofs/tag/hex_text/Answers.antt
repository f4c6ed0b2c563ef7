use Rattle.std.proofs.Common.{arith}
use Rattle.s3_names.proofs.TagLemmas.{digest_characters}
use Rattle.s3_names.proofs.tag.hex_text.Goals as goal

pub returns-clause-characters : goal.returns-clause-characters
returns-clause-characters c = digest_characters c.args.md5.now (λ i. omega (arith, c.type_inv.md5 i))
