use Rattle.std.proofs.Common.{◌∙◌}
use Rattle.s3_checksums.proofs.PieceLemmas.{word-number}
use Rattle.s3_checksums.proofs.slicing.word_at.Goals as goal

pub returns : goal.returns
returns c = c.from_le_bytes.ensures ∙ word-number c.args.bytes.now c.args.at c.requires
