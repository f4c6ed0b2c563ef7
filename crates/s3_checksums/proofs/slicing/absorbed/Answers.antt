use Rattle.s3_checksums.proofs.PieceLemmas.{parts-joined}
use Rattle.s3_checksums.proofs.slicing.absorbed.Goals as goal

pub returns : goal.returns
returns c = λ g is. parts-joined g c.args.remainder _ _ _ c.args.bytes.now (c.after_words-before.ensures g is) (c.after_tail.ensures g is)
