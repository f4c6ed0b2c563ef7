use Rattle.std.proofs.Common.{◌∙◌, ap, arith, bit_xor}
use Rattle.s3_checksums.specs.Crc.{after_bits}
use Rattle.s3_checksums.proofs.PieceLemmas.{words-more}
use Rattle.s3_checksums.proofs.slicing.after_words.Goals as goal

pub words-preserved : goal.words-preserved
words-preserved c = λ g is.
    c.after_word-remainder.ensures g is
    ∙ ap (λ word. after_bits g 64 (bit_xor c.words.remainder word)) c.word_at.ensures
    ∙ words-more g c.words.remainder c.args.remainder c.args.bytes.now c.words.i (λ k. omega (arith, c.type_inv.bytes k)) (omega arith) (c.words.invariant g is)
