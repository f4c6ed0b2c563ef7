use Rattle.std.proofs.Common.{length, sym, arith}
use Rattle.std.proofs.lemmas.List.Sums.{position_or_len_is}
use Rattle.s3_xml.specs.Writer.{is_special}
use Rattle.s3_xml.proofs.escape.plain_front.Goals as goal

pub returns-then-is_special-clause-value : goal.returns-then-is_special-clause-value
returns-then-is_special-clause-value c =
    sym (position_or_len_is is_special c.args.text.now c.loop-i.i 0 (omega arith) c.loop-i.invariant (λ h. sym c.if-is_special.ensures))

pub returns-clause-value : goal.returns-clause-value
returns-clause-value c =
    sym (position_or_len_is is_special c.args.text.now (length c.args.text.now) 0 (omega arith) (λ k h. c.loop-i.invariant k (omega arith)) (λ h. absurd (omega arith)))
