use Rattle.std.proofs.Common.{◌∙◌}
use Rattle.s3_text.proofs.DigitLemmas.{digit_below, decimal_digits}
use Rattle.s3_request_documents.proofs.NumberLemmas.{capped_more}
use Rattle.s3_request_documents.proofs.completion_numbers.capped_number.Goals as goal

pub with_digit-number-requires-clause-digit : goal.with_digit-number-requires-clause-digit
with_digit-number-requires-clause-digit c = digit_below 10 c.args.digits.now c.loop-byte.byte-index 0 (decimal_digits c.args.digits.now c.requires) c.loop-byte-test.true

pub loop-byte-preserved : goal.loop-byte-preserved
loop-byte-preserved c = c.with_digit-number.ensures ∙ capped_more c.args.digits.now c.loop-byte.byte-index c.loop-byte.number c.loop-byte-test.true c.loop-byte.invariant
