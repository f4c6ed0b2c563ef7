use Rattle.std.proofs.Common.{sym, arith}
use Rattle.std.proofs.lemmas.Int.Digits.{digits_value_more}
use Rattle.s3_text.proofs.DigitLemmas.{digit_below, step_fits}
use Rattle.s3_text.proofs.digits.number_from.Goals as goal

pub unwrap-digit-requires : goal.unwrap-digit-requires
unwrap-digit-requires c =
    c.to_digit.ensures.succeeds (digit_below c.args.radix c.args.digits.now c.loop-byte.byte-index 0 c.requires.digits c.loop-byte-test.true)

-- the number so far has room in 64 bits, without and with the next digit
pub overflow_mul-number : goal.overflow_mul-number
overflow_mul-number c =
    let fits = step_fits c.args.radix c.args.digits.now c.loop-byte.byte-index _ c.requires.lower_bound c.loop-byte-test.true c.requires.room in
    rw (c.from.ensures, c.loop-byte.invariant) (omega (arith, fits.0))

pub overflow_add-number : goal.overflow_add-number
overflow_add-number c =
    let digit = (rw (c.unwrap-digit.ensures) at c.to_digit.ensures.value).1 in
    let fits = step_fits c.args.radix c.args.digits.now c.loop-byte.byte-index _ c.requires.lower_bound c.loop-byte-test.true c.requires.room in
    rw (c.from.ensures, c.from-in-loop-byte.ensures, digit, c.loop-byte.invariant) (omega (arith, fits.1))

-- with it, it is the number of one digit more
pub loop-byte-preserved : goal.loop-byte-preserved
loop-byte-preserved c =
    let digit = (rw (c.unwrap-digit.ensures) at c.to_digit.ensures.value).1 in
    let more = digits_value_more c.args.radix c.args.digits.now c.loop-byte.byte-index c.loop-byte-test.true in
    rw (c.from.ensures, c.from-in-loop-byte.ensures, digit, c.loop-byte.invariant) (sym more)
