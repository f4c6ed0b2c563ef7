use Rattle.std.proofs.Common.{◌<◌, arith}
use Rattle.s3_transfer_chunks.proofs.DigitLemmas.{small_size}
use Rattle.s3_transfer_chunks.proofs.digits.Digits.more.Goals as goal

pub overflow_mul-result : goal.overflow_mul-result
overflow_mul-result c =
    let small : c.self.inside.value < 1152921504606846976 = small_size c.self.inside.count c.self.inside.value c.self.invariant.1 (omega arith) in
    omega (arith, small)

pub overflow_add-result-2 : goal.overflow_add-result-2
overflow_add-result-2 c =
    let small : c.self.inside.value < 1152921504606846976 = small_size c.self.inside.count c.self.inside.value c.self.invariant.1 (omega arith) in
    omega (arith, small, c.in_ok-digit.ensures.value)
