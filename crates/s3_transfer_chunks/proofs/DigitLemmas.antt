-- Sizes: how great they can become.
use Rattle.std.proofs.Common.{ℕ, zero, ◌^◌, ◌<◌, ◌≤◌, arith}
use Rattle.std.proofs.Math.Nat.{pow-le-pow_right}

-- fewer than sixteen digits leave room for one more
pub small_size : (count value : ℕ) → value < 16 ^ count → count < 16 → value < 1152921504606846976
small_size count value h below =
    let some : zero < 16 = omega arith in
    let fewer : count ≤ 15 = omega (arith, below) in
    let most : 16 ^ count ≤ 16 ^ 15 = pow-le-pow_right some fewer in
    omega (arith, h, most)
