-- Sizes: how great they can become.
use Rattle.std.proofs.Common.{ℕ, suc, zero, ◌^◌, ◌<◌, arith}

-- fewer than eight digits leave room for one more
pub small_size : (count value : ℕ) → value < 16 ^ count → count < 8 → value < 268435456
small_size zero value h below = omega (arith, h)
small_size (suc zero) value h below = omega (arith, h)
small_size (suc (suc zero)) value h below = omega (arith, h)
small_size (suc (suc (suc zero))) value h below = omega (arith, h)
small_size (suc (suc (suc (suc zero)))) value h below = omega (arith, h)
small_size (suc (suc (suc (suc (suc zero))))) value h below = omega (arith, h)
small_size (suc (suc (suc (suc (suc (suc zero)))))) value h below = omega (arith, h)
small_size (suc (suc (suc (suc (suc (suc (suc zero))))))) value h below = omega (arith, h)
small_size (suc (suc (suc (suc (suc (suc (suc (suc n)))))))) value h below = absurd (omega (arith, below))
