-- A remainder that takes in bits is that of a division, whose quotient has the bits that were taken away.
use Rattle.std.proofs.Common.{◌≡◌, ℕ, zero, suc, ◌+◌, ◌*◌, ◌/◌, ◌^◌, ◌<◌, ◌≤◌, Bool, true, false, List, [], ◌∷◌, length, bit_xor, if◌then◌else◌, refl, sym, ap, ◌∙◌, arith, inl, inr, lit<}
use Rattle.std.specs.Int.Bits.{xor_assoc, xor_self, xor_zero_r}
use Rattle.std.proofs.Math.Nat.{pow-suc, mul_assoc, mul_comm}
use Rattle.std.proofs.lemmas.Nat.{xor_comm, xor_block}
use Rattle.s3_checksums.specs.Crc.{Parameters, after_bit, after_bits, after_bytes, crc, number_of}
use Rattle.s3_checksums.specs.Division.{product, AreRemainders}
use Rattle.s3_checksums.proofs.CrcLemmas.{after_bit-even, after_bit-odd, parity, after_bytes-word, after_bytes-lt}

double-xor : (a b : ℕ) → 2 * bit_xor a b ≡ bit_xor (2 * a) (2 * b)
double-xor a b =
    let left : a * 2 ^ 1 + 0 ≡ 2 * a = omega arith in
    let right : b * 2 ^ 1 + 0 ≡ 2 * b = omega arith in
    let blocks : bit_xor (a * 2 ^ 1 + 0) (b * 2 ^ 1 + 0) ≡ bit_xor a b * 2 ^ 1 + 0 = xor_block 1 a b 0 0 (lit< tt) (lit< tt) in
    let turned : 2 * bit_xor a b ≡ bit_xor a b * 2 ^ 1 + 0 = omega arith in
    turned ∙ sym blocks ∙ ap (λ x. bit_xor x (b * 2 ^ 1 + 0)) left ∙ ap (bit_xor (2 * a)) right

-- the bit that was taken in comes back, with the generator where it was odd
undone : (g c : ℕ) → (bit : Bool) × (c ≡ bit_xor (if bit then 2 * g + 1 else 0) (2 * after_bit g c))
undone g c =
    elim (parity c) [
      | inl even ↦
          let whole : c ≡ 2 * (c / 2) = omega arith in
          (false, whole ∙ ap (λ x. 2 * x) (sym (after_bit-even g c even)))
      | inr odd ↦
          let left : g * 2 ^ 1 + 1 ≡ 2 * g + 1 = omega arith in
          let right : bit_xor (c / 2) g * 2 ^ 1 + 0 ≡ 2 * bit_xor (c / 2) g = omega arith in
          let blocks : bit_xor (g * 2 ^ 1 + 1) (bit_xor (c / 2) g * 2 ^ 1 + 0) ≡ bit_xor g (bit_xor (c / 2) g) * 2 ^ 1 + 1 = xor_block 1 g (bit_xor (c / 2) g) 1 0 (lit< tt) (lit< tt) in
          let gone : bit_xor g (bit_xor (c / 2) g) ≡ c / 2 = xor_comm g (bit_xor (c / 2) g) ∙ xor_assoc (c / 2) g g ∙ ap (bit_xor (c / 2)) (xor_self g) ∙ xor_zero_r (c / 2) in
          let whole : c ≡ c / 2 * 2 ^ 1 + 1 = omega arith in (
            true,
            whole ∙ sym (ap (λ x. x * 2 ^ 1 + 1) gone) ∙ sym blocks
                ∙ ap (λ x. bit_xor x (bit_xor (c / 2) g * 2 ^ 1 + 0)) left
                ∙ ap (bit_xor (2 * g + 1)) (right ∙ ap (λ x. 2 * x) (sym (after_bit-odd g c odd))),
          )
    ]

-- after n bits the number is a multiple of the generator and the remainder above those bits
division : (g n c : ℕ) → (quotient : List Bool) × (length quotient ≡ n) × (c ≡ bit_xor (product quotient (2 * g + 1)) (2 ^ n * after_bits g n c))
unfolding after_bits product
division g zero c = let same : c ≡ 2 ^ zero * c = omega arith in ([], refl, same)
division g (suc n) c =
    let rest = division g n (after_bit g c) in
    let first = undone g c in
    let q = rest.0 in
    let r = after_bits g n (after_bit g c) in
    let grown : 2 * (2 ^ n * r) ≡ 2 ^ suc n * r = sym (mul_assoc 2 (2 ^ n) r) ∙ ap (λ x. x * r) (mul_comm 2 (2 ^ n) ∙ sym (pow-suc 2 n)) in (
      first.0 ∷ q,
      ap suc rest.1,
      first.1
          ∙ ap (λ x. bit_xor (if first.0 then 2 * g + 1 else 0) (2 * x)) rest.2
          ∙ ap (bit_xor (if first.0 then 2 * g + 1 else 0)) (double-xor (product q (2 * g + 1)) (2 ^ n * r) ∙ ap (bit_xor (2 * product q (2 * g + 1))) grown)
          ∙ sym (xor_assoc (if first.0 then 2 * g + 1 else 0) (2 * product q (2 * g + 1)) (2 ^ suc n * r)),
    )

-- the parameters' numbers have their width
pub are_remainders : (p : Parameters) → 256 ≤ 2 ^ p.width → p.generator < 2 ^ p.width → p.initial < 2 ^ p.width → AreRemainders p
unfolding crc
are_remainders p wide generator initial message each =
    let n = 8 * length message in
    let d = division p.generator n (bit_xor p.initial (number_of message)) in (
      d.0,
      after_bytes p.generator p.initial message,
      refl,
      record {
        quotient_bits = d.1;
        remainder_bits = after_bytes-lt p.width p.generator p.initial message wide generator initial each;
        equal = xor_comm (number_of message) p.initial ∙ d.2 ∙ ap (λ r. bit_xor (product d.0 (2 * p.generator + 1)) (2 ^ n * r)) (after_bytes-word p.generator p.initial message each);
      },
    )
