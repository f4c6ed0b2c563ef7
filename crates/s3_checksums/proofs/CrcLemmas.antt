-- Laws of a remainder: a multiplication by x goes over an exclusive or, so the bits of a word may be taken in apart.
use Rattle.std.proofs.Common.{◌≡◌, ℕ, zero, suc, ◌+◌, ◌*◌, ◌/◌, ◌%◌, ◌^◌, ◌<◌, ◌≤◌, ◌⊎◌, List, [], ◌∷◌, length, bit_xor, refl, sym, ap, ◌∙◌, subst, arith, inl, inr, lit<, zero-add, suc-le-suc}
use Rattle.std.specs.Int.Bits.{xor_assoc, xor_self, xor_zero_r}
use Rattle.std.specs.List.{All}
use Rattle.std.proofs.Math.Nat.{pow-suc, mul_assoc}
use Rattle.std.proofs.lemmas.Nat.{xor_comm, xor_shr, xor_mod, xor_block, xor_lt, shr_le}
use Rattle.std.proofs.lemmas.Bool.{cases_lt}
use Rattle.s3_checksums.specs.Crc.{after_bit, after_bits, after_byte, after_bytes, number_of}

-- ---- one bit

pub after_bit-even : (g c : ℕ) → c % 2 ≡ 0 → after_bit g c ≡ c / 2
unfolding after_bit
after_bit-even g c even = rw even refl

pub after_bit-odd : (g c : ℕ) → c % 2 ≡ 1 → after_bit g c ≡ bit_xor (c / 2) g
unfolding after_bit
after_bit-odd g c odd = rw odd refl

pub parity : (c : ℕ) → (c % 2 ≡ 0) ⊎ (c % 2 ≡ 1)
parity c = elim (cases_lt (c % 2) 1) [ inl even ↦ inl (omega arith) | inr odd ↦ inr (omega arith) ]

xor-half : (a b : ℕ) → bit_xor a b / 2 ≡ bit_xor (a / 2) (b / 2)
xor-half a b = xor_shr a b 1

xor-parity : (a b i j : ℕ) → a % 2 ≡ i → b % 2 ≡ j → bit_xor a b % 2 ≡ bit_xor i j
xor-parity a b i j p q = xor_mod a b 1 ∙ ap (λ x. bit_xor x (b % 2)) p ∙ ap (bit_xor i) q

xor-swap : (a b c : ℕ) → bit_xor (bit_xor a b) c ≡ bit_xor (bit_xor a c) b
xor-swap a b c = xor_assoc a b c ∙ ap (bit_xor a) (xor_comm b c) ∙ sym (xor_assoc a c b)

-- what is added twice is gone
xor-twice : (a b g : ℕ) → bit_xor (bit_xor a g) (bit_xor b g) ≡ bit_xor a b
xor-twice a b g =
    sym (xor_assoc (bit_xor a g) b g) ∙ xor-swap (bit_xor a g) b g ∙ ap (λ x. bit_xor x b) (xor_assoc a g g ∙ ap (bit_xor a) (xor_self g) ∙ xor_zero_r a)

-- a multiplication by x goes over a sum
pub after_bit-xor : (g a b : ℕ) → after_bit g (bit_xor a b) ≡ bit_xor (after_bit g a) (after_bit g b)
after_bit-xor g a b =
    elim (parity a) [
      | inl p ↦ elim (parity b) [
        | inl q ↦ after_bit-even g _ (xor-parity a b 0 0 p q) ∙ xor-half a b ∙ sym (ap (λ x. bit_xor x (after_bit g b)) (after_bit-even g a p) ∙ ap (bit_xor (a / 2)) (after_bit-even g b q))
        | inr q ↦ after_bit-odd g _ (xor-parity a b 0 1 p q) ∙ ap (λ x. bit_xor x g) (xor-half a b) ∙ xor_assoc (a / 2) (b / 2) g ∙ sym (ap (λ x. bit_xor x (after_bit g b)) (after_bit-even g a p) ∙ ap (bit_xor (a / 2)) (after_bit-odd g b q))
      ]
      | inr p ↦ elim (parity b) [
        | inl q ↦ after_bit-odd g _ (xor-parity a b 1 0 p q) ∙ ap (λ x. bit_xor x g) (xor-half a b) ∙ xor-swap (a / 2) (b / 2) g ∙ sym (ap (λ x. bit_xor x (after_bit g b)) (after_bit-odd g a p) ∙ ap (bit_xor (bit_xor (a / 2) g)) (after_bit-even g b q))
        | inr q ↦ after_bit-even g _ (xor-parity a b 1 1 p q) ∙ xor-half a b ∙ sym (xor-twice (a / 2) (b / 2) g) ∙ sym (ap (λ x. bit_xor x (after_bit g b)) (after_bit-odd g a p) ∙ ap (bit_xor (bit_xor (a / 2) g)) (after_bit-odd g b q))
      ]
    ]

after_bit-double : (g m : ℕ) → after_bit g (m * 2) ≡ m
after_bit-double g m = let even : (m * 2) % 2 ≡ 0 = omega arith in let half : m * 2 / 2 ≡ m = omega arith in after_bit-even g (m * 2) even ∙ half

after_bit-lt : (w g c : ℕ) → g < 2 ^ w → c < 2 ^ w → after_bit g c < 2 ^ w
after_bit-lt w g c below fits =
    let half : c / 2 ≤ c = shr_le c 1 in
    let fits_half : c / 2 < 2 ^ w = omega arith in
    elim (parity c) [
      | inl p ↦ subst (λ x. x < 2 ^ w) (sym (after_bit-even g c p)) fits_half
      | inr p ↦ subst (λ x. x < 2 ^ w) (sym (after_bit-odd g c p)) (xor_lt w (c / 2) g fits_half below)
    ]

-- ---- several bits

pub after_bits-xor : (g n a b : ℕ) → after_bits g n (bit_xor a b) ≡ bit_xor (after_bits g n a) (after_bits g n b)
unfolding after_bits
after_bits-xor g zero a b = refl
after_bits-xor g (suc n) a b = ap (after_bits g n) (after_bit-xor g a b) ∙ after_bits-xor g n (after_bit g a) (after_bit g b)

pub after_bits-add : (g m n c : ℕ) → after_bits g (m + n) c ≡ after_bits g n (after_bits g m c)
unfolding after_bits
after_bits-add g zero n c = ap (λ k. after_bits g k c) (zero-add n)
after_bits-add g (suc m) n c =
    let next : suc m + n ≡ suc (m + n) = omega arith in
    ap (λ k. after_bits g k c) next ∙ after_bits-add g m n (after_bit g c)

-- zeros below a remainder are taken in by a shift
after_bits-shifted : (g n m : ℕ) → after_bits g n (m * 2 ^ n) ≡ m
unfolding after_bits
after_bits-shifted g zero m = omega arith
after_bits-shifted g (suc n) m =
    let next : m * 2 ^ suc n ≡ m * 2 ^ n * 2 = ap (λ x. m * x) (pow-suc 2 n) ∙ sym (mul_assoc m (2 ^ n) 2) in
    ap (λ x. after_bits g n (after_bit g x)) next ∙ ap (after_bits g n) (after_bit-double g (m * 2 ^ n)) ∙ after_bits-shifted g n m

pub after_bits-lt : (w g n c : ℕ) → g < 2 ^ w → c < 2 ^ w → after_bits g n c < 2 ^ w
unfolding after_bits
after_bits-lt w g zero c below fits = fits
after_bits-lt w g (suc n) c below fits = after_bits-lt w g n (after_bit g c) below (after_bit-lt w g c below fits)

-- ---- bytes

-- a byte and what stands above it share no bit
xor-byte : (byte high : ℕ) → byte < 256 → bit_xor byte (high * 256) ≡ byte + high * 256
xor-byte byte high small =
    let apart = xor_block 8 0 high byte 0 small (lit< tt) in
    let left : 0 * 2 ^ 8 + byte ≡ byte = omega arith in
    let right : high * 2 ^ 8 + 0 ≡ high * 256 = omega arith in
    sym (ap (λ x. bit_xor x (high * 2 ^ 8 + 0)) left ∙ ap (bit_xor byte) right) ∙ apart ∙ ap (λ x. high * 2 ^ 8 + x) (xor_zero_r byte) ∙ (omega arith)

-- the lowest byte is taken in apart from those above it, which are shifted down
pub after_bits-split : (g n c : ℕ) → after_bits g (8 + n) c ≡ bit_xor (after_bits g (8 + n) (c % 256)) (after_bits g n (c / 256))
after_bits-split g n c =
    let whole : c % 256 + c / 256 * 256 ≡ c = omega arith in
    let small : c % 256 < 256 = omega arith in
    let shifted = after_bits-add g 8 n (c / 256 * 256) ∙ ap (after_bits g n) (after_bits-shifted g 8 (c / 256)) in
    ap (after_bits g (8 + n)) (sym (xor-byte (c % 256) (c / 256) small ∙ whole))
    ∙ after_bits-xor g (8 + n) (c % 256) (c / 256 * 256)
    ∙ ap (bit_xor (after_bits g (8 + n) (c % 256))) shifted

-- one byte, by a table of the remainders of bytes
pub after_byte-split : (g c byte : ℕ) → byte < 256 → after_byte g c byte ≡ bit_xor (after_bits g 8 (bit_xor c byte % 256)) (c / 256)
unfolding after_bits
after_byte-split g c byte small =
    let gone : byte / 2 ^ 8 ≡ 0 = omega arith in
    after_bits-split g 0 (bit_xor c byte)
    ∙ ap (bit_xor (after_bits g 8 (bit_xor c byte % 256))) (xor_shr c byte 8 ∙ ap (bit_xor (c / 256)) gone ∙ xor_zero_r (c / 256))

-- the bytes of a word are taken in at once
pub after_bytes-word : (g c : ℕ) (bytes : List ℕ) → All (λ x. x < 256) bytes → after_bits g (8 * length bytes) (bit_xor c (number_of bytes)) ≡ after_bytes g c bytes
unfolding after_bits number_of
after_bytes-word g c [] each = xor_zero_r c
after_bytes-word g c (byte ∷ rest) each =
    let n = number_of rest in
    let count : 8 * length (byte ∷ rest) ≡ 8 + 8 * length rest = omega arith in
    let turned : byte + 256 * n ≡ byte + n * 256 = omega arith in
    let parts : bit_xor c (byte + 256 * n) ≡ bit_xor (bit_xor c byte) (n * 256) = ap (bit_xor c) (turned ∙ sym (xor-byte byte n (each 0 0 (omega arith)))) ∙ sym (xor_assoc c byte (n * 256)) in
    let first : after_bits g 8 (bit_xor (bit_xor c byte) (n * 256)) ≡ bit_xor (after_byte g c byte) n = after_bits-xor g 8 (bit_xor c byte) (n * 256) ∙ ap (bit_xor (after_byte g c byte)) (after_bits-shifted g 8 n) in
    ap (λ k. after_bits g k (bit_xor c (byte + 256 * n))) count
    ∙ ap (after_bits g (8 + 8 * length rest)) parts
    ∙ after_bits-add g 8 (8 * length rest) (bit_xor (bit_xor c byte) (n * 256))
    ∙ ap (after_bits g (8 * length rest)) first
    ∙ after_bytes-word g (after_byte g c byte) rest (λ k d within. each (suc k) d (suc-le-suc within))

-- a remainder has no more bits than the generator
pub after_bytes-lt : (w g c : ℕ) (bytes : List ℕ) → 256 ≤ 2 ^ w → g < 2 ^ w → c < 2 ^ w → All (λ x. x < 256) bytes → after_bytes g c bytes < 2 ^ w
after_bytes-lt w g c [] wide below fits each = fits
after_bytes-lt w g c (byte ∷ rest) wide below fits each =
    let small : byte < 2 ^ w = omega (arith, each 0 0 (omega arith)) in
    after_bytes-lt w g (after_byte g c byte) rest wide below (after_bits-lt w g 8 (bit_xor c byte) below (xor_lt w c byte fits small)) (λ k d within. each (suc k) d (suc-le-suc within))
