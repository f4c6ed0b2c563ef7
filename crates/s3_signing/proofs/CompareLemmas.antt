-- Bytes that are mixed and gathered: all zero where the texts are the same.
use Rattle.std.proofs.Common.{◌≡◌, ℕ, suc, zero, ◌+◌, ◌%◌, ◌<◌, Bool, true, false, ◌&&◌, nat_eq, List, length, drop, get_or, refl, sym, ap, ◌∙◌, arith, bit_or, bit_xor, inl, inr}
use Rattle.std.specs.Str.{bytes_eq}
use Rattle.std.specs.Int.{bit_at}
use Rattle.std.specs.Int.Bits.{xor_self}
use Rattle.std.proofs.lemmas.Bool.{cases_eq, eq-eqb, ne_eqb}
use Rattle.std.proofs.lemmas.List.{drop_more}
use Rattle.std.proofs.lemmas.Nat.{le_or_l}
use Rattle.std.proofs.lemmas.Nat.Bits.{bit_at-zero, bit_at_xor, bit_at-lt, same_from_bits}

-- two numbers that mix to zero have the same bits
same_from_zero : (x y : ℕ) → bit_xor x y ≡ 0 → x ≡ y
same_from_zero x y none =
    same_from_bits x y (λ i.
    let even : (bit_at x i + bit_at y i) % 2 ≡ 0 = sym (bit_at_xor x y i) ∙ ap (λ n. bit_at n i) none ∙ bit_at-zero i in
    omega (arith, even, bit_at-lt x i, bit_at-lt y i))

mixed : (x y : ℕ) → nat_eq (bit_xor x y) 0 ≡ nat_eq x y
mixed x y = elim (cases_eq x y) [
  | inl same ↦ eq-eqb (bit_xor x y) 0 (ap (λ n. bit_xor n y) same ∙ xor_self y) ∙ sym (eq-eqb x y same)
  | inr apart ↦ ne_eqb (bit_xor x y) 0 (λ none. apart (same_from_zero x y none)) ∙ sym (ne_eqb x y apart)
]

gathered : (d x y : ℕ) → nat_eq (bit_or d (bit_xor x y)) 0 ≡ (nat_eq d 0 && nat_eq x y)
gathered zero x y = mixed x y
gathered (suc d) x y =
    ne_eqb (bit_or (suc d) (bit_xor x y)) 0 (λ none. omega (arith, none, le_or_l (suc d) (bit_xor x y)))
    ∙ ap (λ b. b && nat_eq x y) (sym (ne_eqb (suc d) 0 (λ none. omega (arith, none))))

regrouped : (a b c : Bool) → (a && (b && c)) ≡ ((a && b) && c)
regrouped true b c = refl
regrouped false b c = refl

-- one more byte of both
pub compare_more : (first second : List ℕ) (i d : ℕ) → i < length first → i < length second → (nat_eq (bit_or d (bit_xor (get_or first i 0) (get_or second i 0))) 0 && bytes_eq (drop (i + 1) first) (drop (i + 1) second)) ≡ (nat_eq d 0 && bytes_eq (drop i first) (drop i second))
compare_more first second i d in_first in_second =
    let x = get_or first i 0 in
    let y = get_or second i 0 in
    rw (drop_more first i 0 in_first, drop_more second i 0 in_second, gathered d x y)
    (sym (regrouped (nat_eq d 0) (nat_eq x y) (bytes_eq (drop (i + 1) first) (drop (i + 1) second))))
