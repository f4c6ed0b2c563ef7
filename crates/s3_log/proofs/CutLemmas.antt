-- The first place of a byte, as a search tells it.
use Rattle.std.proofs.Common.{◌≡◌, ℕ, ◌==◌, Bool, true, false, List, length, sym, ap, ◌∙◌, arith, cond, nat_lt, Option, Some, None, position}
use Rattle.std.specs.List.{position_or_len}
use Rattle.std.proofs.lemmas.List.Sums.{position_or_len_is}
use Rattle.std.proofs.lemmas.Bool.{eq-eqb, ne_eqb}
use Rattle.std.proofs.lemmas.Bool.Decides.{nat_tests}
use Rattle.memchr.specs.Find.{IsFirstByte, is_byte}

-- the place where a text passes a test, by how much of it doesn't
placed : (p : ℕ → Bool) (xs : List ℕ) (k : ℕ) (b : Bool) → position_or_len p xs ≡ k → nat_lt k (length xs) ≡ b
    → cond b (Some k) None ≡ position p xs
placed p xs k b is less = sym (ap (λ n. cond (nat_lt n (length xs)) (Some n) None) is ∙ ap (λ t. cond t (Some k) None) less)

pub first_place : (byte : ℕ) (text : List ℕ) (r : Option ℕ) → IsFirstByte (is_byte byte) text r → r ≡ position (λ b. b == byte) text
first_place byte text None nowhere =
    placed (λ b. b == byte) text (length text) false
    (position_or_len_is (λ b. b == byte) text (length text) 0 (omega arith) (λ k less. ne_eqb _ byte (λ same. nowhere k (omega arith) less (eq-eqb _ byte same))) (λ less. absurd (omega arith)))
    (grind (arith, nat_tests))
first_place byte text (Some k) found =
    placed (λ b. b == byte) text k true
    (position_or_len_is (λ b. b == byte) text k 0 (omega arith) (λ j less. ne_eqb _ byte (λ same. found.0.before j (omega arith) less (eq-eqb _ byte same))) (λ less. found.1))
    (grind (arith, nat_tests))
