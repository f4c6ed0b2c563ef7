-- Which numbers are out.
use Rattle.std.proofs.Common.{◌≡◌, ◌+◌, ◌||◌, ℕ, Bool, false, cond, eqb, sym, ◌∙◌, ap, arith, inl, inr}
use Rattle.std.proofs.lemmas.Bool.Decides.{nat_tests}
use Rattle.std.proofs.lemmas.Bool.{cases_Bool}
use Rattle.s3_journal.specs.Roster.{AreBelow, Numbered, is_out}

-- those that are out are below the next number, and so stay when it is given
pub below_given : (old new : Numbered) → AreBelow old → new.next ≡ old.next + 1
    → ((n : ℕ) → is_out new n ≡ (eqb n old.next || is_out old n)) → AreBelow new
below_given old new below next out n is =
    elim (cases_Bool (eqb n old.next)) [
      | inl same ↦ grind (arith, nat_tests, same, next)
      | inr other ↦ (let less = below n (sym (ap (λ (b : Bool). b || is_out old n) other) ∙ sym (out n) ∙ is) in omega (arith, less, next))
    ]

-- and when one comes back
pub below_taken : (old new : Numbered) (number : ℕ) → AreBelow old → new.next ≡ old.next
    → ((n : ℕ) → is_out new n ≡ cond (eqb n number) false (is_out old n)) → AreBelow new
below_taken old new number below next out n is =
    elim (cases_Bool (eqb n number)) [
      | inl same ↦ absurd (let not_out = out n ∙ ap (λ (b : Bool). cond b false (is_out old n)) same in cc)
      | inr other ↦ (let less = below n (sym (ap (λ (b : Bool). cond b false (is_out old n)) other) ∙ sym (out n) ∙ is) in omega (arith, less, next))
    ]
