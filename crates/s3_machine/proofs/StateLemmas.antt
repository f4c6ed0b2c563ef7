-- What holds of the states of a legal history from a sound base on.
use Rattle.std.proofs.Common.{◌≡◌, sym, ap, subst, arith, ℕ, ◌+◌, suc, List, [], ◌∷◌, length}
use Rattle.s3_records.specs.Places.{ChangesAreByPlace, AreBelow, NumbersStayBelow, LaterIsBelow, OpeningIsBelow}
use Rattle.s3_machine.specs.History.{Entry, IsAnswer, Legal, after, after_entry}
use Rattle.s3_machine.specs.Step.{State}
use Rattle.s3_machine.proofs.ChangeLemmas.{AreNull, comes_null}
use Rattle.s3_machine.proofs.EffectLemmas.{FollowRules, step_does, steps_stay_below}
use Rattle.s3_machine.specs.declared.rules.Rules.{Rules}

-- numbers that are above those of all versions stay above them
pub record Numbers : Type 0 where
  pub stay : NumbersStayBelow (List ℕ)
  pub later : LaterIsBelow (List ℕ)
  pub opening : OpeningIsBelow (List ℕ)

-- the number of a right answer
pub numbered_by : (rules : Rules) (s : State) (n : ℕ) (e : Entry) → IsAnswer rules s n e → e.answer.number ≡ n
numbered_by rules s n e answer = ap (λ a. a.number) answer

module _ (places : ChangesAreByPlace (List ℕ)) (follow : FollowRules) (rules : Rules) where
  pub entry_below : Numbers → (s : State) (n : ℕ) (e : Entry) → IsAnswer rules s n e → AreBelow n s → AreBelow (suc n) (after_entry rules s e)
  entry_below numbers s n e answer below =
      let number = numbered_by rules s n e answer in
      let next : e.answer.number + 1 ≡ suc n = omega arith in
      subst (λ (m : ℕ). AreBelow m (after_entry rules s e)) next
      (steps_stay_below places follow numbers.stay numbers.later rules s e.answer.number e.moment e.command
      (subst (λ (m : ℕ). AreBelow m s) (sym number) below))

  pub below_after : Numbers → (s : State) (n : ℕ) (es : List Entry) → Legal rules s n es → AreBelow n s
      → AreBelow (n + length es) (after rules s es)
  below_after numbers s n [] legal below =
      let same : n ≡ n + 0 = omega arith in subst (λ (m : ℕ). AreBelow m s) same below
  below_after numbers s n (e ∷ es) legal below =
      let same : suc n + length es ≡ n + suc (length es) = omega arith in
      subst (λ (m : ℕ). AreBelow m (after rules (after_entry rules s e) es)) same
      (below_after numbers (after_entry rules s e) (suc n) es legal.1 (entry_below numbers s n e legal.0 below))

  pub null_after : (s : State) (n : ℕ) (es : List Entry) → Legal rules s n es → AreNull s → AreNull (after rules s es)
  null_after s n [] legal nulls = nulls
  null_after s n (e ∷ es) legal nulls =
      null_after (after_entry rules s e) (suc n) es legal.1
      (comes_null e.answer.number s (after_entry rules s e) (step_does places follow rules s e.answer.number e.moment e.command).comes nulls)
