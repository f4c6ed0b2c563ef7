-- Histories with one more entry at the end, and histories in two parts.
use Rattle.std.proofs.Common.{◌≡◌, refl, subst, ◌∙◌, arith, ℕ, ◌+◌, suc, List, [], ◌∷◌, ◌++◌, append_assoc, length}
use Rattle.s3_machine.specs.Step.{State}
use Rattle.s3_machine.specs.History.{Entry, IsAnswer, Legal, after, after_entry}
use Rattle.s3_machine.specs.declared.rules.Rules.{Rules}

module _ (rules : Rules) where
  pub after-push : (s : State) (es : List Entry) (e : Entry) → after rules s (es ++ e ∷ []) ≡ after_entry rules (after rules s es) e
  after-push s [] e = refl
  after-push s (x ∷ es) e = after-push (after_entry rules s x) es e

  pub after-append : (s : State) (es fs : List Entry) → after rules s (es ++ fs) ≡ after rules (after rules s es) fs
  after-append s [] fs = refl
  after-append s (x ∷ es) fs = after-append (after_entry rules s x) es fs

  pub Legal-push : (s : State) (n : ℕ) (es : List Entry) (e : Entry) → Legal rules s n es → IsAnswer rules (after rules s es) (n + length es) e → Legal rules s n (es ++ e ∷ [])
  Legal-push s n [] e legal answer =
      let same : n + 0 ≡ n = omega arith in
      (subst (λ m. IsAnswer rules s m e) same answer, tt)
  Legal-push s n (x ∷ es) e legal answer =
      let same : n + suc (length es) ≡ suc n + length es = omega arith in
      (legal.0, Legal-push (after_entry rules s x) (suc n) es e legal.1 (subst (λ m. IsAnswer rules (after rules (after_entry rules s x) es) m e) same answer))

  -- two legal histories are one, where the second goes on from where the first leads
  pub Legal-joined : (s : State) (n : ℕ) (es fs : List Entry) → Legal rules s n es → Legal rules (after rules s es) (n + length es) fs → Legal rules s n (es ++ fs)
  Legal-joined s n [] fs first second =
      let same : n + 0 ≡ n = omega arith in
      subst (λ m. Legal rules s m fs) same second
  Legal-joined s n (x ∷ es) fs first second =
      let same : n + suc (length es) ≡ suc n + length es = omega arith in
      (first.0, Legal-joined (after_entry rules s x) (suc n) es fs first.1 (subst (λ m. Legal rules (after rules (after_entry rules s x) es) m fs) same second))

  -- of a legal history in two parts both are legal, the second from where the first leads
  pub Legal-append : (s : State) (n : ℕ) (es fs : List Entry) → Legal rules s n (es ++ fs) → Legal rules s n es × Legal rules (after rules s es) (n + length es) fs
  Legal-append s n [] fs legal =
      let same : n ≡ n + 0 = omega arith in
      (tt, subst (λ m. Legal rules s m fs) same legal)
  Legal-append s n (x ∷ es) fs legal =
      let same : suc n + length es ≡ n + suc (length es) = omega arith in
      let parts = Legal-append (after_entry rules s x) (suc n) es fs legal.1 in
      ((legal.0, parts.0), subst (λ m. Legal rules (after rules (after_entry rules s x) es) m fs) same parts.1)

  -- an entry of a legal history has the answer of the state that those before it leave
  pub Legal-at : (s : State) (n : ℕ) (es : List Entry) (e : Entry) (fs : List Entry) → Legal rules s n (es ++ e ∷ fs)
      → IsAnswer rules (after rules s es) (n + length es) e
  Legal-at s n es e fs legal = (Legal-append s n es (e ∷ fs) legal).1.0

-- a right entry, those behind it, and another right entry
pub record Between (rules : Rules) (s : State) (before between : List Entry) (first last : Entry) : Type 0 where
  pub m : ℕ
  pub right : IsAnswer rules (after rules s before) m first
  pub k : ℕ
  pub legal : Legal rules (after_entry rules (after rules s before) first) k between
  pub j : ℕ
  pub right_last : IsAnswer rules (after rules (after_entry rules (after rules s before) first) between) j last

pub parts_of : (rules : Rules) (s : State) (n : ℕ) (entries before between later : List Entry) (first last : Entry)
    → Legal rules s n entries → entries ≡ before ++ first ∷ between ++ last ∷ later → Between rules s before between first last
parts_of rules s n entries before between later first last legal parts =
    let joined = subst (Legal rules s n) (parts ∙ append_assoc before (first ∷ between) (last ∷ later)) legal in
    let from_first = (Legal-append rules s n before (first ∷ (between ++ last ∷ later)) joined).1 in
    let behind = Legal-append rules (after_entry rules (after rules s before) first) _ between (last ∷ later) from_first.1 in
    record { m = _; right = from_first.0; k = _; legal = behind.0; j = _; right_last = behind.1.0 }

-- one entry of a legal history is right
pub right_at : (rules : Rules) (s : State) (n : ℕ) (entries before later : List Entry) (e : Entry)
    → Legal rules s n entries → entries ≡ before ++ e ∷ later → IsAnswer rules (after rules s before) (n + length before) e
right_at rules s n entries before later e legal parts = Legal-at rules s n before e later (subst (Legal rules s n) parts legal)
