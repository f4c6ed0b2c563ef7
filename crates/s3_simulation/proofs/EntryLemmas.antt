-- The entries of one connection, and a legal history with one entry more.
use Rattle.std.proofs.Common.{◌≡◌, ◌≢◌, ℕ, suc, ◌+◌, cond, eqb, Bool, List, [], ◌∷◌, ◌++◌, length, filter, ap, subst, ◌∙◌, eq-eqb, arith, inl, inr}
use Rattle.std.proofs.lemmas.Bool.Decides.{eqb_tells}
use Rattle.std.proofs.lemmas.List.{map-append}
use Rattle.std.proofs.lemmas.List.Elements.{filter-append}
use Rattle.s3_machine.specs.Step.{State}
use Rattle.s3_machine.specs.History.{Entry, IsAnswer, Legal, after, after_entry}
use Rattle.s3_machine.specs.declared.rules.Rules.{Rules}
use Rattle.s3_journal.specs.Recorded.{Recorded, entries_of_seat, history_of}

-- the entries of one, with more entries
pub seat_join : (seat : ℕ) (entries more : List Recorded)
    → entries_of_seat seat (entries ++ more) ≡ entries_of_seat seat entries ++ entries_of_seat seat more
seat_join seat entries more =
    ap history_of (filter-append (λ (x : Recorded). eqb x.seat seat) entries more)
    ∙ map-append (λ (x : Recorded). x.entry) (filter (λ (x : Recorded). eqb x.seat seat) entries) (filter (λ (x : Recorded). eqb x.seat seat) more)

-- of one entry, which is its own
pub seat_own : (seat : ℕ) (r : Recorded) → r.seat ≡ seat → entries_of_seat seat (r ∷ []) ≡ r.entry ∷ []
seat_own seat r own = ap (λ (b : Bool). history_of (cond b (r ∷ []) [])) (eq-eqb r.seat seat own)

-- or another's
pub seat_others : (seat : ℕ) (r : Recorded) → r.seat ≢ seat → entries_of_seat seat (r ∷ []) ≡ []
seat_others seat r others = elim (eqb_tells r.seat seat) [
  | inl same ↦ absurd (others same.1)
  | inr other ↦ ap (λ (b : Bool). history_of (cond b (r ∷ []) [])) other.0
]

-- the history, with more entries
pub history_more : (entries more : List Recorded) → history_of (entries ++ more) ≡ history_of entries ++ history_of more
history_more entries more = map-append (λ (x : Recorded). x.entry) entries more

-- an entry of a legal history has the answer of the state that the entries before it leave
pub answer_there : (rules : Rules) (s : State) (n : ℕ) (es : List Entry) (e : Entry) (more : List Entry)
    → Legal rules s n (es ++ e ∷ more) → IsAnswer rules (after rules s es) (n + length es) e
answer_there rules s n [] e more legal = subst (λ (k : ℕ). IsAnswer rules s k e) (omega arith) legal.0
answer_there rules s n (x ∷ es) e more legal =
    subst (λ (k : ℕ). IsAnswer rules (after rules (after_entry rules s x) es) k e) (omega arith) (answer_there rules (after_entry rules s x) (suc n) es e more legal.1)
