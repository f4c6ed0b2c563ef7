-- A history stays legal with one entry more that has the answer of its step.
use Rattle.std.proofs.Common.{◌≡◌, ◌+◌, ℕ, List, [], ◌∷◌, ◌++◌, length, Option, sym, ◌∙◌, ap, subst, arith}
use Rattle.std.proofs.lemmas.List.{length-map, length_push, map-append}
use Rattle.s3_history.specs.Log.{Origin}
use Rattle.s3_machine.specs.History.{Entry, IsAnswer, Legal, after, after_entry}
use Rattle.s3_machine.specs.Step.{State, step}
use Rattle.s3_machine.specs.declared.command.Answer.{Answer}
use Rattle.s3_machine.specs.declared.rules.Rules.{Rules}
use Rattle.s3_machine.specs.declared.turn.Turn.{Turn}
use Rattle.s3_store.specs.Steps.{Standing, after_step, outcome_of}
use Rattle.s3_journal.specs.RecordedStore.{Journal, KeepsHistory, told_or}
use Rattle.s3_journal.specs.Recorded.{Recorded, history_of, recorded}

abbrev answer_at : Rules → ℕ → Turn → State → Answer
answer_at rules n turn s = record { number = n; outcome = (step rules s n turn.moment turn.command).1 }

-- a recorded store that has answered one turn more keeps its history
pub keeps_push : ((rules : Rules) (s : State) (n : ℕ) (es : List Entry) (e : Entry) → Legal rules s n es → IsAnswer rules (after rules s es) (n + length es) e → Legal rules s n (es ++ e ∷ []))
    → ((rules : Rules) (s : State) (es : List Entry) (e : Entry) → after rules s (es ++ e ∷ []) ≡ after_entry rules (after rules s es) e)
    → (recorded_store : Journal) (seat : ℕ) (turn : Turn) (answer : Answer) (entries : List Recorded) (store : Standing) (origin : Origin) (committed : Option (List Recorded))
    → KeepsHistory recorded_store
    → entries ≡ recorded_store.entries ++ recorded seat turn answer ∷ []
    → answer ≡ record { number = recorded_store.store.number; outcome = outcome_of recorded_store.rules recorded_store.store turn.moment turn.command }
    → store ≡ after_step recorded_store.rules recorded_store.store turn.moment turn.command
    → KeepsHistory (record { origin = origin; rules = recorded_store.rules; opening = recorded_store.opening; entries = entries; store = store; committed = committed })
keeps_push one_more leaves_one recorded_store seat turn answer entries store origin committed keeps added right steps =
    let e : Entry = (recorded seat turn answer).entry in
    let es : List Entry = history_of recorded_store.entries in
    let history : history_of entries ≡ es ++ e ∷ [] =
    ap history_of added ∙ map-append (λ (r : Recorded). r.entry) recorded_store.entries (recorded seat turn answer ∷ []) in
    let leaves = keeps.leaves in
    let count = keeps.counts in
    let long : length es ≡ length recorded_store.entries = length-map recorded_store.entries (λ (r : Recorded). r.entry) in
    let is : IsAnswer recorded_store.rules (after recorded_store.rules recorded_store.opening.state es) recorded_store.store.number e =
    right ∙ ap (answer_at recorded_store.rules recorded_store.store.number turn) (sym leaves) in
    let place : recorded_store.store.number ≡ recorded_store.opening.number + length es = omega (arith, count, long) in
    let legal = one_more recorded_store.rules recorded_store.opening.state recorded_store.opening.number es e keeps.legal
    (subst (λ (k : ℕ). IsAnswer recorded_store.rules (after recorded_store.rules recorded_store.opening.state es) k e) place is) in
    let numbered = ap (λ (a : Answer). a.number) right in
    let longer = ap length added ∙ length_push recorded_store.entries (recorded seat turn answer) in
    let next = ap (λ (s : Standing). s.number) steps in
    record {
      legal = subst (λ (h : List Entry). Legal recorded_store.rules recorded_store.opening.state recorded_store.opening.number h) (sym history) legal;
      leaves = ap (after recorded_store.rules recorded_store.opening.state) history ∙ leaves_one recorded_store.rules recorded_store.opening.state es e
          ∙ ap (λ (s : State). (step recorded_store.rules s answer.number turn.moment turn.command).0) leaves
          ∙ ap (λ (n : ℕ). (step recorded_store.rules recorded_store.store.state n turn.moment turn.command).0) numbered
          ∙ sym (ap (λ (s : Standing). s.state) steps);
      counts = omega (arith, next, count, longer);
    }

-- what was told at the opening stays so, whatever the store comes to be
pub told_stays : {S : Type 0} (told : List S) (old new : S) → told ≡ told_or told old ∷ [] → told_or told new ≡ told_or told old
told_stays {S} told old new one = ap (λ (ts : List S). told_or ts new) one
