-- What a recorded store is: a store, and the history of the commands that it answered. No memory holds the history: only
-- contracts and proofs speak of it.
use Rattle.std.specs.Prelude.{◌≡◌, ◌≢◌, IsTrue, ◌+◌, Bool, true, false, List, [], ◌∷◌, ◌++◌, length, Option}
use mathlib.Core.List.{IsPrefix}
use Rattle.s3_history.specs.Log.{Origin}
use Rattle.s3_machine.specs.Effects.{is_refused, takes_room}
use Rattle.s3_machine.specs.History.{Entry, Legal, after, after_entry}
use Rattle.s3_machine.specs.Step.{State}
use Rattle.s3_machine.specs.declared.rules.Rules.{Rules}
use Rattle.s3_machine.specs.declared.turn.Turn.{Turn}
use Rattle.s3_store.specs.Steps.{Standing, outcome_of}
use Rattle.s3_journal.specs.Recorded.{Recorded, history_of}

-- a recorded store: which history it is, the rules of its server, the store as it was when the recorded store was opened,
-- the entries since then, and the store as it is; and the entries as they were at the last commit that answered Ok, if one did since
-- the history began
pub record Journal : Type 0 where
  pub origin : Origin
  pub rules : Rules
  pub opening : Standing
  pub entries : List Recorded
  pub store : Standing
  pub committed : Option (List Recorded)

-- the entries are a legal history from the opening, which leaves the store as it is
pub record KeepsHistory (recorded_store : Journal) : Type 0 where
  pub legal : Legal recorded_store.rules recorded_store.opening.state recorded_store.opening.number (history_of recorded_store.entries)
  pub leaves : after recorded_store.rules recorded_store.opening.state (history_of recorded_store.entries) ≡ recorded_store.store.state
  pub counts : recorded_store.store.number ≡ recorded_store.opening.number + length recorded_store.entries

-- the store that was told at the opening; if none was, this one
abbrev pub told_or : {S : Type 0} → List S → S → S
told_or [] store = store
told_or (opening ∷ more) store = opening

-- the state, and that after each of the entries which follow it
abbrev pub states_from : Rules → State → List Entry → List State
states_from rules s [] = s ∷ []
states_from rules s (e ∷ es) = s ∷ states_from rules (after_entry rules s e) es

-- The entries from this state on begin with those that were committed, and a crash now leaves the state after these, or the one after
-- an entry that follows them, or nothing.
pub record LastsFrom (leaves_one_of : List State → Type 0) (rules : Rules) (opening : State) (entries front : List Recorded) : Type 0 where
  pub rest : List Recorded
  pub begins : entries ≡ front ++ rest
  pub lasts : leaves_one_of (states_from rules (after rules opening (history_of front)) (history_of rest))

-- the state is the one after a beginning of the history that has these entries: they, and more that follow
pub record HasEntries (recorded_store : Journal) (front : List Recorded) (left : State) : Type 0 where
  pub more : List Recorded
  pub begins : IsPrefix (front ++ more) recorded_store.entries
  pub leaves : left ≡ after recorded_store.rules recorded_store.opening.state (history_of (front ++ more))

-- where the rows are in memory, and the numbers are not used up, memory may be lacking at a store only for a turn that it doesn't refuse
-- and that takes room
pub record MayLack (in_memory : Bool) (rules : Rules) (store : Standing) (turn : Turn) : Type 0 where
  pub memory : in_memory ≡ true → store.number ≢ 18446744073709551615 → is_refused (outcome_of rules store turn.moment turn.command) ≡ false
  pub room : in_memory ≡ true → store.number ≢ 18446744073709551615 → IsTrue (takes_room store.state turn.command)
