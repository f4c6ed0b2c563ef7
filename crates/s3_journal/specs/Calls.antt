-- What a call of a seat does.
use Rattle.std.specs.Prelude.{◌≡◌, ℕ, ◌+◌, Bool, false, List, [], ◌∷◌, ◌++◌, length}
use mathlib.Core.List.{IsPrefix}
use Rattle.s3_machine.specs.declared.command.Answer.{Answer}
use Rattle.s3_machine.specs.declared.turn.Turn.{Turn}
use Rattle.s3_machine.specs.History.{after}
use Rattle.s3_machine.specs.Rules.{rules_of}
use Rattle.s3_store.specs.Steps.{Standing}
use Rattle.s3_journal.specs.RecordedStore.{Journal, KeepsHistory, MayLack}
use Rattle.s3_journal.specs.Recorded.{Recorded, entries_of_seat, entry_of, history_of, recorded}
use Rattle.s3_journal.specs.SharedStore.{Base, IsAmong, IsLegal, Seated}

-- A recorded store has answered a seat's turn, which is one entry more, and goes on to keep its history.
pub record HasAnswered (old new : Journal) (seat : ℕ) (turn : Turn) (answer : Answer) : Type 0 where
  pub origin : new.origin ≡ old.origin
  pub rules : new.rules ≡ old.rules
  pub opening : new.opening ≡ old.opening
  pub entry : new.entries ≡ old.entries ++ recorded seat turn answer ∷ []
  pub number : answer.number ≡ old.store.number
  pub keeps : KeepsHistory new

-- A seat's turn was answered: that is one entry more of the seat's, and it ends the history that the seat has now seen.
-- This history is legal from the base, so it settles the answer; it begins with what the seat had seen before, and has all
-- that the seat was ever given.
pub record IsAnswered (base : Base) (old new : Seated) (turn : Turn) (answer : Answer) : Type 0 where
  pub number : new.number ≡ old.number
  pub mine : new.mine ≡ old.mine ++ entry_of turn answer ∷ []
  pub earlier : List Recorded
  pub seen : new.seen ≡ earlier ++ recorded old.number turn answer ∷ []
  pub begins : IsPrefix old.seen earlier
  pub legal : IsLegal base new.seen
  pub place : answer.number ≡ base.store.number + length earlier
  pub among : IsAmong new.mine (entries_of_seat new.number new.seen)

-- the store that these entries leave
abbrev pub left_by : Base → List Recorded → Standing
left_by base entries = record {
  state = after (rules_of base.settings) base.store.state (history_of entries);
  number = base.store.number + length entries;
}

-- Memory was lacking for a seat's turn, and may have been: at the state that the seat has now seen, which is no older than what it
-- had seen, the turn takes room and isn't refused. The seat was given nothing.
pub record LacksMemory (in_memory : Bool) (base : Base) (old new : Seated) (turn : Turn) : Type 0 where
  pub number : new.number ≡ old.number
  pub mine : new.mine ≡ old.mine
  pub begins : IsPrefix old.seen new.seen
  pub legal : IsLegal base new.seen
  pub lacks : MayLack in_memory (rules_of base.settings) (left_by base new.seen) turn

-- A seat's turn was answered, but its commit failed, as it may where the rows are not in memory: the answer isn't told.
pub record IsUntold (in_memory : Bool) (base : Base) (old new : Seated) (turn : Turn) : Type 0 where
  pub rows : in_memory ≡ false
  pub answer : Answer
  pub answered : IsAnswered base old new turn answer
