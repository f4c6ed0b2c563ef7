-- Histories of the machine: which answers are right, given all that was answered before.
use Rattle.std.specs.Prelude.{◌≡◌, ℕ, suc, List, [], ◌∷◌}
use Rattle.s3_machine.specs.declared.command.Command.{Command}
use Rattle.s3_machine.specs.declared.command.Answer.{Answer}
use Rattle.s3_machine.specs.declared.rules.Rules.{Rules}
use Rattle.s3_machine.specs.Step.{State, step}

-- a command that took its turn, its moment, and the answer that it was given
pub record Entry : Type 0 where
  pub command : Command
  pub moment : ℕ
  pub answer : Answer

-- the rules are the same in all of a history
module _ (rules : Rules) where
  -- the entry has the answer that the step from this state gives, under this number
  abbrev pub IsAnswer : State → ℕ → Entry → Type 0
  IsAnswer s n e = e.answer ≡ record { number = n; outcome = (step rules s n e.moment e.command).1 }

  -- the state after an entry, by its number
  abbrev pub after_entry : State → Entry → State
  after_entry s e = (step rules s e.answer.number e.moment e.command).0

  -- entries that begin at a state and a number: each has the answer of the state that the entries
  -- before it leave, and the numbers count up by one
  abbrev pub Legal : State → ℕ → List Entry → Type 0
  Legal s n [] = Unit {0}
  Legal s n (e ∷ es) = IsAnswer s n e × Legal (after_entry s e) (suc n) es

  -- the state that the entries leave
  abbrev pub after : State → List Entry → State
  after s [] = s
  after s (e ∷ es) = after (after_entry s e) es
