-- What an entry of a recorded store is, without the store that it is of.
use Rattle.std.specs.Prelude.{◌==◌, ℕ, List, map, filter}
use Rattle.s3_machine.specs.History.{Entry}
use Rattle.s3_machine.specs.declared.command.Answer.{Answer}
use Rattle.s3_machine.specs.declared.turn.Turn.{Turn}

-- an entry of a recorded store: who asked for it, and the command with its moment and its answer
pub record Recorded : Type 0 where
  pub seat : ℕ
  pub entry : Entry

-- the entry of a turn that was given this answer, and that of a recorded store, with who asked
abbrev pub entry_of : Turn → Answer → Entry
entry_of turn answer = record { command = turn.command; moment = turn.moment; answer = answer }

abbrev pub recorded : ℕ → Turn → Answer → Recorded
recorded seat turn answer = record { seat = seat; entry = entry_of turn answer }

-- the entries of all, in their order
abbrev pub history_of : List Recorded → List Entry
history_of entries = map (λ (r : Recorded). r.entry) entries

-- the entries of one seat, in their order
abbrev pub entries_of_seat : ℕ → List Recorded → List Entry
entries_of_seat seat entries = history_of (filter (λ (r : Recorded). r.seat == seat) entries)
