-- Lines that wait for their writer.
use Rattle.std.specs.Prelude.{◌≡◌, ◌<◌, ◌≤◌, ◌+◌, ◌-◌, ◌==◌, ℕ, Bool, true, false, List, [], ◌++◌, length, min}
use Rattle.s3_log.specs.Lines.{room}
use Rattle.s3_log.specs.declared.pending.Given.{Given}
use Rattle.s3_log.specs.declared.pending.Pending.{Pending}

-- one more, up to the greatest number that is counted
abbrev pub counted : ℕ → ℕ
counted n = min (n + 1) 18446744073709551615

-- no lines, of so many who add some
abbrev pub nothing_of : ℕ → Pending
nothing_of tellers = record { lines = []; count = 0; lost = 0; tellers = tellers }

-- one line more was lost
abbrev pub one_lost : Pending → Pending
one_lost p = record p { lost = counted p.lost }

-- one less adds lines
abbrev pub one_left : Pending → Pending
one_left p = record p { tellers = p.tellers - 1 }

-- the line stands behind the others, all within the room; or it was lost, and there was no room for it
abbrev pub HasTold : List ℕ → Pending → Pending → Bool → Type 0
HasTold line old new true = (new ≡ record old { lines = old.lines ++ line; count = counted old.count }) × (length new.lines ≤ room)
HasTold line old new false = (new ≡ one_lost old) × (room < length old.lines + length line)

-- what a writer is given
abbrev pub given_of : Pending → Given
given_of p = record { count = p.count; lost = p.lost; is_last = p.tellers == 0 }
