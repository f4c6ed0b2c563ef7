-- Texts that are put one behind another into room that is there. These serve the clauses of private functions alone.
use Rattle.std.specs.Prelude.{◌≡◌, ◌≤◌, ◌<◌, ◌+◌, ℕ, List, ◌++◌, length, take}

-- the room is as long as it was, and what stands in front of a place is what stood there
pub record Keeps (at : ℕ) (old new : List ℕ) : Type 0 where
  pub size : length new ≡ length old
  pub front : take at new ≡ take at old

-- a text stands from a place on up to an end, unless it ends behind the room, which is too short for it then
pub record Puts (text : List ℕ) (at : ℕ) (old new : List ℕ) (end : ℕ) : Type 0 where
  pub keeps : Keeps at old new
  pub order : at ≤ end
  pub put : end ≤ length old → take end new ≡ take at old ++ text
  pub full : length old < end → length old < at + length text
