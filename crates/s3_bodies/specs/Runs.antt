-- Runs of blocks, one behind another.
use Rattle.std.specs.Prelude.{◌≡◌, ℕ, ◌+◌, List, [], ◌∷◌, length}
use Rattle.std.specs.List.{flat_map}
use Rattle.s3_bodies.specs.declared.runs.Run.{Run}

-- their bytes
abbrev pub bytes_of_runs : List Run → List ℕ
bytes_of_runs runs = flat_map (λ (run : Run). run.bytes) runs

-- each run knows how many bytes there are up to its end, counted from a place
abbrev pub HaveEnds : ℕ → List Run → Type 0
HaveEnds start [] = Unit {0}
HaveEnds start (run ∷ runs) = (run.end ≡ start + length run.bytes) × HaveEnds run.end runs
