-- What a contract sees of a parameter's place in a text: its name and its value.
-- Only clauses of private functions cite these, and nobody has to believe them.
use Rattle.std.specs.Prelude.{ℕ, ◌≤◌, List, slice_range}
use Rattle.s3_http_heads.specs.declared.parameters.Place.{Place}

abbrev pub place_bytes : List ℕ → Place → List ℕ × List ℕ
place_bytes text place = (slice_range text place.start place.middle, slice_range text place.middle place.end)

-- the place lies in the first n bytes
abbrev pub IsPlaceWithin : ℕ → Place → Type 0
IsPlaceWithin n place = (place.start ≤ place.middle) × (place.middle ≤ place.end) × (place.end ≤ n)
