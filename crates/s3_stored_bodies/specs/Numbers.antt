-- Bodies under numbers, and how many rows name each.
use Rattle.std.specs.Prelude.{◌≡◌, ℕ, ◌+◌, ◌-◌, ◌<◌, ◌==◌, List, [], count_by, unwrap_or}
use Rattle.std.specs.FinMap as map
use Rattle.std.specs.Ordering.{nat_cmp}

-- the bytes under each number
abbrev pub Contents : Type 0
Contents = map.FinMap nat_cmp (List ℕ)

-- the bytes under a number, and none where nothing stands there
abbrev pub bytes_under : Contents → ℕ → List ℕ
bytes_under contents number = unwrap_or (map.get contents number) []

-- how often a number stands in a list
abbrev pub times : ℕ → List ℕ → ℕ
times number numbers = count_by (λ n. n == number) numbers

-- how many rows name each number, where one more does for each time that it stands in the list
abbrev pub named_more : List ℕ → (ℕ → ℕ) → ℕ → ℕ
named_more numbers uses number = uses number + times number numbers

-- the same, where one fewer does
abbrev pub named_less : List ℕ → (ℕ → ℕ) → ℕ → ℕ
named_less numbers uses number = uses number - times number numbers

-- under the numbers that are still named stands what stood there
abbrev pub KeepsNamed : (ℕ → ℕ) → Contents → Contents → Type 0
KeepsNamed uses old new = (number : ℕ) → 0 < uses number → map.get new number ≡ map.get old number

-- what outlived a crash as bytes under a number, does so still
abbrev pub StillOutlive : {B : Type 0} → (B → ℕ → List ℕ → Type 0) → B → B → Type 0
StillOutlive outlives old new = (number : ℕ) (bytes : List ℕ) → outlives old number bytes → outlives new number bytes
