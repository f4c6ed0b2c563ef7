-- Stages of a reading: one after another, and the first that reads nothing ends it.
use Rattle.std.specs.Prelude.{Bool, true, false, Option, Some, None, ⊤}

infixl 10 ◌>>=◌
abbrev pub ◌>>=◌ : {A B : Type 0} → Option A → (A → Option B) → Option B
(Some value) >>= next = next value
None >>= next = None

infixl 10 ◌>>◌
abbrev pub ◌>>◌ : {B : Type 0} → Option ⊤ → Option B → Option B
(Some done) >> next = next
None >> next = None

-- goes on where this is so
abbrev pub where_so : Bool → Option ⊤
where_so true = Some tt
where_so false = None
