-- What is known where an answer was found.
use Rattle.std.proofs.Common.{◌≡◌, Bool, true, false, refl, Option, Some, None, if◌then◌else◌}

-- an answer that is kept where a test passes: it passed
pub some_kept : {A : Type 0} (b : Bool) (o : Option A) (y : A) → (if b then o else None) ≡ Some y → (b ≡ true) × (o ≡ Some y)
some_kept true o y is = (refl, is)
some_kept false o y is = absurd (cc)
