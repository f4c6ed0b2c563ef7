-- Texts that are no range.
use Rattle.std.proofs.Common.{◌≡◌, ◌≢◌, ℕ, List, [], ◌∷◌, length, refl, None}
use Rattle.s3_conditions.specs.Range.{range_of_parts}

-- another count of parts says nothing
pub not_two : (parts : List (List ℕ)) → length parts ≢ 2 → range_of_parts parts ≡ None
not_two [] other = refl
not_two (a ∷ []) other = refl
not_two (a ∷ b ∷ []) other = absurd (other refl)
not_two (a ∷ b ∷ c ∷ rest) other = refl
