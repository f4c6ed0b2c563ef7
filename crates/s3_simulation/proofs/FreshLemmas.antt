-- Connections of which nothing came.
use Rattle.std.proofs.Common.{◌≡◌, ◌<◌, ◌+◌, ◌⊎◌, ℕ, zero, suc, Some, List, [], ◌∷◌, ◌++◌, length, get_or, refl, sym, ap, subst, ◌∙◌, arith, inl, inr}
use Rattle.std.proofs.lemmas.List.{length_push}
use Rattle.std.specs.Global.{Vec}
use Rattle.std.specs.List.{slice_get}
use Rattle.s3_simulation.specs.Played.{Playing}
use Rattle.s3_simulation.specs.Run.{moments_of, each_moments}
use Rattle.s3_simulation.specs.StandsAfter.{AreFresh, IsFresh}

-- an element of a list with one more is the last, or was there before
get_push : {X : Type 0} (xs : List X) (x y : X) (c : ℕ) → slice_get (xs ++ x ∷ []) c ≡ Some y → (slice_get xs c ≡ Some y) ⊎ ((c ≡ length xs) × (y ≡ x))
get_push [] x y zero is = inr (refl, (cc))
get_push [] x y (suc c) is = absurd (cc)
get_push (z ∷ xs) x y zero is = inl is
get_push (z ∷ xs) x y (suc c) is = elim (get_push xs x y c is) [
  | inl before ↦ inl before
  | inr last ↦ inr (ap suc last.0, last.1)
]

pub moments_at : (given : List (Vec ℕ)) (c : ℕ) (d : Vec ℕ) → c < length given → moments_of c (each_moments given) ≡ (get_or given c d).items
moments_at [] c d less = absurd (omega arith)
moments_at (v ∷ given) zero d less = refl
moments_at (v ∷ given) (suc c) d less = moments_at given c d (omega arith)

pub fresh_none : (moments : List (List ℕ)) → AreFresh [] moments 0
fresh_none moments = record { count = refl; fresh = λ c b is. absurd (cc) }

-- one more
pub fresh_more : (made : List Playing) (moments : List (List ℕ)) (n : ℕ) (b : Playing) → AreFresh made moments n → IsFresh b (moments_of n moments)
    → AreFresh (made ++ b ∷ []) moments (n + 1)
fresh_more made moments n b before one = record {
  count = length_push made b ∙ ap (λ (k : ℕ). k + 1) before.count;
  fresh = λ c d is.
      elim (get_push made b d c is) [
        | inl earlier ↦ before.fresh c d earlier
        | inr last ↦
            (let place : c ≡ n = last.0 ∙ before.count in
            subst (λ (x : Playing). IsFresh x (moments_of c moments)) (sym last.1) (subst (λ (k : ℕ). IsFresh b (moments_of k moments)) (sym place) one))
      ];
}
