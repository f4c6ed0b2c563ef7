-- Which rows of one table were put.
use Rattle.std.specs.Prelude.{ℤ, int_le, Bool, List}
use Rattle.sqlite_keyed.specs.Rules.{AllPass}

-- no rowid is above this one, and each row passes this test
pub record IsFilled {X : Type 0} (key : X → ℤ) (last : ℤ) (fits : X → Bool) (xs : List X) : Type 0 where
  pub reached : AllPass (λ x. int_le (key x) last) xs
  pub fit : AllPass fits xs
