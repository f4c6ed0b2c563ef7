-- A text cut at its first such byte, as the parts that `slice_split` gives.
use Rattle.std.proofs.Common.{◌≡◌, ℕ, ◌+◌, ◌<◌, ◌≤◌, Bool, true, false, List, [], ◌∷◌, length, take, drop, refl, sym, subst, arith, cond, nat_lt, Option, Some, None, MatchOption, position}
use Rattle.std.specs.List.{slice_split, before_first, after_first, position_or_len}
use Rattle.std.proofs.lemmas.List.Splits.{slice_split_none, slice_split_first}
use Rattle.std.proofs.lemmas.List.Sums.{fails_before_first}
use Rattle.std.proofs.lemmas.List.Elements.{All-from_get_or}
use Rattle.std.proofs.lemmas.List.{take_all, drop_all}
use Rattle.std.proofs.lemmas.Bool.Decides.{nat_tests}

-- what a place says of the parts, of what comes before it, and of what comes after it
pub record Uncut (p : ℕ → Bool) (xs : List ℕ) : Type 0 where
  pub parts : slice_split p xs ≡ xs ∷ []
  pub before : before_first p xs ≡ xs
  pub after : after_first p xs ≡ []

pub record Cut (p : ℕ → Bool) (xs : List ℕ) (at : ℕ) : Type 0 where
  pub within : at < length xs
  pub parts : slice_split p xs ≡ take at xs ∷ slice_split p (drop (at + 1) xs)
  pub before : before_first p xs ≡ take at xs
  pub after : after_first p xs ≡ drop (at + 1) xs

abbrev CutsAt : (ℕ → Bool) → List ℕ → Option ℕ → Type 0
CutsAt p xs place = MatchOption place (Uncut p xs) (Cut p xs)

cuts : (p : ℕ → Bool) (xs : List ℕ) (b : Bool) → nat_lt (position_or_len p xs) (length xs) ≡ b → CutsAt p xs (cond b (Some (position_or_len p xs)) None)
cuts p xs true h =
    let inside : position_or_len p xs < length xs = grind (arith, nat_tests) in
    record { within = inside; parts = slice_split_first p xs 0 inside; before = refl; after = refl }
cuts p xs false h =
    let past : length xs ≤ position_or_len p xs = grind (arith, nat_tests) in
    record {
      parts = slice_split_none p xs (All-from_get_or (λ x. p x ≡ false) xs 0 (λ k within. fails_before_first p xs k 0 (omega arith)));
      before = take_all (position_or_len p xs) xs past;
      after = drop_all (position_or_len p xs + 1) xs (omega arith);
    }

-- what is known where it was found, and where it was not
pub cut_found : (p : ℕ → Bool) (xs : List ℕ) (at : ℕ) → Some at ≡ position p xs → Cut p xs at
cut_found p xs at is =
    subst (CutsAt p xs) (sym is) (cuts p xs (nat_lt (position_or_len p xs) (length xs)) refl)

pub cut_nowhere : (p : ℕ → Bool) (xs : List ℕ) → None ≡ position p xs → Uncut p xs
cut_nowhere p xs is =
    subst (CutsAt p xs) (sym is) (cuts p xs (nat_lt (position_or_len p xs) (length xs)) refl)
