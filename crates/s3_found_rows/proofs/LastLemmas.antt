-- A row that is put behind the ones that stand.
use Rattle.std.proofs.Common.{◌≡◌, refl, ap, ◌∙◌, ℤ, ◌<ℤ◌, Bool, true, List, [], ◌∷◌, ◌++◌, int_lt, int_le, arith}
use Rattle.std.proofs.lemmas.Int.{ints}
use Rattle.std.proofs.lemmas.List.Elements.{All-from_recursion, recursion_from_All}
use Rattle.std.specs.List.{AllByRecursion}
use Rattle.std.specs.Ordering.{match_ordering}
use Rattle.sqlite_keyed.specs.Keyed.{insert_by}
use Rattle.sqlite_keyed.proofs.KeyedLemmas.{Less-from_lt}
use Rattle.sqlite_keyed.proofs.ListLemmas.{all_weaker, all-append}
use Rattle.s3_found_rows.specs.Order.{IsFilled}

pub less_test : (a b : ℤ) → a <ℤ b → int_lt a b ≡ true
less_test a b less = grind (arith, ints)

below_later : (a last new : ℤ) → int_le a last ≡ true → int_lt last new ≡ true → int_le a new ≡ true
below_later a last new below later = grind (arith, ints)

below_less : (a last new : ℤ) → int_le a last ≡ true → int_lt last new ≡ true → a <ℤ new
below_less a last new below later = grind (arith, ints)

self_le : (a : ℤ) → int_le a a ≡ true
self_le a = grind (arith, ints)

module _ {X : Type 0} (key : X → ℤ) where
  put_last : (xs : List X) (new : X) (last : ℤ) → AllByRecursion (λ x. int_le (key x) last ≡ true) xs → int_lt last (key new) ≡ true → insert_by key xs new ≡ xs ++ new ∷ []
  put_last [] new last below later = refl
  put_last (x ∷ xs) new last below later =
      ap (λ o. match_ordering o (x ∷ insert_by key xs new) (new ∷ xs) (new ∷ x ∷ xs)) (Less-from_lt (key x) (key new) (below_less (key x) last (key new) below.0 later))
      ∙ ap (λ l. x ∷ l) (put_last xs new last below.1 later)

  module _ (fits : X → Bool) where
    -- a row above all others stands behind them
    pub insert_last : (xs : List X) (new : X) (last : ℤ) → IsFilled key last fits xs → int_lt last (key new) ≡ true → insert_by key xs new ≡ xs ++ new ∷ []
    insert_last xs new last filled later = put_last xs new last (recursion_from_All _ xs filled.reached) later

    pub filled_more : (xs : List X) (new : X) (last : ℤ) → IsFilled key last fits xs → int_lt last (key new) ≡ true → fits new ≡ true → IsFilled key (key new) fits (xs ++ new ∷ [])
    filled_more xs new last filled later fit = record {
      reached = All-from_recursion _ _
          (all-append (λ x. int_le (key x) (key new) ≡ true) xs (new ∷ [])
          (all_weaker (λ x. int_le (key x) last ≡ true) (λ x. int_le (key x) (key new) ≡ true) (λ x below. below_later (key x) last (key new) below later) xs (recursion_from_All _ xs filled.reached))
          (self_le (key new), tt));
      fit = All-from_recursion _ _ (all-append (λ x. fits x ≡ true) xs (new ∷ []) (recursion_from_All _ xs filled.fit) (fit, tt));
    }

    pub filled_none : (last : ℤ) (xs : List X) → xs ≡ [] → IsFilled key last fits xs
    filled_none last [] none = record { reached = All-from_recursion _ [] tt; fit = All-from_recursion _ [] tt }
    filled_none last (x ∷ xs) none = cc
