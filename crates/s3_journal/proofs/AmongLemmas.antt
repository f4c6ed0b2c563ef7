-- Lists that have some of the elements of others.
use Rattle.std.proofs.Common.{◌≡◌, ◌≤◌, List, [], ◌∷◌, ◌++◌, length, refl, ap, sym, ◌∙◌, subst, arith, inl, inr}
use Rattle.s3_journal.specs.SharedStore.{IsAmong}

module _ {A : Type 0} where
  pub none_among : (all : List A) → IsAmong [] all
  none_among [] = refl
  none_among (x ∷ all) = inl (none_among all)

  pub among_with_more : (some all more : List A) → IsAmong some all → IsAmong some (all ++ more)
  among_with_more some [] more among = subst (λ (xs : List A). IsAmong xs more) (sym among) (none_among more)
  among_with_more some (x ∷ all) more (inl among) = inl (among_with_more some all more among)
  among_with_more some (x ∷ all) more (inr among) = inr (among.0, among.1, among_with_more among.0 all more among.2)

  pub among_push : (some all : List A) (x : A) → IsAmong some all → IsAmong (some ++ x ∷ []) (all ++ x ∷ [])
  among_push some [] x among = inr ([], ap (λ (xs : List A). xs ++ x ∷ []) among, refl)
  among_push some (y ∷ all) x (inl among) = inl (among_push some all x among)
  among_push some (y ∷ all) x (inr among) =
      inr (among.0 ++ x ∷ [], ap (λ (xs : List A). xs ++ x ∷ []) among.1, among_push among.0 all x among.2)

  pub among_length : (some all : List A) → IsAmong some all → length some ≤ length all
  among_length some [] among = let none = ap length among in omega (arith, none)
  among_length some (x ∷ all) (inl among) = let fewer = among_length some all among in omega (arith, fewer)
  among_length some (x ∷ all) (inr among) = let fewer = among_length among.0 all among.2 in let one = ap length among.1 in omega (arith, fewer, one)

  -- where they are as many, they are all
  pub among_all : (some all : List A) → IsAmong some all → length all ≤ length some → all ≡ some
  among_all some [] among many = sym among
  among_all some (x ∷ all) (inl among) many = absurd (let fewer = among_length some all among in omega (arith, fewer, many))
  among_all some (x ∷ all) (inr among) many =
      let one = ap length among.1 in
      ap (λ (xs : List A). x ∷ xs) (among_all among.0 all among.2 (omega (arith, one, many))) ∙ sym among.1
