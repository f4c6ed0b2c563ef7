-- Rows that are put behind the ones that stand, one after another.
use Rattle.std.proofs.Common.{◌≡◌, refl, sym, ap, ◌∙◌, flat_map, reverse, ℤ, Bool, List, [], ◌∷◌, ◌++◌, append_assoc, append-nil, map, length, arith}
use Rattle.std.proofs.lemmas.Grind.{common_steps}
use Rattle.std.proofs.lemmas.List.{reverse-reverse}
use Rattle.s3_found_rows.specs.Order.{IsFilled}
use Rattle.s3_found_rows.proofs.LastLemmas.{filled_none}

-- the last of several rows, taken from their end, is the first of them from the other one
pub popped : {A X : Type 0} (f : A → X) (xs ys : List A) (a : A) → xs ≡ ys ++ a ∷ [] → map f (reverse xs) ≡ f a ∷ map f (reverse ys)
popped f xs ys a is = grind (arith, common_steps)

pub none_left : {A X : Type 0} (f : A → X) (xs : List A) → length xs ≡ 0 → map f (reverse xs) ≡ []
none_left f [] none = refl
none_left f (x ∷ xs) none = absurd (omega (arith, none))

module _ {X : Type 0} (key : X → ℤ) (fits : X → Bool) where
  -- of the rows that were found these are left, and the others stand
  pub record IsAlong (found : List X) (last : ℤ) (now left : List X) : Type 0 where
    pub so_far : now ++ left ≡ found
    pub filled : IsFilled key last fits now

  pub along_start : (found : List X) (last : ℤ) (now left : List X) → now ≡ [] → left ≡ found → IsAlong found last now left
  along_start found last now left none is = record { so_far = ap (λ l. l ++ left) none ∙ is; filled = filled_none key fits last now none }

  pub along_step : (found : List X) (last : ℤ) (now left : List X) (x : X) (more rest : List X) → IsAlong found last now left
      → left ≡ x ∷ rest → more ≡ now ++ x ∷ [] → IsFilled key (key x) fits (now ++ x ∷ []) → IsAlong found (key x) more rest
  along_step found last now left x more rest along is put filled = record {
    so_far = ap (λ l. l ++ rest) put ∙ append_assoc now (x ∷ []) rest ∙ ap (λ l. now ++ l) (sym is) ∙ along.so_far;
    filled = rw put filled;
  }

  pub along_end : (found : List X) (last : ℤ) (now left : List X) → IsAlong found last now left → left ≡ [] → now ≡ found
  along_end found last now left along none = sym (append-nil now) ∙ ap (λ l. now ++ l) (sym none) ∙ along.so_far

-- what rows name, one row after another
pub named_step : {X Y : Type 0} (names : X → List Y) (start now more : List Y) (page left rest : List X) (x : X) → now ++ flat_map names left ≡ start ++ flat_map names page
    → left ≡ x ∷ rest → more ≡ now ++ names x → more ++ flat_map names rest ≡ start ++ flat_map names page
named_step names start now more page left rest x along is put =
    ap (λ l. l ++ flat_map names rest) put ∙ append_assoc now (names x) (flat_map names rest) ∙ ap (λ l. now ++ flat_map names l) (sym is) ∙ along

pub named_end : {X Y : Type 0} (names : X → List Y) (start now : List Y) (page left : List X) → now ++ flat_map names left ≡ start ++ flat_map names page → left ≡ [] → now ≡ start ++ flat_map names page
named_end names start now page left along none = sym (append-nil now) ∙ ap (λ l. now ++ flat_map names l) (sym none) ∙ along

pub mapped_step : {X Y : Type 0} (f : X → Y) (start now more : List Y) (page left rest : List X) (x : X) → now ++ map f left ≡ start ++ map f page
    → left ≡ x ∷ rest → more ≡ now ++ f x ∷ [] → more ++ map f rest ≡ start ++ map f page
mapped_step f start now more page left rest x along is put =
    ap (λ l. l ++ map f rest) put ∙ append_assoc now (f x ∷ []) (map f rest) ∙ ap (λ l. now ++ map f l) (sym is) ∙ along

pub mapped_end : {X Y : Type 0} (f : X → Y) (start now : List Y) (page left : List X) → now ++ map f left ≡ start ++ map f page → left ≡ [] → now ≡ start ++ map f page
mapped_end f start now page left along none = sym (append-nil now) ∙ ap (λ l. now ++ map f l) (sym none) ∙ along

pub unreversed : {A X : Type 0} (f : A → X) (xs ys : List A) → ys ≡ reverse xs → map f (reverse ys) ≡ map f xs
unreversed f xs ys is = ap (λ l. map f (reverse l)) is ∙ ap (map f) (reverse-reverse xs)
