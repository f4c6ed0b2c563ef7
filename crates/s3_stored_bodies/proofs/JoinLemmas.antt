-- Bodies one behind another.
use Rattle.std.proofs.Common.{◌≡◌, refl, ap, sym, ◌∙◌, ℕ, List, [], ◌∷◌, ◌++◌, ◌+◌, ◌<◌, length, take, get_or}
use Rattle.std.proofs.lemmas.Grind.{flat_map-append}
use Rattle.std.proofs.lemmas.List.{take_more}
use Rattle.std.proofs.lemmas.List.Folds.{concat-append}
use Rattle.std.proofs.Common.{map as each}
use Rattle.std.specs.List.{concat, flat_map}

-- the bytes of each, joined
pub concat-each : (f : ℕ → List ℕ) (xs : List ℕ) → concat (each f xs) ≡ flat_map f xs
concat-each f [] = refl
concat-each f (x ∷ xs) = ap (λ rest. f x ++ rest) (concat-each f xs)

-- one more behind the others
pub joined_push : {X : Type 0} (shows : X → List ℕ) (lent : List X) (more : X) (parts : List (List ℕ)) (i : ℕ) (part : List ℕ) → i < length parts → part ≡ get_or parts i part
    → flat_map shows lent ≡ concat (take i parts) → shows more ≡ part → flat_map shows (lent ++ more ∷ []) ≡ concat (take (i + 1) parts)
joined_push shows lent more parts i part inside is so_far shown =
    flat_map-append shows lent (more ∷ [])
    ∙ ap (λ front. front ++ (shows more ++ [])) so_far
    ∙ ap (λ last. concat (take i parts) ++ (last ++ [])) (shown ∙ is)
    ∙ sym (concat-append (take i parts) (get_or parts i part ∷ []))
    ∙ ap concat (sym (take_more parts i part inside))
