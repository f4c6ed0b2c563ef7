-- Lines, the words that they use, and the entries that they tell.
use Rattle.std.proofs.Common.{◌≡◌, ℕ, Bool, true, false, List, [], ◌∷◌, ◌++◌, refl, ap, sym, ◌∙◌, subst, Option, Some, None, inl, inr, ⊎_elim, ◌⊎◌, append_assoc}
use Rattle.std.proofs.lemmas.List.{append-nil}
use mathlib.Core.List.{IsPrefix}
use Rattle.logbook.specs.Pages.{Cell, cell}
use Rattle.s3_history.specs.declared.log.Line.{Line}
use Rattle.s3_history.specs.Log.{IsHome, first_key, before, told, key_after, AreHome}

module _ {E : Type 0} where
  -- lines keep their words at home where all words stay there
  pub homes_stay : (old new : List Cell) → ((key : ℕ) → IsHome old key → IsHome new key) → (key : ℕ) (lines : List (Line E)) → AreHome old key lines → AreHome new key lines
  homes_stay old new stay key [] homes = tt
  homes_stay old new stay key (line ∷ lines) homes = (stay key homes.0, homes_stay old new stay line.next lines homes.1)

  pub homes_push : (cells : List Cell) (key : ℕ) (lines : List (Line E)) (line : Line E) → AreHome cells key lines → IsHome cells (key_after key lines) → AreHome cells key (lines ++ line ∷ [])
  homes_push cells key [] line homes home = (home, tt)
  homes_push cells key (first ∷ lines) line homes home = (homes.0, homes_push cells first.next lines line homes.1 home)

  pub key_after-push : (key : ℕ) (lines : List (Line E)) (line : Line E) → key_after key (lines ++ line ∷ []) ≡ line.next
  key_after-push key [] line = refl
  key_after-push key (first ∷ lines) line = key_after-push first.next lines line

  -- behind lines that leave a key whose word is away, there is nothing
  pub nothing_behind : (cells : List Cell) (key : ℕ) (lines rest : List (Line E)) → AreHome cells key (lines ++ rest) → (cell cells (key_after key lines)).1 ≡ false → rest ≡ []
  nothing_behind cells key [] [] homes away = refl
  nothing_behind cells key [] (next ∷ rest) homes away = absurd (cc (homes.0, away))
  nothing_behind cells key (line ∷ lines) rest homes away = nothing_behind cells line.next lines rest homes.1 away

  -- so lines that begin all and leave such a key are all
  pub is_all : (cells : List Cell) (log lines : List (Line E)) → AreHome cells first_key log → (cell cells (key_after first_key lines)).1 ≡ false → IsPrefix lines log → lines ≡ log
  is_all cells log lines homes away begins =
      let none : begins.0 ≡ [] = nothing_behind cells first_key lines begins.0 (subst (AreHome cells first_key) (sym begins.1) homes) away in
      sym (append-nil lines) ∙ ap (λ rest. lines ++ rest) (sym none) ∙ begins.1

  before-append : (entry : Option E) (es fs : List E) → before entry (es ++ fs) ≡ before entry es ++ fs
  before-append None es fs = refl
  before-append (Some entry) es fs = refl

  pub told-append : (lines more : List (Line E)) → told (lines ++ more) ≡ told lines ++ told more
  told-append [] more = refl
  told-append (line ∷ lines) more = ap (before line.entry) (told-append lines more) ∙ before-append line.entry (told lines) (told more)

  pub told-prefix : (lines more : List (Line E)) → IsPrefix lines more → IsPrefix (told lines) (told more)
  told-prefix lines more begins = (told begins.0, sym (told-append lines begins.0) ∙ ap told begins.1)

pub prefix-trans : {A : Type 0} (xs ys zs : List A) → IsPrefix xs ys → IsPrefix ys zs → IsPrefix xs zs
prefix-trans xs ys zs p q = (p.0 ++ q.0, sym (append_assoc xs p.0 q.0) ∙ ap (λ begun. begun ++ q.0) p.1 ∙ q.1)

-- of two beginnings of one list one begins the other
pub prefix-either : {A : Type 0} (xs ys all : List A) → IsPrefix xs all → IsPrefix ys all → IsPrefix xs ys ⊎ IsPrefix ys xs
prefix-either [] ys all p q = inl (ys, refl)
prefix-either (x ∷ xs) [] all p q = inr (x ∷ xs, refl)
prefix-either (x ∷ xs) (y ∷ ys) [] p q = absurd (cc p.1)
prefix-either (x ∷ xs) (y ∷ ys) (z ∷ all) p q =
    let same : x ≡ y = cc (p.1, q.1) in
    ⊎_elim (λ r. inl (r.0, cc (same, r.1))) (λ r. inr (r.0, cc (same, r.1))) (prefix-either xs ys all (p.0, cc p.1) (q.0, cc q.1))
