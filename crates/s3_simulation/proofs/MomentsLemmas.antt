-- The moments that a list hands out.
use Rattle.std.proofs.Common.{◌≡◌, ◌<◌, ◌≤◌, ℕ, zero, suc, ◌+◌, List, [], ◌∷◌, ◌++◌, length, drop, refl, sym, ap, subst, ◌∙◌, arith, append_assoc}
use mathlib.Core.List.{IsPrefix}
use Rattle.s3_simulation.specs.Moments.{HasHanded, behind, handed, next_of}

pub handed_next : (moments : List ℕ) (n : ℕ) → handed moments (suc n) ≡ next_of moments ∷ handed (behind moments) n
handed_next [] n = refl
handed_next (last ∷ []) n = refl
handed_next (moment ∷ next ∷ later) n = refl

-- one more
pub handed_one : (moments : List ℕ) (count : ℕ) (left : List ℕ) → HasHanded moments count left
    → HasHanded moments (count + 1) (behind left) × (handed moments (count + 1) ≡ handed moments count ++ next_of left ∷ [])
handed_one moments count left before =
    let one : handed moments (count + 1) ≡ handed moments count ++ next_of left ∷ [] =
    before (suc zero) ∙ ap (λ (ms : List ℕ). handed moments count ++ ms) (handed_next left zero) in (
      λ n.
          (let next : count + 1 + n ≡ count + suc n = omega arith in
          ap (handed moments) next ∙ before (suc n) ∙ ap (λ (ms : List ℕ). handed moments count ++ ms) (handed_next left n)
          ∙ sym (append_assoc (handed moments count) (next_of left ∷ []) (handed (behind left) n))
          ∙ ap (λ (ms : List ℕ). ms ++ handed (behind left) n) (sym one)),
      one,
    )

-- what a list has behind its first
pub behind_drop : (moments : List ℕ) → 1 < length moments → drop 1 moments ≡ behind moments
behind_drop [] more = absurd (omega arith)
behind_drop (last ∷ []) more = absurd (omega arith)
behind_drop (moment ∷ next ∷ later) more = refl

pub behind_same : (moments : List ℕ) → length moments ≤ 1 → moments ≡ behind moments
behind_same [] few = refl
behind_same (last ∷ []) few = refl
behind_same (moment ∷ next ∷ later) few = absurd (omega arith)

-- fewer are a beginning of more
pub begins : (a b : ℕ) (moments : List ℕ) → IsPrefix (handed moments a) (handed moments (a + b))
begins zero b moments = (handed moments (zero + b), refl)
begins (suc a) b moments =
    let rest = begins a b (behind moments) in
    let next : suc a + b ≡ suc (a + b) = omega arith in (
      rest.0,
      ap (λ (ms : List ℕ). ms ++ rest.0) (handed_next moments a) ∙ ap (λ (ms : List ℕ). next_of moments ∷ ms) rest.1
          ∙ sym (handed_next moments (a + b)) ∙ ap (handed moments) (sym next),
    )

pub begins_too : (a b : ℕ) (moments : List ℕ) → IsPrefix (handed moments b) (handed moments (a + b))
begins_too a b moments = subst (λ (n : ℕ). IsPrefix (handed moments b) (handed moments n)) (omega arith) (begins b a moments)

-- what the moments that a list hands out begin with are such
pub handed_front : (moments : List ℕ) (count : ℕ) (front more : List ℕ) → front ++ more ≡ handed moments count → front ≡ handed moments (length front)
handed_front moments count [] more is = refl
handed_front moments zero (x ∷ front) more is = absurd (cc)
handed_front moments (suc n) (x ∷ front) more is =
    let whole = is ∙ handed_next moments n in
    let first : x ≡ next_of moments = cc in
    let rest = handed_front (behind moments) n front more (cc) in
    ap (λ (m : ℕ). m ∷ front) first ∙ ap (λ (ms : List ℕ). next_of moments ∷ ms) rest ∙ sym (handed_next moments (length front))
