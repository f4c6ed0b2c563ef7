-- What is at home stays there.
use Rattle.std.proofs.Common.{◌≡◌, ◌≢◌, ℕ, zero, suc, ◌<◌, ◌==◌, Bool, true, false, List, [], ◌∷◌, ◌++◌, length, refl, ap, sym, ◌∙◌, arith, slice_set}
use Rattle.std.proofs.lemmas.List.{get_or-set_same}
use Rattle.std.proofs.lemmas.Bool.Decides.{nat_tests}
use prog.Atomic.{either}
use Rattle.logbook.specs.Pages.{Cell, cell}
use Rattle.s3_history.specs.Log.{IsHome}

-- a key at home is that of a cell
pub home_inside : (cells : List Cell) (key : ℕ) → IsHome cells key → key < length cells
home_inside [] key home = absurd (cc home)
home_inside (c ∷ cells) zero home = omega arith
home_inside (c ∷ cells) (suc key) home = let inside = home_inside cells key home in omega (arith, inside)

-- a word stays at home where a cell is added, and where a word comes home
pub home_with_more : (cells more : List Cell) (key : ℕ) → IsHome cells key → IsHome (cells ++ more) key
home_with_more [] more key home = absurd (cc home)
home_with_more (c ∷ cells) more zero home = home
home_with_more (c ∷ cells) more (suc key) home = home_with_more cells more key home

pub home_with_set : (cells : List Cell) (at value key : ℕ) → IsHome cells key → IsHome (slice_set cells at (value, true)) key
home_with_set [] at value key home = absurd (cc home)
home_with_set (c ∷ cells) zero value zero home = refl
home_with_set (c ∷ cells) zero value (suc key) home = home
home_with_set (c ∷ cells) (suc at) value zero home = home
home_with_set (c ∷ cells) (suc at) value (suc key) home = home_with_set cells at value key home

pub home_here : (cells : List Cell) (at value : ℕ) → at < length cells → IsHome (slice_set cells at (value, true)) at
home_here cells at value inside = ap (λ (c : Cell). c.1) (get_or-set_same cells at (value, true) (0, false) inside)

-- the first cell is as it was where another is set, or one is added behind
pub first_with_set : (cells : List Cell) (at : ℕ) (d : Cell) → at ≢ 0 → cell (slice_set cells at d) 0 ≡ cell cells 0
first_with_set [] at d other = refl
first_with_set (c ∷ cells) zero d other = absurd (other refl)
first_with_set (c ∷ cells) (suc at) d other = refl

pub first_with_more : (cells more : List Cell) → 0 < length cells → cell (cells ++ more) 0 ≡ cell cells 0
first_with_more [] more some = absurd (omega (arith, some))
first_with_more (c ∷ cells) more some = refl

-- what a step that takes 0 to 1 leaves is not 0
changed_when : (n : ℕ) (b : Bool) → (n == 0) ≡ b → either (n == 0) 1 n ≢ 0
changed_when n true is none = absurd (omega (arith, sym (ap (λ t. either t 1 n) is) ∙ none))
changed_when n false is none =
    let zero_is : n ≡ 0 = sym (ap (λ t. either t 1 n) is) ∙ none in absurd (grind (arith, nat_tests, zero_is, is))

pub is_changed : (n : ℕ) → either (n == 0) 1 n ≢ 0
is_changed n = changed_when n (n == 0) refl

pub head_is_changed : (cells : List Cell) (n : ℕ) → 0 < length cells → (cell (slice_set cells 0 (either (n == 0) 1 n, true)) 0).0 ≢ 0
head_is_changed cells n some none =
    is_changed n (sym (ap (λ (c : Cell). c.0) (get_or-set_same cells 0 (either (n == 0) 1 n, true) (0, false) some)) ∙ none)
