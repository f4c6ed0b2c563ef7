-- The end of a head text: what a scan byte by byte knows of it, and that what was found stays found.
use Rattle.std.proofs.Common.{◌≡◌, ◌≢◌, ℕ, zero, suc, ◌+◌, ◌-◌, ◌≤◌, ◌<◌, ◌⊎◌, inl, inr, true, false, List, [], ◌∷◌, ◌++◌, take, drop, length, Option, Some, None, get_or, eqb, refl, sym, ap, ◌∙◌, arith, subst}
use Rattle.std.specs.Prelude.{option_map, nat_eq}
use Rattle.std.specs.List.{starts_with}
use Rattle.std.proofs.lemmas.Bool.{cases_eq, and_parts, false≢true}
use Rattle.std.proofs.lemmas.List.{take_rest, drop-drop, drop_more, drop_all, length-take, length-drop}
use Rattle.std.proofs.lemmas.Bool.Decides.{nat_tests}
use Rattle.s3_http_heads.specs.Scan.{after_byte}
use Rattle.s3_http_heads.specs.Find.{skip_pairs, text_length, head_end}

-- ---- the scan

-- more bytes before it
abbrev pub longer_by : ℕ → Option ℕ → Option ℕ
longer_by k None = None
longer_by k (Some n) = Some (k + n)

pub longer_by-suc : (k : ℕ) (o : Option ℕ) → longer_by k (option_map suc o) ≡ longer_by (k + 1) o
longer_by-suc k None = refl
longer_by-suc k (Some n) = ap Some (omega arith)

-- no empty line begins here
text_length-skip : (b : ℕ) (rest : List ℕ) → starts_with nat_eq (b ∷ rest) head_end ≡ false
    → (k : ℕ) → longer_by k (text_length (b ∷ rest)) ≡ longer_by (k + 1) (text_length rest)
unfolding text_length
text_length-skip b rest none k = rw none (longer_by-suc k (text_length rest))

-- a byte that is no CR begins no empty line
other : (b : ℕ) (rest : List ℕ) → b ≢ 13
    → (k : ℕ) → longer_by k (text_length (b ∷ rest)) ≡ longer_by (k + 1) (text_length rest)
other b rest apart = text_length-skip b rest (grind (arith, nat_tests))

other_second : (b : ℕ) (rest : List ℕ) → b ≢ 10
    → (k : ℕ) → longer_by k (text_length (13 ∷ b ∷ rest)) ≡ longer_by (k + 1) (text_length (b ∷ rest))
other_second b rest apart = text_length-skip 13 (b ∷ rest) (grind (arith, nat_tests))

other_third : (b : ℕ) (rest : List ℕ) → b ≢ 13
    → (k : ℕ) → longer_by k (text_length (13 ∷ 10 ∷ b ∷ rest)) ≡ longer_by (k + 3) (text_length rest)
other_third b rest apart k =
    text_length-skip 13 (10 ∷ b ∷ rest) (grind (arith, nat_tests)) k
    ∙ other 10 (b ∷ rest) (omega arith) (k + 1)
    ∙ other b rest apart (k + 1 + 1)
    ∙ ap (λ n. longer_by n (text_length rest)) (omega arith)

other_fourth : (b : ℕ) (rest : List ℕ) → b ≢ 10
    → (k : ℕ) → longer_by k (text_length (13 ∷ 10 ∷ 13 ∷ b ∷ rest)) ≡ longer_by (k + 3) (text_length (b ∷ rest))
other_fourth b rest apart k =
    text_length-skip 13 (10 ∷ 13 ∷ b ∷ rest) (grind (arith, nat_tests)) k
    ∙ other 10 (13 ∷ b ∷ rest) (omega arith) (k + 1)
    ∙ other_second b rest apart (k + 1 + 1)
    ∙ ap (λ n. longer_by n (text_length (b ∷ rest))) (omega arith)

-- a byte that is CR, LF or another one
byte_cases : (b : ℕ) → (b ≡ 13) ⊎ ((b ≡ 10) ⊎ ((b ≢ 13) × (b ≢ 10)))
byte_cases b =
    elim (cases_eq b 13) [ inl e ↦ inl e | inr n ↦ elim (cases_eq b 10) [ inl e ↦ inr (inl e) | inr m ↦ inr (inr (n, m)) ] ]

-- how a scan stands after i bytes of which the last m begin an empty line: what is left gives the length
abbrev pub Stands : List ℕ → ℕ → ℕ → List ℕ → Type 0
Stands text i m rest =
    (m ≤ 3) × (m ≤ i) × (text_length text ≡ longer_by (i - m) (text_length (take m head_end ++ rest)))

-- what one byte more leaves, where j is what is matched then
abbrev pub GoesOn : List ℕ → ℕ → ℕ → List ℕ → Type 0
GoesOn text i j rest =
    ((j ≡ 4) × (text_length text ≡ Some (i + 1))) ⊎ ((j ≢ 4) × Stands text (i + 1) j rest)

on : (text : List ℕ) (i j : ℕ) (rest : List ℕ) → j ≤ 3 → j ≤ i + 1
    → text_length text ≡ longer_by (i + 1 - j) (text_length (take j head_end ++ rest)) → GoesOn text i j rest
on text i j rest few within is = inr (omega arith, (few, within, is))

more_cr : (text : List ℕ) (i m : ℕ) (rest : List ℕ) → Stands text i m (13 ∷ rest) → GoesOn text i (after_byte m 13) rest
more_cr text i zero rest s =
    on text i 1 rest (omega arith) (omega arith)
    (s.2 ∙ ap (λ n. longer_by n (text_length (13 ∷ rest))) (omega arith))
more_cr text i (suc zero) rest s =
    on text i 1 rest (omega arith) (omega arith)
    (s.2 ∙ other_second 13 rest (omega arith) (i - 1) ∙ ap (λ n. longer_by n (text_length (13 ∷ rest))) (omega (arith, s.1)))
more_cr text i (suc (suc zero)) rest s =
    on text i 3 rest (omega arith) (omega (arith, s.1))
    (s.2 ∙ ap (λ n. longer_by n (text_length (13 ∷ 10 ∷ 13 ∷ rest))) (omega (arith, s.1)))
more_cr text i (suc (suc (suc zero))) rest s =
    on text i 1 rest (omega arith) (omega arith)
    (s.2 ∙ other_fourth 13 rest (omega arith) (i - 3) ∙ ap (λ n. longer_by n (text_length (13 ∷ rest))) (omega (arith, s.1)))
more_cr text i (suc (suc (suc (suc m)))) rest s = absurd (omega (arith, s.0))

more_lf : (text : List ℕ) (i m : ℕ) (rest : List ℕ) → Stands text i m (10 ∷ rest) → GoesOn text i (after_byte m 10) rest
unfolding text_length
more_lf text i zero rest s =
    on text i 0 rest (omega arith) (omega arith)
    (s.2 ∙ other 10 rest (omega arith) (i - 0) ∙ ap (λ n. longer_by n (text_length rest)) (omega arith))
more_lf text i (suc zero) rest s =
    on text i 2 rest (omega arith) (omega (arith, s.1))
    (s.2 ∙ ap (λ n. longer_by n (text_length (13 ∷ 10 ∷ rest))) (omega (arith, s.1)))
more_lf text i (suc (suc zero)) rest s =
    on text i 0 rest (omega arith) (omega arith)
    (s.2 ∙ other_third 10 rest (omega arith) (i - 2) ∙ ap (λ n. longer_by n (text_length rest)) (omega (arith, s.1)))
more_lf text i (suc (suc (suc zero))) rest s = inl (refl, s.2 ∙ ap Some (omega (arith, s.1)))
more_lf text i (suc (suc (suc (suc m)))) rest s = absurd (omega (arith, s.0))

more_other : (text : List ℕ) (i m b : ℕ) (rest : List ℕ) → (b ≢ 13) × (b ≢ 10) → Stands text i m (b ∷ rest) → GoesOn text i 0 rest
more_other text i zero b rest apart s =
    on text i 0 rest (omega arith) (omega arith)
    (s.2 ∙ other b rest apart.0 (i - 0) ∙ ap (λ n. longer_by n (text_length rest)) (omega arith))
more_other text i (suc zero) b rest apart s =
    on text i 0 rest (omega arith) (omega arith)
    (s.2 ∙ other_second b rest apart.1 (i - 1) ∙ other b rest apart.0 (i - 1 + 1) ∙ ap (λ n. longer_by n (text_length rest)) (omega (arith, s.1)))
more_other text i (suc (suc zero)) b rest apart s =
    on text i 0 rest (omega arith) (omega arith)
    (s.2 ∙ other_third b rest apart.0 (i - 2) ∙ ap (λ n. longer_by n (text_length rest)) (omega (arith, s.1)))
more_other text i (suc (suc (suc zero))) b rest apart s =
    on text i 0 rest (omega arith) (omega arith)
    (s.2 ∙ other_fourth b rest apart.1 (i - 3) ∙ other b rest apart.0 (i - 3 + 3) ∙ ap (λ n. longer_by n (text_length rest)) (omega (arith, s.1)))
more_other text i (suc (suc (suc (suc m)))) b rest apart s = absurd (omega (arith, s.0))

after_other : (m b : ℕ) → b ≢ 13 → b ≢ 10 → 0 ≡ after_byte m b
after_other m b cr lf = grind (arith, nat_tests)

-- one byte on
pub Stands_more : (text : List ℕ) (i m b : ℕ) (rest : List ℕ) → Stands text i m (b ∷ rest)
    → GoesOn text i (after_byte m b) rest
Stands_more text i m b rest s = elim (byte_cases b) [
  | inl e ↦ subst (λ v. Stands text i m (v ∷ rest) → GoesOn text i (after_byte m v) rest) (sym e) (more_cr text i m rest) s
  | inr e ↦ elim e [
    | inl e ↦ subst (λ v. Stands text i m (v ∷ rest) → GoesOn text i (after_byte m v) rest) (sym e) (more_lf text i m rest) s
    | inr apart ↦
        subst (λ v. GoesOn text i v rest) (after_other m b apart.0 apart.1) (more_other text i m b rest apart s)
  ]
]

-- at the start, and where the text has ended
pub Stands_none : (text : List ℕ) → Stands text 0 0 text
Stands_none text = (omega arith, omega arith, same (text_length text))
  where
    same : (o : Option ℕ) → o ≡ longer_by 0 o
    same None = refl
    same (Some n) = ap Some (omega arith)

pub Stands_all : (text : List ℕ) (i m : ℕ) → Stands text i m [] → None ≡ text_length text
unfolding text_length
Stands_all text i zero s = sym s.2
Stands_all text i (suc zero) s = sym s.2
Stands_all text i (suc (suc zero)) s = sym s.2
Stands_all text i (suc (suc (suc zero))) s = sym s.2
Stands_all text i (suc (suc (suc (suc m)))) s = absurd (omega (arith, s.0))

-- the same where a loop stands at a place, j being what is matched after its byte
loop_more : (text : List ℕ) (i m : ℕ) → i < length text → Stands text i m (drop i text)
    → GoesOn text i (after_byte m (get_or text i 0)) (drop (i + 1) text)
loop_more text i m here s = Stands_more text i m (get_or text i 0) (drop (i + 1) text) (rw (drop_more text i 0 here) at s)

pub loop_found : (text : List ℕ) (i m j : ℕ) → i < length text → Stands text i m (drop i text)
    → j ≡ after_byte m (get_or text i 0) → j ≡ 4 → Some (i + 1) ≡ text_length text
loop_found text i m j here s next four = elim (loop_more text i m here s) [
  | inl done ↦ sym done.1
  | inr goes ↦ absurd (goes.0 (sym next ∙ four))
]

pub loop_goes_on : (text : List ℕ) (i m j : ℕ) → i < length text → Stands text i m (drop i text)
    → j ≡ after_byte m (get_or text i 0) → j ≢ 4 → Stands text (i + 1) j (drop (i + 1) text)
loop_goes_on text i m j here s next apart = elim (loop_more text i m here s) [
  | inl done ↦ absurd (apart (next ∙ done.0))
  | inr goes ↦ subst (λ n. Stands text (i + 1) n (drop (i + 1) text)) (sym next) goes.1
]

pub loop_ends : (text : List ℕ) (i m : ℕ) → length text ≤ i → Stands text i m (drop i text) → None ≡ text_length text
loop_ends text i m past s = Stands_all text i m (rw (drop_all i text past) at s)

-- ---- the skipped pairs

pub skip_pairs-pair : (s : List ℕ) → starts_with nat_eq s (13 ∷ 10 ∷ []) ≡ true → skip_pairs s ≡ skip_pairs (drop 2 s)
unfolding skip_pairs
skip_pairs-pair [] is = refl
skip_pairs-pair (b ∷ []) is = absurd (false≢true (and_parts (eqb 13 b) false is).1)
skip_pairs-pair (b ∷ c ∷ rest) is = grind (arith, nat_tests)

pub skip_pairs-other : (s : List ℕ) → starts_with nat_eq s (13 ∷ 10 ∷ []) ≡ false → skip_pairs s ≡ s
unfolding skip_pairs
skip_pairs-other [] none = refl
skip_pairs-other (b ∷ []) none = refl
skip_pairs-other (b ∷ c ∷ rest) none = grind (arith, nat_tests)

-- the same where a loop stands at a place
pub pairs_more : (s : List ℕ) (at : ℕ) → starts_with nat_eq (take (length s - at) (drop at s)) (13 ∷ 10 ∷ []) ≡ true
    → skip_pairs (drop (at + 2) s) ≡ skip_pairs (drop at s)
pairs_more s at is =
    sym (skip_pairs-pair (drop at s) (rw take_rest at is) ∙ ap skip_pairs (drop-drop 2 at s))

pub pairs_all : (s : List ℕ) (at : ℕ) → starts_with nat_eq (take (length s - at) (drop at s)) (13 ∷ 10 ∷ []) ≡ false
    → skip_pairs (drop at s) ≡ drop at s
pairs_all s at none = skip_pairs-other (drop at s) (rw take_rest at none)

pub pairs_fit : (s : List ℕ) (at : ℕ) → at ≤ length s → 2 ≤ length (take (length s - at) (drop at s)) → at + 2 ≤ length s
pairs_fit s at within two = omega (arith, two, length-take (length s - at) (drop at s), length-drop at s)
