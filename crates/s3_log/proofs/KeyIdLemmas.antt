-- A line whose name is known by its length.
use Rattle.std.proofs.Common.{◌≡◌, ℕ, suc, ◌+◌, ◌<◌, ◌==◌, ◌&&◌, Bool, true, false, not, cond, List, [], ◌∷◌, ◌++◌, length, take, map, codes, ap, ap₂, refl, sym, ◌∙◌, arith}
use Rattle.std.specs.List.{IsSplitAt, list_all, position_or_len}
use Rattle.std.specs.Str.{bytes_eq, str_to_ascii_lowercase}
use Rattle.std.specs.Char.{to_ascii_lowercase}
use Rattle.std.proofs.lemmas.Bool.{eqb-true, false_from_ne_true}
use Rattle.std.proofs.lemmas.List.{length-map, length-take, take-append-drop}
use Rattle.std.proofs.lemmas.Slice.Eq.{bytes_eq-Decides}
use Rattle.s3_text.specs.Characters.{colon}
use Rattle.s3_log.specs.KeyId.{ends_name, is_authorization}
use Rattle.s3_log.specs.Request.{before}

-- whether what stands before the first colon of a line is this name, in lower case
abbrev named : List ℕ → List ℕ → Bool
named name line = bytes_eq (str_to_ascii_lowercase (before colon line)) name

abbrev is_other : ℕ → Bool
is_other byte = not (byte == colon)

next : (k : ℕ) → 1 + k ≡ suc k
next k = omega arith

-- the same by whether the line begins with a colon
none : (t : Bool) (b k : ℕ) (bs : List ℕ) → bytes_eq (map to_ascii_lowercase (take (cond (not t) (1 + k) 0) (b ∷ bs))) [] ≡ t
none true b k bs = refl
none false b k bs = ap (λ i. bytes_eq (map to_ascii_lowercase (take i (b ∷ bs))) []) (next k)

more : (t : Bool) (b k n : ℕ) (bs ns : List ℕ) → bytes_eq (map to_ascii_lowercase (take (cond (not t) (1 + k) 0) (b ∷ bs))) (n ∷ ns)
    ≡ not t && ((to_ascii_lowercase b == n) && bytes_eq (map to_ascii_lowercase (take k bs)) ns)
more true b k n bs ns = refl
more false b k n bs ns = ap (λ i. bytes_eq (map to_ascii_lowercase (take i (b ∷ bs))) (n ∷ ns)) (next k)

and_true : (x : Bool) → (x && true) ≡ x
and_true true = refl
and_true false = refl

swapped : (x y e r : Bool) → (y ≡ true → x ≡ true) → (x && (y && (e && r))) ≡ (e && (y && r))
swapped true true true r so = refl
swapped true true false r so = refl
swapped true false true r so = refl
swapped true false false r so = refl
swapped false true e r so = absurd (cc (so refl))
swapped false false true r so = refl
swapped false false false r so = refl

-- a byte that is one of a name, in lower case, is no colon
other : (t : Bool) (f n : ℕ) → (f == colon) ≡ t → is_other n ≡ true → (to_ascii_lowercase f == n) ≡ true → not t ≡ true
other false f n is others same = refl
other true f n is others same =
    let colons : colon ≡ n = ap to_ascii_lowercase (sym (eqb-true f colon is)) ∙ eqb-true _ n same in
    absurd (cc (others, colons))

-- a line that has the length of the name in front of the rest
at_length : (name front rest : List ℕ) → list_all is_other name ≡ true → length front ≡ length name
    → named name (front ++ rest) ≡ (ends_name rest && bytes_eq (str_to_ascii_lowercase front) name)
at_length [] [] [] are same = refl
at_length [] [] (b ∷ bs) are same = none (b == colon) b (position_or_len (λ x. x == colon) bs) bs ∙ sym (and_true (b == colon))
at_length [] (f ∷ fs) rest are same = absurd (omega (arith, same))
at_length (n ∷ ns) [] rest are same = absurd (omega (arith, same))
at_length (n ∷ ns) (f ∷ fs) rest are same =
    let all = parts (is_other n) (list_all is_other ns) are in
    let t = f == colon in
    let y = to_ascii_lowercase f == n in
    more t f (position_or_len (λ x. x == colon) (fs ++ rest)) n (fs ++ rest) ns
    ∙ ap (λ r. not t && (y && r)) (at_length ns fs rest all.1 (omega (arith, same)))
    ∙ swapped (not t) y (ends_name rest) (bytes_eq (str_to_ascii_lowercase fs) ns) (other t f n refl all.0)
  where
    parts : (x y : Bool) → (x && y) ≡ true → (x ≡ true) × (y ≡ true)
    parts true true is = (refl, refl)
    parts true false is = absurd (cc is)
    parts false y is = absurd (cc is)

at_split : (line front rest : List ℕ) → IsSplitAt line 13 front rest
    → (ends_name rest && bytes_eq (str_to_ascii_lowercase front) (codes "authorization")) ≡ is_authorization line
at_split line front rest split =
    let whole : line ≡ front ++ rest = sym (ap₂ (λ (a b : List ℕ). a ++ b) split.1 split.2 ∙ take-append-drop 13 line) in
    sym (ap is_authorization whole ∙ at_length (codes "authorization") front rest refl split.3)

-- one whose name may end there, and one whose name goes on
pub may_end : (line front rest : List ℕ) (is : Bool) → IsSplitAt line 13 front rest → true ≡ ends_name rest
    → is ≡ bytes_eq (str_to_ascii_lowercase front) (codes "authorization") → is ≡ is_authorization line
may_end line front rest is split ends same =
    let test = bytes_eq (str_to_ascii_lowercase front) (codes "authorization") in
    same ∙ ap (λ t. t && test) ends ∙ at_split line front rest split

pub goes_on : (line front rest : List ℕ) (is : Bool) → IsSplitAt line 13 front rest → false ≡ ends_name rest
    → is ≡ false → is ≡ is_authorization line
goes_on line front rest is split ends no_end =
    let test = bytes_eq (str_to_ascii_lowercase front) (codes "authorization") in
    no_end ∙ ap (λ t. t && test) ends ∙ at_split line front rest split

-- and a shorter one
pub too_short : (line : List ℕ) → length line < 13 → false ≡ is_authorization line
too_short line short =
    sym (false_from_ne_true (is_authorization line) (λ is.
    let same = ap length ((bytes_eq-Decides (str_to_ascii_lowercase (before colon line)) (codes "authorization")).0 is) in
    absurd (omega (arith, same, short, length-map (before colon line) to_ascii_lowercase, length-take (position_or_len (λ x. x == colon) line) line))))
