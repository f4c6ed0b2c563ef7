-- Lists that are cut at a length.
use Rattle.std.proofs.Common.{◌≡◌, ◌≢◌, refl, sym, ap, subst, ◌∙◌, Bool, true, false, cond, nat_lt, Some, None, ℕ, zero, suc, ◌+◌, ◌-◌, ◌<◌, ◌≤◌, List, [], ◌∷◌, ◌++◌, length, take, drop, get_or, map, append_assoc, arith}
use Rattle.std.proofs.Math.Seq.{take-append-add}
use Rattle.std.proofs.Math.ListN.{drop_of_length-le}
use Rattle.std.proofs.lemmas.Bool.{ltb-false}
use Rattle.std.proofs.lemmas.List.{take_all, take_more, take-map, map_push, length-drop, length-take, length_push}
use Rattle.std.proofs.lemmas.Option.{none-some, same_Some}
use Rattle.std.specs.List.{position, position_or_len, after_first, flat_map}

pub cons-some : {A : Type 0} (x : A) (xs : List A) → (x ∷ xs) ≢ []
cons-some x xs is = cc

-- a list that was cut, and is cut again with more behind it
pub cut_again : {A : Type 0} (n : ℕ) (xs ys : List A) → take n (take n xs ++ ys) ≡ take n (xs ++ ys)
cut_again zero xs ys = refl
cut_again (suc n) [] ys = refl
cut_again (suc n) (x ∷ xs) ys = ap (λ zs. x ∷ zs) (cut_again n xs ys)

-- what is behind a list is cut to the room that is left
pub cut_behind : {A : Type 0} (n : ℕ) (xs ys : List A) → length xs ≤ n → take n (xs ++ ys) ≡ xs ++ take (n - length xs) ys
cut_behind n xs ys fits =
    let room : length xs + (n - length xs) ≡ n = omega arith in
    ap (λ m. take m (xs ++ ys)) (sym room) ∙ take-append-add xs ys (n - length xs)

-- where something is left of a list, something is left with more behind it
pub cut_some : {A : Type 0} (n : ℕ) (xs ys : List A) → take n xs ≢ [] → take n (xs ++ ys) ≢ []
cut_some zero xs ys some = absurd (some refl)
cut_some (suc n) [] ys some = absurd (some refl)
cut_some (suc n) (x ∷ xs) ys some = cons-some x (take n (xs ++ ys))

-- and where there is room for something
pub cut_room : {A : Type 0} (n : ℕ) (xs : List A) → 0 < n → xs ≢ [] → take n xs ≢ []
cut_room zero xs room some = absurd (omega arith)
cut_room (suc n) [] room some = absurd (some refl)
cut_room (suc n) (x ∷ xs) room some = cons-some x (take n xs)

pub cut_mapped : {A C : Type 0} (f : A → C) (m n : ℕ) (xs : List A) → m ≤ n → take m xs ≢ [] → take n (map f xs) ≢ []
cut_mapped f zero n xs fits some = absurd (some refl)
cut_mapped f (suc m) n [] fits some = absurd (some refl)
cut_mapped f (suc m) zero (x ∷ xs) fits some = absurd (omega arith)
cut_mapped f (suc m) (suc n) (x ∷ xs) fits some = cons-some (f x) (take n (map f xs))

pub some_behind : {A : Type 0} (xs ys : List A) → ys ≢ [] → xs ++ ys ≢ []
some_behind [] ys some = some
some_behind (x ∷ xs) ys some = cons-some x (xs ++ ys)

pub some_before : {A : Type 0} (xs ys : List A) → xs ≢ [] → xs ++ ys ≢ []
some_before [] ys some = absurd (some refl)
some_before (x ∷ xs) ys some = cons-some x (xs ++ ys)

-- what the items of a list so far give, with what one more gives
pub mapped_more : {A C : Type 0} (f : A → C) (front before after : List C) (xs : List A) (i : ℕ) (x : A) → i < length xs → x ≡ get_or xs i x
    → before ≡ front ++ map f (take i xs) → after ≡ before ++ f x ∷ [] → after ≡ front ++ map f (take (i + 1) xs)
mapped_more f front before after xs i x within is had more =
    more ∙ ap (λ zs. zs ++ f x ∷ []) had ∙ ap (λ y. (front ++ map f (take i xs)) ++ f y ∷ []) is
    ∙ append_assoc front (map f (take i xs)) (f (get_or xs i x) ∷ [])
    ∙ ap (λ ys. front ++ ys) (sym (map_push f (take i xs) (get_or xs i x)) ∙ ap (map f) (sym (take_more xs i x within)))

-- what stands behind the first place that passes
one_past : (n k : ℕ) → n ≤ k → n ≤ k + 1
one_past n k fits = omega arith

pub behind_none : {A : Type 0} (p : A → Bool) (xs : List A) → position p xs ≡ None → after_first p xs ≡ []
behind_none p xs none =
    elim (nat_lt (position_or_len p xs) (length xs)) as (λ b. nat_lt (position_or_len p xs) (length xs) ≡ b → cond b (Some (position_or_len p xs)) None ≡ None → after_first p xs ≡ []) [
      | true ↦ λ is some. absurd (none-some _ (sym some))
      | false ↦ λ is same. drop_of_length-le xs {i = position_or_len p xs + 1} (one_past _ _ (ltb-false _ _ is))
    ] refl none

pub behind_some : {A : Type 0} (p : A → Bool) (xs : List A) (k : ℕ) → position p xs ≡ Some k → take (length xs - (k + 1)) (drop (k + 1) xs) ≡ after_first p xs
behind_some p xs k some =
    let all : length (drop (k + 1) xs) ≤ length xs - (k + 1) = subst (λ n. n ≤ length xs - (k + 1)) (sym (length-drop (k + 1) xs)) (omega arith) in
    take_all (length xs - (k + 1)) (drop (k + 1) xs) all
    ∙ elim (nat_lt (position_or_len p xs) (length xs)) as (λ b. cond b (Some (position_or_len p xs)) None ≡ Some k → drop (k + 1) xs ≡ after_first p xs) [
      | true ↦ λ is. ap (λ n. drop (n + 1) xs) (sym (same_Some _ _ is))
      | false ↦ λ is. absurd (none-some _ is)
    ] some

-- the items of a part of a list, behind what is there, where there is room for so many
pub cut_mapped_behind : {A C : Type 0} (f : A → C) (n k : ℕ) (xs : List C) (ys zs : List A) → k ≡ length xs → length xs ≤ n → zs ≡ take (n - k) ys → xs ++ map f zs ≡ take n (xs ++ map f ys)
cut_mapped_behind f n k xs ys zs room fits is =
    ap (λ zs. xs ++ map f zs) is ∙ ap (λ k. xs ++ map f (take (n - k) ys)) room
    ∙ ap (λ zs. xs ++ zs) (sym (take-map f (n - length xs) ys)) ∙ sym (cut_behind n xs (map f ys) fits)

less_room : (n k : ℕ) → n - k ≤ n
less_room n k = omega arith

pub cut_mapped_some : {A C : Type 0} (f : A → C) (n k : ℕ) (ys zs : List A) → zs ≡ take (n - k) ys → zs ≢ [] → take n (map f ys) ≢ []
cut_mapped_some f n k ys zs is some = cut_mapped f (n - k) n ys (less_room n k) (λ none. some (is ∙ none))

-- a loop that adds the items of one element after the other, until there are so many
pub next_added : {A C : Type 0} (f : A → List C) (n : ℕ) (have now all : List C) (x : A) (xs ys : List A) → take n (have ++ flat_map f xs) ≡ take n all → xs ≡ x ∷ ys → now ≡ take n (have ++ f x) → take n (now ++ flat_map f ys) ≡ take n all
next_added f n have now all x xs ys before is adds =
    ap (λ now. take n (now ++ flat_map f ys)) adds ∙ cut_again n (have ++ f x) (flat_map f ys)
    ∙ ap (take n) (append_assoc have (f x) (flat_map f ys)) ∙ ap (λ xs. take n (have ++ flat_map f xs)) (sym is) ∙ before

pub next_some : {A C : Type 0} (f : A → List C) (n : ℕ) (have all : List C) (x : A) (xs ys : List A) → take n (have ++ flat_map f xs) ≡ take n all → xs ≡ x ∷ ys → length have < n → f x ≢ [] → take n all ≢ []
next_some f n have all x xs ys before is room some none =
    cut_room n (have ++ flat_map f (x ∷ ys)) (omega arith) (some_behind have _ (some_before (f x) (flat_map f ys) some))
    (ap (λ xs. take n (have ++ flat_map f xs)) (sym is) ∙ before ∙ none)

-- or of one row for each
pub row_left : {A C : Type 0} (f : A → C) (n : ℕ) (have all : List C) (x : A) (xs ys : List A) → have ++ map f xs ≡ all → xs ≡ x ∷ ys → length have < n → take n all ≢ []
row_left f n have all x xs ys before is room none =
    cut_room n (have ++ map f (x ∷ ys)) (omega arith) (some_behind have _ (cons-some (f x) (map f ys)))
    (ap (λ xs. take n (have ++ map f xs)) (sym is) ∙ ap (take n) before ∙ none)

pub row_added : {A C : Type 0} (f : A → C) (have now all : List C) (x : A) (xs ys : List A) → have ++ map f xs ≡ all → xs ≡ x ∷ ys → now ≡ have ++ f x ∷ [] → now ++ map f ys ≡ all
row_added f have now all x xs ys before is adds =
    ap (λ now. now ++ map f ys) adds ∙ append_assoc have (f x ∷ []) (map f ys) ∙ ap (λ xs. have ++ map f xs) (sym is) ∙ before

pub one_fits : {A : Type 0} (n : ℕ) (have now : List A) (x : A) → length have < n → now ≡ have ++ x ∷ [] → length now ≤ n
one_fits n have now x room adds = subst (λ k. k ≤ n) (sym (ap length adds ∙ length_push have x)) (omega arith)

-- one more behind a list that was left as it was
pub one_behind : {A : Type 0} (have left now : List A) (x : A) → left ≡ have → now ≡ left ++ x ∷ [] → now ≡ have ++ x ∷ []
one_behind have left now x is adds = adds ∙ ap (λ xs. xs ++ x ∷ []) is

pub more_behind : {A : Type 0} (n : ℕ) (have now : List A) (x : A) (xs : List A) → now ≡ have ++ x ∷ [] → take n (now ++ xs) ≡ take n (have ++ x ∷ xs)
more_behind n have now x xs adds = ap (λ now. take n (now ++ xs)) adds ∙ ap (take n) (append_assoc have (x ∷ []) xs)

pub one_left : {A C : Type 0} (f : A → C) (have all : List C) (x : A) (xs ys : List A) → have ++ map f xs ≡ all → xs ≡ x ∷ ys → all ≢ []
one_left f have all x xs ys before is none =
    some_behind have (f x ∷ map f ys) (cons-some (f x) (map f ys)) (ap (λ xs. have ++ map f xs) (sym is) ∙ before ∙ none)

pub cut_fits : {A : Type 0} (n : ℕ) (xs ys : List A) → ys ≡ take n xs → length ys ≤ n
cut_fits n xs ys is = subst (λ k. k ≤ n) (sym (ap length is ∙ length-take n xs)) (omega arith)

-- where nothing is there yet
pub cut_first : {A : Type 0} (n : ℕ) (have xs ys : List A) → have ≡ [] → xs ≡ ys → take n (have ++ xs) ≡ take n ys
cut_first n have xs ys none is = ap (λ have. take n (have ++ xs)) none ∙ ap (take n) is

-- and behind what was cut
pub cut_then : {A : Type 0} (n : ℕ) (have xs ys zs : List A) → have ≡ take n xs → ys ≡ zs → take n (have ++ ys) ≡ take n (xs ++ zs)
cut_then n have xs ys zs cut is = ap (λ have. take n (have ++ ys)) cut ∙ cut_again n xs ys ∙ ap (λ ys. take n (xs ++ ys)) is

-- where some is told, some of all is
pub next_told : {A C : Type 0} (f : A → List C) (n : ℕ) (have all : List C) (x : A) (xs ys : List A) → take n (have ++ flat_map f xs) ≡ take n all → xs ≡ x ∷ ys → take n (have ++ f x) ≢ [] → take n all ≢ []
next_told f n have all x xs ys before is some none =
    cut_some n (have ++ f x) (flat_map f ys) some
    (ap (take n) (append_assoc have (f x) (flat_map f ys)) ∙ ap (λ xs. take n (have ++ flat_map f xs)) (sym is) ∙ before ∙ none)
