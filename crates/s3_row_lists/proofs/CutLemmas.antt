-- What is cut, and what is told of it.
use Rattle.std.proofs.Common.{◌≡◌, refl, sym, ap, ◌∙◌, Bool, true, ℕ, zero, suc, ◌+◌, ◌-◌, ◌<◌, ◌≤◌, List, [], ◌∷◌, ◌++◌, filter, get_or, length, map, take, Ordering}
use Rattle.std.proofs.lemmas.List.{take_all, take-map}
use Rattle.std.specs.Cmp.{IsTotalOrder}
use Rattle.sqlite_keyed.specs.Lists.{sort_by}
use Rattle.sqlite_keyed.proofs.ListLemmas.{map-map, filter-filter}
use Rattle.s3_rows.proofs.SortedLemmas.{sort_by-filter}
use Rattle.s3_records.proofs.ListLemmas.{cut_again, cut_behind, cut_fits, mapped_more}

-- what is told of the rows that were found
pub told_cut : {A B C : Type 0} (f : B → C) (g : A → B) (n : ℕ) (xs : List A) (ys : List B) → map g xs ≡ take n ys → map (λ x. f (g x)) xs ≡ take n (map f ys)
told_cut f g n xs ys is = sym (map-map f g xs) ∙ ap (map f) is ∙ sym (take-map f n ys)

-- what was cut, with what is behind it cut to the room that is left
pub cut_both : {A : Type 0} (n : ℕ) (xs ys : List A) → take n xs ++ take (n - length (take n xs)) ys ≡ take n (xs ++ ys)
cut_both n xs ys = sym (cut_behind n (take n xs) ys (cut_fits n xs (take n xs) refl)) ∙ cut_again n xs ys

-- where nothing passes a test, nothing passes a narrower one
pub nothing_cut : {X : Type 0} (cmp : X → X → Ordering) → IsTotalOrder cmp → (p q : X → Bool) → ((x : X) → q x ≡ true → p x ≡ true) → (n : ℕ) (xs : List X) → take n (sort_by cmp (filter p xs)) ≡ [] → take n (sort_by cmp (filter q xs)) ≡ []
nothing_cut cmp total p q narrower zero xs none = refl
nothing_cut {X} cmp total p q narrower (suc n) xs none =
    ap (take (suc n))
    (ap (sort_by cmp) (sym (filter-filter q p narrower xs)) ∙ sort_by-filter cmp total q (filter p xs) ∙ ap (filter q) (nothing (sort_by cmp (filter p xs)) none))
  where
    nothing : (ys : List X) → take (suc n) ys ≡ [] → ys ≡ []
    nothing [] is = refl
    nothing (y ∷ ys) is = cc

pub cut_none : {X : Type 0} (n : ℕ) (xs : List X) → xs ≡ [] → take n xs ≡ []
cut_none zero xs none = refl
cut_none (suc n) xs none = ap (take (suc n)) none

-- one more row that is told
pub told_more : {A C : Type 0} (f : A → C) (before after : List C) (xs : List A) (i : ℕ) (x : A) (row : C) → i < length xs → x ≡ get_or xs i x
    → before ≡ map f (take i xs) → row ≡ f x → after ≡ before ++ row ∷ [] → after ≡ map f (take (i + 1) xs)
told_more f before after xs i x row within is had made more = mapped_more f [] before after xs i x within is had (more ∙ ap (λ r. before ++ r ∷ []) made)

pub told_all : {A C : Type 0} (f : A → C) (told : List C) (xs : List A) (i : ℕ) → length xs ≤ i → told ≡ map f (take i xs) → told ≡ map f xs
told_all f told xs i past had = had ∙ ap (map f) (take_all i xs past)

-- what is told of what was found
pub found_told : {A B C : Type 0} (f : B → C) (g : A → B) (limit n : ℕ) (found now : List A) (ys : List B) → limit ≡ n → now ≡ found → map g found ≡ take limit ys → map (λ x. f (g x)) now ≡ take n (map f ys)
found_told f g limit n found now ys same whole is =
    ap (map (λ x. f (g x))) whole ∙ told_cut f g limit found ys is ∙ ap (λ m. take m (map f ys)) same

-- what is told in two parts
pub both_told : {C : Type 0} (n : ℕ) (told now xs ys : List C) → told ≡ take n xs → now ≡ told ++ take (n - length told) ys → now ≡ take n (xs ++ ys)
both_told n told now xs ys one two =
    two ∙ ap (λ l. l ++ take (n - length l) ys) one ∙ cut_both n xs ys
