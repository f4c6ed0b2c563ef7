-- How far a text goes on in the same way.
use Rattle.std.proofs.Common.{◌≡◌, refl, ℕ, Bool, true, not, List, [], ◌∷◌, ◌++◌, length, drop, one-add}
use Rattle.std.proofs.Math.Seq.{take-append_seam, drop-append_seam}
use Rattle.std.proofs.lemmas.Bool.{and_parts, not-true}
use Rattle.std.specs.List.{list_all, prefix_len, take_while}

-- nothing more of these stands at the front
abbrev pub stops : (ℕ → Bool) → List ℕ → Bool
stops p [] = true
stops p (y ∷ ys) = not (p y)

pub prefix_all : (p : ℕ → Bool) (xs ys : List ℕ) → list_all p xs ≡ true → stops p ys ≡ true → prefix_len p (xs ++ ys) ≡ length xs
prefix_all p [] [] all stop = refl
prefix_all p [] (y ∷ ys) all stop = rw (not-true (p y) stop)
prefix_all p (x ∷ xs) ys all stop =
    let both = and_parts (p x) (list_all p xs) all in
    rw (both.0, prefix_all p xs ys both.1 stop) (one-add (length xs))

pub taken_all : (p : ℕ → Bool) (xs ys : List ℕ) → list_all p xs ≡ true → stops p ys ≡ true → take_while p (xs ++ ys) ≡ xs
taken_all p xs ys all stop = rw (prefix_all p xs ys all stop) (take-append_seam xs ys)

pub left_all : (p : ℕ → Bool) (xs ys : List ℕ) → list_all p xs ≡ true → stops p ys ≡ true → drop (prefix_len p (xs ++ ys)) (xs ++ ys) ≡ ys
left_all p xs ys all stop = rw (prefix_all p xs ys all stop) (drop-append_seam xs ys)

-- what holds of each of these, and so does less
pub list_all-weaker : (p q : ℕ → Bool) (xs : List ℕ) → ((x : ℕ) → p x ≡ true → q x ≡ true) → list_all p xs ≡ true → list_all q xs ≡ true
list_all-weaker p q [] less all = refl
list_all-weaker p q (x ∷ xs) less all =
    let both = and_parts (p x) (list_all p xs) all in
    rw (less x both.0) (list_all-weaker p q xs less both.1)
