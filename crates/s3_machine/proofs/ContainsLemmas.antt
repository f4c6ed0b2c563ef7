-- What is in a list.
use Rattle.std.proofs.Common.{◌≡◌, ◌≢◌, refl, sym, ap, subst, ◌∙◌, arith, ◌⊎◌, ⊎_elim, inl, inr, zero, suc, List, [], ◌∷◌, Contains, Option, Some, None}
use Rattle.std.specs.List.{cons_option, filter_map}

-- nothing is in a list of nothing
pub nothing_in : {X : Type 0} (xs : List X) (x : X) → xs ≡ [] → ¬ Contains xs x
nothing_in [] x none (k, within, is) = omega arith
nothing_in (y ∷ ys) x none within = absurd (cc)

-- what is in a list is its first, or behind that
pub first_or_later : {X : Type 0} (y x : X) (ys : List X) → Contains (y ∷ ys) x → (y ≡ x) ⊎ Contains ys x
first_or_later y x ys (zero, within, is) = inl is
first_or_later y x ys (suc k, within, is) = inr (k, omega arith, is)

pub contains_first : {X : Type 0} (y x : X) (ys : List X) → y ≡ x → Contains (y ∷ ys) x
contains_first y x ys is = (0, omega arith, is)

pub contains_later : {X : Type 0} (y x : X) (ys : List X) → Contains ys x → Contains (y ∷ ys) x
contains_later y x ys (k, within, is) = (suc k, omega arith, is)

-- in a list of one thing that is, and nothing else
pub one_in : {X : Type 0} (xs : List X) (y x : X) → xs ≡ y ∷ [] → Contains xs x → y ≡ x
one_in {X} xs y x one within =
    ⊎_elim (λ is. is) (λ later. absurd (nothing_in [] x refl later))
    (first_or_later y x [] (subst (λ (all : List X). Contains all x) one within))

pub is_in : {X : Type 0} (xs : List X) (y x : X) → xs ≡ y ∷ [] → y ≡ x → Contains xs x
is_in {X} xs y x one same = subst (λ (all : List X). Contains all x) (sym one) (contains_first y x [] same)

-- a thing is in a list or not, where two are the same or not
pub contains_or : {X : Type 0} → ((x y : X) → (x ≡ y) ⊎ (x ≢ y)) → (xs : List X) (x : X) → Contains xs x ⊎ ¬ Contains xs x
contains_or same [] x = inr (nothing_in [] x refl)
contains_or same (y ∷ ys) x =
    elim (same y x) [
      | inl is ↦ inl (contains_first y x ys is)
      | inr other ↦
          elim (contains_or same ys x) [
            | inl later ↦ inl (contains_later y x ys later)
            | inr never ↦ inr (λ within. ⊎_elim other never (first_or_later y x ys within))
          ]
    ]

-- what is made of the elements
cons_contains : {Y : Type 0} (made : Option Y) (ys : List Y) (y : Y) → Contains ys y → Contains (cons_option made ys) y
cons_contains None ys y later = later
cons_contains (Some first) ys y later = contains_later first y ys later

cons_first : {Y : Type 0} (made : Option Y) (ys : List Y) (y : Y) → made ≡ Some y → Contains (cons_option made ys) y
cons_first None ys y is = absurd (cc)
cons_first (Some first) ys y is = contains_first first y ys (cc)

cons_cases : {Y : Type 0} (made : Option Y) (ys : List Y) (y : Y) → Contains (cons_option made ys) y → (made ≡ Some y) ⊎ Contains ys y
cons_cases None ys y within = inr within
cons_cases {Y} (Some first) ys y within = ⊎_elim (λ is. inl (ap (λ (z : Y). Some z) is)) (λ later. inr later) (first_or_later first y ys within)

pub contains_made : {X Y : Type 0} (h : X → Option Y) (xs : List X) (x : X) (y : Y) → Contains xs x → h x ≡ Some y
    → Contains (filter_map h xs) y
contains_made h [] x y within is = absurd (nothing_in [] x refl within)
contains_made h (z ∷ zs) x y within is =
    elim (first_or_later z x zs within) [
      | inl same ↦ cons_first (h z) (filter_map h zs) y (ap h same ∙ is)
      | inr later ↦ cons_contains (h z) (filter_map h zs) y (contains_made h zs x y later is)
    ]

pub made_of : {X Y : Type 0} (h : X → Option Y) (xs : List X) (y : Y) → Contains (filter_map h xs) y
    → (x : X) × Contains xs x × (h x ≡ Some y)
made_of h [] y within = absurd (nothing_in [] y refl within)
made_of h (x ∷ xs) y within =
    elim (cons_cases (h x) (filter_map h xs) y within) [
      | inl is ↦ (x, contains_first x x xs refl, is)
      | inr later ↦
          let rest = made_of h xs y later in
          (rest.0, contains_later x rest.0 xs rest.1, rest.2)
    ]
