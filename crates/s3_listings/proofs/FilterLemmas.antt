-- Filters of lists, and of lists that are joined.
use Rattle.std.proofs.Common.{◌≡◌, ◌⊎◌, inl, inr, refl, sym, ap, subst, ◌∙◌, Bool, true, false, cond, ℕ, zero, suc, ◌<◌, ◌≤◌, List, [], ◌∷◌, ◌++◌, filter, take, length, arith}
use Rattle.std.specs.List.{flat_map, take_while}
use Rattle.std.proofs.lemmas.Bool.{false≢true, cases_Bool, false_from_ne_true}
use Rattle.std.proofs.lemmas.List.Elements.{filter-append}
use Rattle.std.proofs.lemmas.List.Sums.{take_while-cons}
use Rattle.s3_listings.specs.Sought.{Paired}
use Rattle.s3_listings.proofs.MemberLemmas.{Member, each_at, each_from, member_in_front}

pub filter_none : {X : Type 0} (p : X → Bool) (xs : List X) → ((x : X) → Member x xs → p x ≡ false) → filter p xs ≡ []
filter_none p [] none = refl
filter_none p (x ∷ xs) none = rw (none x (inl refl)) (filter_none p xs (λ y is_in. none y (inr is_in)))

pub filter_all : {X : Type 0} (p : X → Bool) (xs : List X) → ((x : X) → Member x xs → p x ≡ true) → filter p xs ≡ xs
filter_all p [] all = refl
filter_all p (x ∷ xs) all = rw (all x (inl refl)) (ap (λ ys. x ∷ ys) (filter_all p xs (λ y is_in. all y (inr is_in))))

pub filter_alike : {X : Type 0} (p q : X → Bool) (xs : List X) → ((x : X) → Member x xs → p x ≡ q x) → filter p xs ≡ filter q xs
filter_alike p q [] alike = refl
filter_alike p q (x ∷ xs) alike =
    (λ i. cond (alike x (inl refl) i) (x ∷ filter p xs) (filter p xs))
    ∙ ap (λ ys. cond (q x) (x ∷ ys) ys) (filter_alike p q xs (λ y is_in. alike y (inr is_in)))

-- to filter by what is weaker first changes nothing
pub filter_stronger : {X : Type 0} (p q : X → Bool) (xs : List X) → ((x : X) → p x ≡ true → q x ≡ true) → filter p (filter q xs) ≡ filter p xs
filter_stronger p q [] weaker = refl
filter_stronger p q (x ∷ xs) weaker =
    let rest = filter_stronger p q xs weaker in
    elim (cases_Bool (q x)) [
      | inl passes ↦ rw passes (ap (λ ys. cond (p x) (x ∷ ys) ys) rest)
      | inr fails ↦ elim (cases_Bool (p x)) [
        | inl strong ↦ absurd (false≢true (sym fails ∙ weaker x strong))
        | inr weak ↦ rw (fails, weak) rest
      ]
    ]

pub filter_most : {X : Type 0} (p : X → Bool) (xs : List X) → length (filter p xs) ≤ length xs
filter_most p [] = omega arith
filter_most p (x ∷ xs) =
    let rest : length (filter p xs) ≤ length xs = filter_most p xs in
    elim (p x) as (λ b. length (cond b (x ∷ filter p xs) (filter p xs)) ≤ length (x ∷ xs)) [ true ↦ omega (arith, rest) | false ↦ omega (arith, rest) ]

-- a member that fails is one fewer
pub filter_fewer : {X : Type 0} (p : X → Bool) (xs : List X) (x : X) → Member x xs → p x ≡ false → length (filter p xs) < length xs
filter_fewer p [] x is_in fails = absurd is_in
filter_fewer p (y ∷ ys) x (inl is) fails = let most : length (filter p ys) ≤ length ys = filter_most p ys in rw (sym (ap p is) ∙ fails) (omega (arith, most))
filter_fewer p (y ∷ ys) x (inr in_rest) fails =
    let fewer : length (filter p ys) < length ys = filter_fewer p ys x in_rest fails in
    elim (p y) as (λ b. length (cond b (y ∷ filter p ys) (filter p ys)) < length (y ∷ ys)) [ true ↦ omega (arith, fewer) | false ↦ omega (arith, fewer) ]

-- lists that are joined, part by part
pub filter_parts : {X Y : Type 0} (p q : Y → Bool) (f g : X → List Y) (xs : List X) → ((x : X) → Member x xs → filter p (f x) ≡ filter q (g x)) → filter p (flat_map f xs) ≡ filter q (flat_map g xs)
filter_parts p q f g [] alike = refl
filter_parts p q f g (x ∷ xs) alike =
    filter-append p (f x) (flat_map f xs)
    ∙ (λ i. alike x (inl refl) i ++ filter_parts p q f g xs (λ y is_in. alike y (inr is_in)) i)
    ∙ sym (filter-append q (g x) (flat_map g xs))

pub member_of_either : {X : Type 0} (b : Bool) (xs ys : List X) (x : X) → Member x (cond b xs ys) → Member x xs ⊎ Member x ys
member_of_either true xs ys x is_in = inl is_in
member_of_either false xs ys x is_in = inr is_in

pub member-append : {X : Type 0} (xs ys : List X) (x : X) → Member x (xs ++ ys) → Member x xs ⊎ Member x ys
member-append [] ys x is_in = inr is_in
member-append (y ∷ xs) ys x (inl is) = inl (inl is)
member-append (y ∷ xs) ys x (inr in_rest) = elim (member-append xs ys x in_rest) [ inl front ↦ inl (inr front) | inr later ↦ inr later ]

pub member_behind : {X : Type 0} (xs ys : List X) (x : X) → Member x ys → Member x (xs ++ ys)
member_behind [] ys x is_in = is_in
member_behind (y ∷ xs) ys x is_in = inr (member_behind xs ys x is_in)

pub member-flat_map : {X Y : Type 0} (f : X → List Y) (xs : List X) (y : Y) → Member y (flat_map f xs) → (x : X) × Member x xs × Member y (f x)
member-flat_map f [] y is_in = absurd is_in
member-flat_map f (x ∷ xs) y is_in = elim (member-append (f x) (flat_map f xs) y is_in) [
  | inl here ↦ (x, inl refl, here)
  | inr later ↦ let known = member-flat_map f xs y later in (known.0, inr known.1, known.2)
]

pub member_of_flat_map : {X Y : Type 0} (f : X → List Y) (xs : List X) (x : X) (y : Y) → Member x xs → Member y (f x) → Member y (flat_map f xs)
member_of_flat_map f [] x y is_in here = absurd is_in
member_of_flat_map f (z ∷ xs) x y (inl is) here = member_in_front (f z) (flat_map f xs) y (subst (λ w. Member y (f w)) is here)
member_of_flat_map f (z ∷ xs) x y (inr in_rest) here = member_behind (f z) (flat_map f xs) y (member_of_flat_map f xs x y in_rest here)

pub paired-append : {X : Type 0} (R : X → X → Type 0) (xs ys : List X) → Paired R xs → Paired R ys → ((x y : X) → Member x xs → Member y ys → R x y) → Paired R (xs ++ ys)
paired-append R [] ys first second across = second
paired-append R (x ∷ xs) ys first second across = (
  each_from (R x) (xs ++ ys) (λ y is_in. elim (member-append xs ys y is_in) [
    | inl front ↦ each_at (R x) xs y first.0 front
    | inr later ↦ across x y (inl refl) later
  ]),
  paired-append R xs ys first.1 second (λ u v u_in v_in. across u v (inr u_in) v_in),
)

pub paired-flat_map : {X Y : Type 0} (R : X → X → Type 0) (S : Y → Y → Type 0) (f : X → List Y) (xs : List X)
    → ((x : X) → Paired S (f x)) → ((x z : X) (v w : Y) → R x z → Member v (f x) → Member w (f z) → S v w) → Paired R xs → Paired S (flat_map f xs)
paired-flat_map R S f [] within across up = tt
paired-flat_map R S f (x ∷ xs) within across up =
    paired-append S (f x) (flat_map f xs) (within x) (paired-flat_map R S f xs within across up.1)
    (λ v w v_in w_in. let from = member-flat_map f xs w w_in in across x from.0 v w (each_at (R x) xs from.0 up.0 from.1) v_in from.2)

-- what holds of the first, and of each that stands behind one that it holds of, holds of all
pub all_from_front : {X : Type 0} (R : X → X → Type 0) (P : X → Type 0) (most : ℕ) (xs : List X) → Paired R xs → ((x y : X) → R x y → P x → P y)
    → 0 < most → ((x : X) → Member x (take most xs) → P x) → (x : X) → Member x xs → P x
all_from_front R P most [] up later some front x is_in = absurd is_in
all_from_front R P zero (y ∷ ys) up later some front x is_in = absurd (omega arith)
all_from_front R P (suc most) (y ∷ ys) up later some front x (inl is) = front x (inl is)
all_from_front R P (suc most) (y ∷ ys) up later some front x (inr in_rest) = later y x (each_at (R y) ys x up.0 in_rest) (front y (inl refl))

-- the elements in front that pass
pub take_while-take : {X : Type 0} (p : X → Bool) (most : ℕ) (xs : List X) → take_while p (take most xs) ≡ take most (take_while p xs)
take_while-take p zero xs = refl
take_while-take p (suc most) [] = refl
take_while-take p (suc most) (x ∷ xs) =
    take_while-cons p x (take most xs) ∙ (elim (p x) as (λ b. cond b (x ∷ take_while p (take most xs)) [] ≡ take (suc most) (cond b (x ∷ take_while p xs) [])) [
      | true ↦ ap (λ ys. x ∷ ys) (take_while-take p most xs)
      | false ↦ refl
    ]) ∙ ap (take (suc most)) (sym (take_while-cons p x xs))

-- where none passes behind one that fails, they are all that pass
pub take_while-filter : {X : Type 0} (R : X → X → Type 0) (p : X → Bool) (xs : List X) → Paired R xs → ((x y : X) → Member x xs → R x y → p y ≡ true → p x ≡ true) → take_while p xs ≡ filter p xs
take_while-filter R p [] up sooner = refl
take_while-filter R p (x ∷ xs) up sooner =
    take_while-cons p x xs ∙ (elim (p x) as (λ b. p x ≡ b → cond b (x ∷ take_while p xs) [] ≡ cond b (x ∷ filter p xs) (filter p xs)) [
      | true ↦ λ passes. ap (λ ys. x ∷ ys) (take_while-filter R p xs up.1 (λ u v is_in. sooner u v (inr is_in)))
      | false ↦ λ fails. sym (filter_none p xs (λ y is_in. false_from_ne_true (p y) (λ passes. false≢true (sym fails ∙ sooner x y (inl refl) (each_at (R x) xs y up.0 is_in) passes))))
    ] refl)
