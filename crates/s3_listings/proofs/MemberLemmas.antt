-- The members of lists, and lists that rise.
use Rattle.std.proofs.Common.{◌≡◌, ◌≢◌, ◌⊎◌, inl, inr, refl, sym, ap, subst, ◌∙◌, Bool, true, false, cond, ℕ, zero, suc, ◌<◌, List, [], ◌∷◌, ◌++◌, map, filter, take, not, ◌==◌, nat_lt, ◌≤◌, Option, Some, None, ◌&&◌, arith, Contains}
use Rattle.std.specs.List.{AllByRecursion, filter_map, cons_option, dedup, dedup_from}
use Rattle.std.specs.Str.{bytes_eq}
use Rattle.std.specs.Cmp.Lexicographic.{bytes_decides}
use Rattle.std.proofs.lemmas.Bool.{false≢true, and_from, and_parts, and_cases, not-false, false_from_ne_true, eqb-true, ltb-false}
use Rattle.std.proofs.lemmas.Option.{none-some, same_Some}
use Rattle.s3_text.specs.Order.{rises}
use Rattle.s3_prefixes.specs.Items.{is_before}
use Rattle.s3_listings.specs.Pages.{last_of}
use Rattle.s3_listings.specs.Sought.{Paired}
use Rattle.s3_listings.proofs.OrderLemmas.{before_trans, not_before_itself, one_way}

-- x is a member of the list
abbrev pub Member : {X : Type 0} → X → List X → Type 0
Member x [] = ⊥
Member x (y ∷ ys) = (x ≡ y) ⊎ Member x ys

-- the texts of the members rise
abbrev pub Before : {X : Type 0} → (X → List ℕ) → X → X → Type 0
Before f x y = is_before (f x) (f y) ≡ true

abbrev pub Rising : {X : Type 0} → (X → List ℕ) → List X → Type 0
Rising f xs = Paired (Before f) xs

-- the same, where members may stand several times
abbrev pub SameOrBefore : {X : Type 0} → (X → List ℕ) → X → X → Type 0
SameOrBefore f x y = (x ≡ y) ⊎ Before f x y

-- what holds of each member
pub each_at : {X : Type 0} (P : X → Type 0) (xs : List X) (y : X) → AllByRecursion P xs → Member y xs → P y
each_at P [] y all is_in = absurd is_in
each_at P (x ∷ xs) y all (inl is) = subst P (sym is) all.0
each_at P (x ∷ xs) y all (inr in_rest) = each_at P xs y all.1 in_rest

pub each_from : {X : Type 0} (P : X → Type 0) (xs : List X) → ((y : X) → Member y xs → P y) → AllByRecursion P xs
each_from P [] all = tt
each_from P (x ∷ xs) all = (all x (inl refl), each_from P xs (λ y in_rest. all y (inr in_rest)))

-- the members by their places
pub member_from_contains : {X : Type 0} (xs : List X) (x : X) → Contains xs x → Member x xs
member_from_contains [] x (k, within, is) = absurd (omega arith)
member_from_contains (y ∷ ys) x (zero, within, is) = inl (sym is)
member_from_contains (y ∷ ys) x (suc k, within, is) = inr (member_from_contains ys x (k, omega arith, is))

contains_later : {X : Type 0} (y x : X) (ys : List X) → Contains ys x → Contains (y ∷ ys) x
contains_later y x ys (k, within, is) = (suc k, omega arith, is)

pub contains_from_member : {X : Type 0} (xs : List X) (x : X) → Member x xs → Contains xs x
contains_from_member [] x is_in = absurd is_in
contains_from_member (y ∷ ys) x (inl is) = (0, omega arith, sym is)
contains_from_member (y ∷ ys) x (inr in_rest) = contains_later y x ys (contains_from_member ys x in_rest)

-- a filter's members
pub member-filter : {X : Type 0} (p : X → Bool) (xs : List X) (y : X) → Member y (filter p xs) → Member y xs × (p y ≡ true)
member-filter p [] y is_in = absurd is_in
member-filter p (x ∷ xs) y is_in =
    elim (p x) as (λ b. p x ≡ b → Member y (cond b (x ∷ filter p xs) (filter p xs)) → Member y (x ∷ xs) × (p y ≡ true)) [
      | true ↦ λ passes m. elim m [
        | inl is ↦ (inl is, ap p is ∙ passes)
        | inr in_rest ↦ let known = member-filter p xs y in_rest in (inr known.0, known.1)
      ]
      | false ↦ λ fails m. let known = member-filter p xs y m in (inr known.0, known.1)
    ] refl is_in

pub member_of_filter : {X : Type 0} (p : X → Bool) (xs : List X) (y : X) → Member y xs → p y ≡ true → Member y (filter p xs)
member_of_filter p [] y is_in passes = absurd is_in
member_of_filter p (x ∷ xs) y (inl is) passes = rw (sym (ap p is) ∙ passes) (inl is)
member_of_filter p (x ∷ xs) y (inr in_rest) passes =
    let known = member_of_filter p xs y in_rest passes in
    elim (p x) as (λ b. Member y (cond b (x ∷ filter p xs) (filter p xs))) [ true ↦ inr known | false ↦ known ]

pub paired-filter : {X : Type 0} (R : X → X → Type 0) (p : X → Bool) (xs : List X) → Paired R xs → Paired R (filter p xs)
paired-filter R p [] all = tt
paired-filter R p (x ∷ xs) all =
    let rest = paired-filter R p xs all.1 in
    elim (p x) as (λ b. Paired R (cond b (x ∷ filter p xs) (filter p xs))) [
      | true ↦ (each_from (R x) (filter p xs) (λ y is_in. each_at (R x) xs y all.0 (member-filter p xs y is_in).0), rest)
      | false ↦ rest
    ]

-- what is made of each member
pub member-map : {X Y : Type 0} (f : X → Y) (xs : List X) (v : Y) → Member v (map f xs) → (x : X) × Member x xs × (v ≡ f x)
member-map f [] v is_in = absurd is_in
member-map f (x ∷ xs) v (inl is) = (x, inl refl, is)
member-map f (x ∷ xs) v (inr in_rest) = let known = member-map f xs v in_rest in (known.0, inr known.1, known.2)

pub member_of_map : {X Y : Type 0} (f : X → Y) (xs : List X) (x : X) → Member x xs → Member (f x) (map f xs)
member_of_map f [] x is_in = absurd is_in
member_of_map f (y ∷ ys) x (inl is) = inl (ap f is)
member_of_map f (y ∷ ys) x (inr in_rest) = inr (member_of_map f ys x in_rest)

-- what is made of some members
pub member-filter_map : {X Y : Type 0} (h : X → Option Y) (xs : List X) (v : Y) → Member v (filter_map h xs) → (x : X) × Member x xs × (h x ≡ Some v)
member-filter_map h [] v is_in = absurd is_in
member-filter_map h (x ∷ xs) v is_in =
    elim (h x) as (λ o. h x ≡ o → Member v (cons_option o (filter_map h xs)) → (z : _) × Member z (x ∷ xs) × (h z ≡ Some v)) [
      | None ↦ λ none m. let known = member-filter_map h xs v m in (known.0, inr known.1, known.2)
      | Some w ↦ λ some m. elim m [
        | inl is ↦ (x, inl refl, some ∙ ap Some (sym is))
        | inr in_rest ↦ let known = member-filter_map h xs v in_rest in (known.0, inr known.1, known.2)
      ]
    ] refl is_in

pub member_of_filter_map : {X Y : Type 0} (h : X → Option Y) (xs : List X) (x : X) (v : Y) → Member x xs → h x ≡ Some v → Member v (filter_map h xs)
member_of_filter_map h [] x v is_in some = absurd is_in
member_of_filter_map h (y ∷ ys) x v (inl is) some = rw (sym (ap h is) ∙ some) (inl refl)
member_of_filter_map h (y ∷ ys) x v (inr in_rest) some =
    let known = member_of_filter_map h ys x v in_rest some in
    elim (h y) as (λ o. Member v (cons_option o (filter_map h ys))) [ None ↦ known | Some w ↦ inr known ]

pub paired-filter_map : {X Y : Type 0} (R : X → X → Type 0) (S : Y → Y → Type 0) (h : X → Option Y)
    → ((x y : X) (v w : Y) → R x y → h x ≡ Some v → h y ≡ Some w → S v w) → (xs : List X) → Paired R xs → Paired S (filter_map h xs)
paired-filter_map R S h kept [] all = tt
paired-filter_map R S h kept (x ∷ xs) all =
    let rest = paired-filter_map R S h kept xs all.1 in
    elim (h x) as (λ o. h x ≡ o → Paired S (cons_option o (filter_map h xs))) [
      | None ↦ λ none. rest
      | Some v ↦ λ some. (each_from (S v) (filter_map h xs) (λ w is_in. let from = member-filter_map h xs w is_in in kept x from.0 v w (each_at (R x) xs from.0 all.0 from.1) some from.2), rest)
    ] refl

-- texts that rise
behind_first : {X : Type 0} (f : X → List ℕ) (a : List ℕ) (xs : List X) → rises (a ∷ map f xs) ≡ true → AllByRecursion (λ y. is_before a (f y) ≡ true) xs
behind_first f a [] up = tt
behind_first f a (y ∷ ys) up =
    let both = and_parts _ _ up in
    let rest = behind_first f (f y) ys both.1 in
    (both.0, each_from _ ys (λ z is_in. before_trans a (f y) (f z) both.0 (each_at (λ w. is_before (f y) (f w) ≡ true) ys z rest is_in)))

rises_behind : (a : List ℕ) (xs : List (List ℕ)) → rises (a ∷ xs) ≡ true → rises xs ≡ true
rises_behind a [] up = refl
rises_behind a (x ∷ xs) up = (and_parts _ _ up).1

pub rising_from_rises : {X : Type 0} (f : X → List ℕ) (xs : List X) → rises (map f xs) ≡ true → Rising f xs
rising_from_rises f [] up = tt
rising_from_rises f (x ∷ xs) up = (behind_first f (f x) xs up, rising_from_rises f xs (rises_behind (f x) (map f xs) up))

pub rises_from_rising : {X : Type 0} (f : X → List ℕ) (xs : List X) → Rising f xs → rises (map f xs) ≡ true
rises_from_rising f [] up = refl
rises_from_rising f (x ∷ []) up = refl
rises_from_rising f (x ∷ y ∷ ys) up = and_from _ _ up.0.0 (rises_from_rising f (y ∷ ys) up.1)

cons_not_nil : {X : Type 0} (x : X) (xs : List X) → x ∷ xs ≢ []
cons_not_nil x xs is = cc

-- the last member
pub member_in_front : {X : Type 0} (xs ys : List X) (x : X) → Member x xs → Member x (xs ++ ys)
member_in_front [] ys x is_in = absurd is_in
member_in_front (y ∷ xs) ys x (inl is) = inl is
member_in_front (y ∷ xs) ys x (inr in_rest) = inr (member_in_front xs ys x in_rest)

pub last_member : {X : Type 0} (xs : List X) (x : X) → last_of xs ≡ Some x → Member x xs
last_member [] x is = absurd (none-some x is)
last_member (y ∷ []) x is = inl (sym (same_Some y x is))
last_member (y ∷ z ∷ xs) x is = inr (last_member (z ∷ xs) x is)

pub none_last : {X : Type 0} (xs : List X) → last_of xs ≡ None → xs ≡ []
none_last [] is = refl
none_last (y ∷ []) is = absurd (none-some y (sym is))
none_last (y ∷ z ∷ xs) is = absurd (cons_not_nil z xs (none_last (z ∷ xs) is))

pub all_of_none : {X : Type 0} (most : ℕ) (xs : List X) → 0 < most → take most xs ≡ [] → take most xs ≡ xs
all_of_none most [] some is = is
all_of_none zero (x ∷ xs) some is = absurd (omega arith)
all_of_none (suc most) (x ∷ xs) some is = absurd (cons_not_nil x (take most xs) is)

pub not_more : (most count : ℕ) → 0 < most → (not (most == 0) && nat_lt most count) ≡ false → count ≤ most
not_more most count some is = elim (and_cases _ _ is) [
  | inl none ↦ absurd (omega (arith, some, eqb-true most 0 (not-false (most == 0) none)))
  | inr fewer ↦ ltb-false most count fewer
]

module _ {X : Type 0} (f : X → List ℕ) where
  abbrev pub same_text : X → X → Bool
  same_text x y = bytes_eq (f x) (f y)

  same_member : (k x : X) → SameOrBefore f k x → same_text x k ≡ true → x ≡ k
  same_member k x (inl is) same = sym is
  same_member k x (inr before) same = absurd (not_before_itself (f k) (subst (λ t. is_before (f k) t ≡ true) ((bytes_decides (f x) (f k)).0 same) before))

  other_member : (k x : X) → SameOrBefore f k x → same_text x k ≡ false → Before f k x
  other_member k x (inl is) other = absurd (false≢true (sym other ∙ (bytes_decides (f x) (f k)).1 (ap f (sym is))))
  other_member k x (inr before) other = before

  before_later : (k x y : X) → Before f k x → SameOrBefore f x y → Before f k y
  before_later k x y before (inl is) = subst (λ z. Before f k z) is before
  before_later k x y before (inr later) = before_trans (f k) (f x) (f y) before later

  -- members that stand side by side several times stand there once
  pub member-dedup_from : (k : X) (xs : List X) → Paired (SameOrBefore f) (k ∷ xs) → (y : X) → Member y (dedup_from same_text k xs) → Member y (k ∷ xs)
  member-dedup_from k [] up y is_in = is_in
  member-dedup_from k (x ∷ xs) up y is_in =
      elim (same_text x k) as (λ b. Member y (cond b (dedup_from same_text k xs) (k ∷ dedup_from same_text x xs)) → Member y (k ∷ x ∷ xs)) [
        | true ↦ λ m. elim (member-dedup_from k xs (up.0.1, up.1.1) y m) [ inl is ↦ inl is | inr in_rest ↦ inr (inr in_rest) ]
        | false ↦ λ m. elim m [ inl is ↦ inl is | inr later ↦ inr (member-dedup_from x xs up.1 y later) ]
      ] is_in

  pub member_of_dedup_from : (k : X) (xs : List X) → Paired (SameOrBefore f) (k ∷ xs) → (y : X) → Member y (k ∷ xs) → Member y (dedup_from same_text k xs)
  member_of_dedup_from k [] up y is_in = is_in
  member_of_dedup_from k (x ∷ xs) up y is_in =
      elim (same_text x k) as (λ b. same_text x k ≡ b → Member y (cond b (dedup_from same_text k xs) (k ∷ dedup_from same_text x xs))) [
        | true ↦ λ same. member_of_dedup_from k xs (up.0.1, up.1.1) y (elim is_in [
          | inl is ↦ inl is
          | inr later ↦ elim later [ inl is ↦ inl (is ∙ same_member k x up.0.0 same) | inr in_rest ↦ inr in_rest ]
        ])
        | false ↦ λ other. elim is_in [ inl is ↦ inl is | inr later ↦ inr (member_of_dedup_from x xs up.1 y later) ]
      ] refl

  rising-dedup_from : (k : X) (xs : List X) → Paired (SameOrBefore f) (k ∷ xs) → Rising f (dedup_from same_text k xs)
  rising-dedup_from k [] up = (tt, tt)
  rising-dedup_from k (x ∷ xs) up =
      elim (same_text x k) as (λ b. same_text x k ≡ b → Rising f (cond b (dedup_from same_text k xs) (k ∷ dedup_from same_text x xs))) [
        | true ↦ λ same. rising-dedup_from k xs (up.0.1, up.1.1)
        | false ↦ λ other.
            let before : Before f k x = other_member k x up.0.0 other in (
              each_from (Before f k) (dedup_from same_text x xs) (λ y is_in. elim (member-dedup_from x xs up.1 y is_in) [
                | inl is ↦ subst (λ z. Before f k z) (sym is) before
                | inr in_rest ↦ before_later k x y before (each_at (SameOrBefore f x) xs y up.1.0 in_rest)
              ]),
              rising-dedup_from x xs up.1,
            )
      ] refl

  pub member-dedup : (xs : List X) → Paired (SameOrBefore f) xs → (y : X) → Member y (dedup same_text xs) → Member y xs
  member-dedup [] up y is_in = is_in
  member-dedup (x ∷ xs) up y is_in = member-dedup_from x xs up y is_in

  pub member_of_dedup : (xs : List X) → Paired (SameOrBefore f) xs → (y : X) → Member y xs → Member y (dedup same_text xs)
  member_of_dedup [] up y is_in = is_in
  member_of_dedup (x ∷ xs) up y is_in = member_of_dedup_from x xs up y is_in

  pub rising-dedup : (xs : List X) → Paired (SameOrBefore f) xs → Rising f (dedup same_text xs)
  rising-dedup [] up = tt
  rising-dedup (x ∷ xs) up = rising-dedup_from x xs up

  -- lists that rise and have the same members are one
  first_is_first : (x y : X) (xs ys : List X) → Rising f (x ∷ xs) → Rising f (y ∷ ys) → Member x (y ∷ ys) → Member y (x ∷ xs) → x ≡ y
  first_is_first x y xs ys up other (inl is) there = is
  first_is_first x y xs ys up other (inr later) (inl is) = sym is
  first_is_first x y xs ys up other (inr later) (inr sooner) =
      absurd (one_way (f x) (f y) (each_at (Before f x) xs y up.0 sooner) (each_at (Before f y) ys x other.0 later))

  in_rest_of : (x y z : X) (xs ys : List X) → Rising f (x ∷ xs) → x ≡ y → Member z xs → Member z (y ∷ ys) → Member z ys
  in_rest_of x y z xs ys up same is_in (inl is) =
      absurd (not_before_itself (f x) (subst (λ w. Before f x w) (is ∙ sym same) (each_at (Before f x) xs z up.0 is_in)))
  in_rest_of x y z xs ys up same is_in (inr there) = there

  pub same_members : (xs ys : List X) → Rising f xs → Rising f ys → ((z : X) → Member z xs → Member z ys) → ((z : X) → Member z ys → Member z xs) → xs ≡ ys
  same_members [] [] up other there back = refl
  same_members [] (y ∷ ys) up other there back = absurd (back y (inl refl))
  same_members (x ∷ xs) [] up other there back = absurd (there x (inl refl))
  same_members (x ∷ xs) (y ∷ ys) up other there back =
      let same : x ≡ y = first_is_first x y xs ys up other (there x (inl refl)) (back y (inl refl)) in
      ap (λ z. z ∷ xs) same ∙ ap (λ zs. y ∷ zs) (same_members xs ys up.1 other.1
      (λ z is_in. in_rest_of x y z xs ys up same is_in (there z (inr is_in)))
      (λ z is_in. in_rest_of y x z ys xs other (sym same) is_in (back z (inr is_in))))

  -- each member of a list that rises is the only one with its text
  none-behind : (xs : List X) (y : X) → AllByRecursion (Before f y) xs → filter (same_text y) xs ≡ []
  none-behind [] y all = refl
  none-behind (x ∷ xs) y all =
      rw (false_from_ne_true (same_text y x) (λ same. not_before_itself (f y) (subst (λ t. is_before (f y) t ≡ true) (sym ((bytes_decides (f y) (f x)).0 same)) all.0)))
      (none-behind xs y all.1)

  one-here : (xs : List X) (x y : X) → y ≡ x → AllByRecursion (Before f x) xs → filter (same_text y) (x ∷ xs) ≡ y ∷ []
  one-here xs x y is all =
      rw ((bytes_decides (f y) (f x)).1 (ap f is))
      (ap (λ zs. x ∷ zs) (none-behind xs y (subst (λ z. AllByRecursion (Before f z) xs) (sym is) all)) ∙ ap (λ z. z ∷ []) (sym is))

  pub only_member : (xs : List X) (y : X) → Rising f xs → Member y xs → filter (same_text y) xs ≡ y ∷ []
  only_member [] y up is_in = absurd is_in
  only_member (x ∷ xs) y up (inl is) = one-here xs x y is up.0
  only_member (x ∷ xs) y up (inr in_rest) =
      rw (false_from_ne_true (same_text y x) (λ same. not_before_itself (f x) (subst (λ t. is_before (f x) t ≡ true) ((bytes_decides (f y) (f x)).0 same) (each_at (Before f x) xs y up.0 in_rest))))
      (only_member xs y up.1 in_rest)

  -- what stands behind the last member of a part in front
  all_kept : (x : X) (xs : List X) → AllByRecursion (Before f x) xs → filter (λ y. is_before (f x) (f y)) xs ≡ xs
  all_kept x [] all = refl
  all_kept x (y ∷ ys) all = rw all.0 (ap (λ zs. y ∷ zs) (all_kept x ys all.1))

  pub behind_last : (xs ys : List X) (x : X) → Rising f (xs ++ ys) → last_of xs ≡ Some x → filter (λ y. is_before (f x) (f y)) (xs ++ ys) ≡ ys
  behind_last [] ys x up is = absurd (none-some x is)
  behind_last (y ∷ []) ys x up is =
      let same : y ≡ x = same_Some y x is in
      rw (ap (λ z. is_before (f z) (f y)) (sym same) ∙ false_from_ne_true (is_before (f y) (f y)) (not_before_itself (f y)))
      (all_kept x ys (subst (λ z. AllByRecursion (Before f z) ys) same up.0))
  behind_last (y ∷ z ∷ xs) ys x up is =
      rw (false_from_ne_true (is_before (f x) (f y)) (λ later. one_way (f y) (f x) (each_at (Before f y) (z ∷ xs ++ ys) x up.0 (member_in_front (z ∷ xs) ys x (last_member (z ∷ xs) x is))) later))
      (behind_last (z ∷ xs) ys x up.1 is)
