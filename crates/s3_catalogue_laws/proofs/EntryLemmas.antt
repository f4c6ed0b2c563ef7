-- What stands in a list, and in the entries of a map whose keys are texts.
use Rattle.std.proofs.Common.{◌≡◌, ◌≢◌, inl, inr, refl, sym, ap, subst, ◌∙◌, Bool, true, false, cond, ◌&&◌, T, ℕ, zero, suc, ◌<◌, List, [], ◌∷◌, length, map, filter, find, Contains, flat_map, Some, arith}
use Rattle.std.proofs.lemmas.Bool.{and_parts}
use Rattle.std.proofs.lemmas.List.Elements.{Contains-append_left, Contains-append_right, Contains-append_cases}
use Rattle.std.proofs.lemmas.Option.{none-some, same_Some}
use Rattle.std.specs.Cmp.{eq_by_cmp_equiv}
use Rattle.std.specs.Cmp.Lexicographic.{nat_list_cmp_total}
use Rattle.std.specs.FinMap.{FinMap, get, get-entries, entries, entries_sorted}
use Rattle.std.specs.FinMap.Entries as map_list
use Rattle.std.specs.FinMap.Entries.{is_sorted, below_all}
use Rattle.std.specs.List.{list_all}
use Rattle.std.specs.Ordering.{is_lt, is_eq, eq_by_cmp}
use Rattle.std.specs.declared.cmp.Ordering.{Ordering}
use Rattle.std.specs.declared.cmp.Ordering.TheVariants.{Less, Equal, Greater}
use Rattle.s3_text.specs.Order.{byte_order}
use Rattle.s3_text.proofs.MapLemmas.{tied_equal}

-- ---- lists

pub nothing_held : {X : Type 0} (x : X) → ¬ Contains [] x
nothing_held x (k, within, is) = absurd (omega arith)

pub held_first : {X : Type 0} (x y : X) (xs : List X) → y ≡ x → Contains (y ∷ xs) x
held_first x y xs is = (zero, omega arith, is)

next_below : (k n : ℕ) → k < n → suc k < suc n
next_below k n below = omega arith

pub held_later : {X : Type 0} (x y : X) (xs : List X) → Contains xs x → Contains (y ∷ xs) x
held_later x y xs held = (suc held.0, next_below held.0 (length xs) held.1, held.2)

pub held_among : {X : Type 0} (x y : X) (xs : List X) → y ≢ x → Contains (y ∷ xs) x → Contains xs x
held_among x y xs apart (zero, within, is) = absurd (apart is)
held_among x y xs apart (suc k, within, is) = (k, omega arith, is)

pub map_holds : {X Y : Type 0} (f : X → Y) (xs : List X) (x : X) → Contains xs x → Contains (map f xs) (f x)
map_holds f [] x held = absurd (nothing_held x held)
map_holds f (y ∷ xs) x (zero, within, is) = held_first (f x) (f y) (map f xs) (ap f is)
map_holds f (y ∷ xs) x (suc k, within, is) = held_later (f x) (f y) (map f xs) (map_holds f xs x (k, omega arith, is))

pub map_held : {X Y : Type 0} (f : X → Y) (xs : List X) (z : Y) → Contains (map f xs) z → (x : X) × Contains xs x × (f x ≡ z)
map_held f [] z held = absurd (nothing_held z held)
map_held f (x ∷ xs) z (zero, within, is) = (x, held_first x x xs refl, is)
map_held f (y ∷ xs) z (suc k, within, is) =
    let rest = map_held f xs z (k, omega arith, is) in
    (rest.0, held_later rest.0 y xs rest.1, rest.2)

pub flat_holds : {X Y : Type 0} (f : X → List Y) (xs : List X) (x : X) (z : Y) → Contains xs x → Contains (f x) z → Contains (flat_map f xs) z
flat_holds f [] x z held holds = absurd (nothing_held x held)
flat_holds f (y ∷ xs) x z (zero, within, is) holds = Contains-append_left (f y) (flat_map f xs) z (subst (λ y. Contains (f y) z) (sym is) holds)
flat_holds f (y ∷ xs) x z (suc k, within, is) holds = Contains-append_right (f y) (flat_map f xs) z (flat_holds f xs x z (k, omega arith, is) holds)

pub flat_held : {X Y : Type 0} (f : X → List Y) (xs : List X) (z : Y) → Contains (flat_map f xs) z → (x : X) × Contains xs x × Contains (f x) z
flat_held f [] z held = absurd (nothing_held z held)
flat_held f (x ∷ xs) z held =
    elim (Contains-append_cases (f x) (flat_map f xs) z held) [
      | inl this ↦ (x, held_first x x xs refl, this)
      | inr there ↦ let rest = flat_held f xs z there in (rest.0, held_later rest.0 x xs rest.1, rest.2)
    ]

-- what is found stands in the list, and passes
pub find_held : {X : Type 0} (p : X → Bool) (xs : List X) (x : X) → find p xs ≡ Some x → Contains xs x × (p x ≡ true)
find_held p [] x found = absurd (none-some x found)
find_held p (y ∷ xs) x found =
    elim (p y) as (λ b. p y ≡ b → cond b (Some y) (find p xs) ≡ Some x → Contains (y ∷ xs) x × (p x ≡ true)) [
      | true ↦ λ passes is. (held_first x y xs (same_Some y x is), ap p (sym (same_Some y x is)) ∙ passes)
      | false ↦ λ fails is. let rest = find_held p xs x is in (held_later x y xs rest.0, rest.1)
    ] refl found

-- what stands in a list of which all pass, passes
pub passes_held : {X : Type 0} (p : X → Bool) (xs : List X) (x : X) → list_all p xs ≡ true → Contains xs x → p x ≡ true
passes_held p [] x all held = absurd (nothing_held x held)
passes_held p (y ∷ xs) x all (zero, within, is) = ap p (sym is) ∙ (and_parts (p y) (list_all p xs) all).0
passes_held p (y ∷ xs) x all (suc k, within, is) = passes_held p xs x (and_parts (p y) (list_all p xs) all).1 (k, omega arith, is)

-- what is kept is what stands there and passes
kept_first : {X : Type 0} (p : X → Bool) (y : X) (xs : List X) (x : X) → p y ≡ true → (Contains (filter p xs) x → Contains xs x × (p x ≡ true)) → Contains (y ∷ filter p xs) x → Contains (y ∷ xs) x × (p x ≡ true)
kept_first p y xs x passes others (zero, within, is) = (held_first x y xs is, ap p (sym is) ∙ passes)
kept_first p y xs x passes others (suc k, within, is) = let rest = others (k, omega arith, is) in (held_later x y xs rest.0, rest.1)

pub filter_held : {X : Type 0} (p : X → Bool) (xs : List X) (x : X) → Contains (filter p xs) x → Contains xs x × (p x ≡ true)
filter_held p [] x held = absurd (nothing_held x held)
filter_held p (y ∷ xs) x held =
    elim (p y) as (λ b. p y ≡ b → Contains (cond b (y ∷ filter p xs) (filter p xs)) x → Contains (y ∷ xs) x × (p x ≡ true)) [
      | true ↦ λ passes. kept_first p y xs x passes (filter_held p xs x)
      | false ↦ λ fails kept. let rest = filter_held p xs x kept in (held_later x y xs rest.0, rest.1)
    ] refl held

pub filter_holds : {X : Type 0} (p : X → Bool) (xs : List X) (x : X) → Contains xs x → p x ≡ true → Contains (filter p xs) x
filter_holds p [] x held passes = absurd (nothing_held x held)
filter_holds p (y ∷ xs) x (zero, within, is) passes =
    subst (λ b. Contains (cond b (y ∷ filter p xs) (filter p xs)) x) (sym (ap p is ∙ passes)) (held_first x y (filter p xs) is)
filter_holds p (y ∷ xs) x (suc k, within, is) passes =
    let rest = filter_holds p xs x (k, omega arith, is) passes in
    elim (p y) as (λ b. Contains (cond b (y ∷ filter p xs) (filter p xs)) x) [
      | true ↦ held_later x y (filter p xs) rest
      | false ↦ rest
    ]

-- where all are kept the list is
pub filter-true : {X : Type 0} (xs : List X) → filter (λ x. true) xs ≡ xs
filter-true [] = refl
filter-true (x ∷ xs) = ap (λ ys. x ∷ ys) (filter-true xs)

-- ---- maps

pub is_true : (b : Bool) → T b → b ≡ true
is_true true holds = refl
is_true false holds = absurd holds

pub first_of : (a b : Bool) → T (a && b) → T a
first_of true b holds = tt
first_of false b holds = holds

pub second_of : (a b : Bool) → T (a && b) → T b
second_of true b holds = holds
second_of false b holds = absurd holds

pub is_less : (r : Ordering) → is_lt r ≡ true → r ≡ Less
is_less Less is = refl
is_less Equal is = cc
is_less Greater is = cc

-- what a map has at a key stands among its entries
found_held : {X : Type 0} (key : List ℕ) (v : X) (es : List (List ℕ × X)) → map_list.find byte_order key es ≡ Some v → Contains es (key, v)
found_held key v [] found = absurd (none-some v found)
found_held key v (e ∷ es) found =
    elim (eq_by_cmp byte_order key e.0) as (λ b. eq_by_cmp byte_order key e.0 ≡ b → cond b (Some e.1) (map_list.find byte_order key es) ≡ Some v → Contains (e ∷ es) (key, v)) [
      | true ↦ λ tied is. held_first (key, v) e es (λ i. (sym (tied_equal key e.0 tied) i, same_Some e.1 v is i))
      | false ↦ λ other is. held_later (key, v) e es (found_held key v es is)
    ] refl found

pub got_held : {X : Type 0} (m : FinMap byte_order X) (key : List ℕ) (v : X) → get m key ≡ Some v → Contains (entries m) (key, v)
got_held m key v got = found_held key v (entries m) (sym (get-entries m key) ∙ got)

-- and what stands there the map has, since the keys rise
pub below_held : {X : Type 0} (first key : List ℕ) (v : X) (es : List (List ℕ × X)) → T (below_all byte_order first es) → Contains es (key, v) → byte_order first key ≡ Less
below_held first key v [] below held = absurd (nothing_held (key, v) held)
below_held first key v (e ∷ es) below (zero, within, is) =
    ap (byte_order first) (sym (ap (λ e. e.0) is)) ∙ is_less (byte_order first e.0) (is_true _ (first_of _ (below_all byte_order first es) below))
below_held first key v (e ∷ es) below (suc k, within, is) =
    below_held first key v es (second_of (is_lt (byte_order first e.0)) _ below) (k, omega arith, is)

pub apart_below : (k q : List ℕ) → byte_order k q ≡ Less → eq_by_cmp byte_order q k ≡ false
apart_below k q less = (eq_by_cmp_equiv nat_list_cmp_total).symm q k ∙ ap is_eq less

held_found : {X : Type 0} (key : List ℕ) (v : X) (es : List (List ℕ × X)) → T (is_sorted byte_order es) → Contains es (key, v) → map_list.find byte_order key es ≡ Some v
held_found key v [] sorted held = absurd (nothing_held (key, v) held)
held_found key v (e ∷ es) sorted (zero, within, is) =
    ap (λ k. cond (eq_by_cmp byte_order key k) (Some e.1) (map_list.find byte_order key es)) (ap (λ e. e.0) is)
    ∙ ap (λ b. cond b (Some e.1) (map_list.find byte_order key es)) ((eq_by_cmp_equiv nat_list_cmp_total).refl key) ∙ ap (λ e. Some e.1) is
held_found key v (e ∷ es) sorted (suc k, within, is) =
    let held : Contains es (key, v) = (k, omega arith, is) in
    let less = below_held e.0 key v es (first_of (below_all byte_order e.0 es) _ sorted) held in
    ap (λ b. cond b (Some e.1) (map_list.find byte_order key es)) (apart_below e.0 key less)
    ∙ held_found key v es (second_of (below_all byte_order e.0 es) _ sorted) held

pub held_got : {X : Type 0} (m : FinMap byte_order X) (key : List ℕ) (v : X) → Contains (entries m) (key, v) → get m key ≡ Some v
held_got m key v held = get-entries m key ∙ held_found key v (entries m) (entries_sorted m) held
