-- The versions of one key.
use Rattle.std.proofs.Common.{◌≡◌, ◌≢◌, refl, sym, ap, subst, ◌∙◌, Bool, true, false, cond, not, ◌&&◌, nat_lt, ◌==◌, ◌<◌, ℕ, zero, suc, List, [], ◌∷◌, filter, find, Contains, Some, arith}
use Rattle.std.proofs.lemmas.Bool.{false_from_ne_true, and_parts, and_from, not_from_false, eq-eqb, eqb-true, ltb-true}
use Rattle.std.proofs.lemmas.Bool.Decides.{nat_tests}
use Rattle.std.specs.List.{list_all}
use Rattle.s3_names.specs.declared.ids.VersionId.{VersionId}
use Rattle.s3_names.specs.declared.ids.VersionId.TheVariants.{Null, Numbered}
use Rattle.s3_versions.specs.declared.version.Version.{Version}
use Rattle.s3_versions.specs.Rules.{id_of, is_under, current, without, may_precede, are_versions, is_new_number}
use Rattle.s3_catalogue_laws.proofs.EntryLemmas.{nothing_held, held_first, held_later, passes_held}

-- a version is under its own id
own_id_by : {B : Type 0} (v : Version B) (b : Bool) → v.is_null ≡ b → is_under (cond b Null (Numbered v.number)) v ≡ true
own_id_by v true is = is
own_id_by v false is = and_from (not v.is_null) (v.number == v.number) (not_from_false v.is_null is) (eq-eqb v.number v.number refl)

pub own_id : {B : Type 0} (v : Version B) → is_under (id_of v) v ≡ true
own_id v = own_id_by v v.is_null refl

-- and under no other
pub one_id : {B : Type 0} (id : VersionId) (v : Version B) → is_under id v ≡ true → id ≡ id_of v
one_id Null v under = ap (λ b. cond b Null (Numbered v.number)) (sym under)
one_id (Numbered n) v under =
    let parts = and_parts (not v.is_null) (v.number == n) under in
    let plain : v.is_null ≡ false = grind (arith, nat_tests) in
    ap Numbered (sym (eqb-true v.number n parts.1)) ∙ ap (λ b. cond b Null (Numbered v.number)) (sym plain)

-- of two versions in order none is under the id of the other
newer_apart_by : {B : Type 0} (v : Version B) (b : Bool) (n : ℕ) → nat_lt n v.number ≡ true → not (v.is_null && b) ≡ true → is_under (cond b Null (Numbered n)) v ≡ false
newer_apart_by v true n older others = grind (arith, nat_tests)
newer_apart_by v false n older others = grind (arith, nat_tests)

older_apart_by : {B : Type 0} (b : Bool) (n : ℕ) (w : Version B) → nat_lt w.number n ≡ true → not (b && w.is_null) ≡ true → is_under (cond b Null (Numbered n)) w ≡ false
older_apart_by true n w older others = grind (arith, nat_tests)
older_apart_by false n w older others = grind (arith, nat_tests)

pub newer_apart : {B : Type 0} (v w : Version B) → may_precede v w ≡ true → is_under (id_of w) v ≡ false
newer_apart v w order = let parts = and_parts _ _ order in newer_apart_by v w.is_null w.number parts.0 parts.1

pub older_apart : {B : Type 0} (v w : Version B) → may_precede v w ≡ true → is_under (id_of v) w ≡ false
older_apart v w order = let parts = and_parts _ _ order in older_apart_by v.is_null v.number w parts.0 parts.1

pub is_older : {B : Type 0} (v w : Version B) → may_precede v w ≡ true → w.number < v.number
is_older v w order = ltb-true w.number v.number (and_parts (nat_lt w.number v.number) _ order).0

pub not_below_itself : (n : ℕ) → ¬ (n < n)
not_below_itself n below = omega arith

pub differ : {B : Type 0} (v w : Version B) → may_precede v w ≡ true → v ≢ w
differ v w order same = not_below_itself v.number (subst (λ u. u.number < v.number) (sym same) (is_older v w order))

-- the first of some versions may stand before each of the others, and these are versions of one key
pub versions_behind : {B : Type 0} (v : Version B) (vs : List (Version B)) → are_versions (v ∷ vs) ≡ true → (list_all (may_precede v) vs ≡ true) × (are_versions vs ≡ true)
unfolding are_versions
versions_behind v vs valid = and_parts (list_all (may_precede v) vs) (are_versions vs) valid

pub before_held : {B : Type 0} (v : Version B) (vs : List (Version B)) (w : Version B) → are_versions (v ∷ vs) ≡ true → Contains vs w → may_precede v w ≡ true
before_held v vs w valid held = passes_held (may_precede v) vs w (versions_behind v vs valid).0 held

-- each version of a key is found by its id
pub found_own : {B : Type 0} (vs : List (Version B)) (w : Version B) → are_versions vs ≡ true → Contains vs w → find (is_under (id_of w)) vs ≡ Some w
found_own [] w valid held = absurd (nothing_held w held)
found_own (v ∷ vs) w valid (zero, within, is) =
    subst (λ w. find (is_under (id_of w)) (v ∷ vs) ≡ Some w) is (ap (λ b. cond b (Some v) (find (is_under (id_of v)) vs)) (own_id v))
found_own (v ∷ vs) w valid (suc k, within, is) =
    let held : Contains vs w = (k, omega arith, is) in
    ap (λ b. cond b (Some v) (find (is_under (id_of w)) vs)) (newer_apart v w (before_held v vs w valid held))
    ∙ found_own vs w (versions_behind v vs valid).1 held

-- the others of a list stay where none passes
filter-others : {X : Type 0} (p : X → Bool) (xs : List X) → ((x : X) → Contains xs x → p x ≡ false) → filter (λ x. not (p x)) xs ≡ xs
filter-others p [] apart = refl
filter-others p (x ∷ xs) apart =
    ap (λ b. cond (not b) (x ∷ filter (λ y. not (p y)) xs) (filter (λ y. not (p y)) xs)) (apart x (held_first x x xs refl))
    ∙ ap (λ ys. x ∷ ys) (filter-others p xs (λ y held. apart y (held_later y x xs held)))

-- without the first version the others are left
pub without_first : {B : Type 0} (v : Version B) (vs : List (Version B)) → are_versions (v ∷ vs) ≡ true → without (id_of v) (v ∷ vs) ≡ vs
unfolding without
without_first v vs valid =
    ap (λ b. cond (not b) (v ∷ filter (λ w. not (is_under (id_of v) w)) vs) (filter (λ w. not (is_under (id_of v) w)) vs)) (own_id v)
    ∙ filter-others (is_under (id_of v)) vs (λ w held. older_apart v w (before_held v vs w valid held))

-- without another version the first is left
pub first_left : {B : Type 0} (id : VersionId) (v : Version B) (vs : List (Version B)) → id ≢ id_of v → current (without id (v ∷ vs)) ≡ Some v
unfolding without
first_left id v vs apart =
    let other : is_under id v ≡ false = false_from_ne_true (is_under id v) (λ under. apart (one_id id v under)) in
    ap (λ b. current (cond (not b) (v ∷ filter (λ w. not (is_under id w)) vs) (filter (λ w. not (is_under id w)) vs))) other

-- what is left out twice is left out
filter-twice : {X : Type 0} (p : X → Bool) (xs : List X) → filter p (filter p xs) ≡ filter p xs
filter-twice p [] = refl
filter-twice p (x ∷ xs) =
    elim (p x) as (λ b. p x ≡ b → filter p (cond b (x ∷ filter p xs) (filter p xs)) ≡ cond b (x ∷ filter p xs) (filter p xs)) [
      | true ↦ λ is. ap (λ b. cond b (x ∷ filter p (filter p xs)) (filter p (filter p xs))) is ∙ ap (λ ys. x ∷ ys) (filter-twice p xs)
      | false ↦ λ is. filter-twice p xs
    ] refl

-- what was put in the place of an id, and is taken out by it, leaves those that were there without that
pub put_and_dropped : {B : Type 0} (id : VersionId) (v : Version B) (vs : List (Version B)) → is_under id v ≡ true → without id (v ∷ without id vs) ≡ without id vs
unfolding without
put_and_dropped id v vs under =
    ap (λ b. cond (not b) (v ∷ filter (λ w. not (is_under id w)) (filter (λ w. not (is_under id w)) vs)) (filter (λ w. not (is_under id w)) (filter (λ w. not (is_under id w)) vs))) under
    ∙ filter-twice (λ w. not (is_under id w)) vs

-- no version has a new number
not_under_new : {B : Type 0} (n : ℕ) (w : Version B) → nat_lt w.number n ≡ true → is_under (Numbered n) w ≡ false
not_under_new n w below = grind (arith, nat_tests)

pub without_new : {B : Type 0} (n : ℕ) (vs : List (Version B)) → is_new_number n vs ≡ true → without (Numbered n) vs ≡ vs
unfolding without is_new_number
without_new n vs new = filter-others (is_under (Numbered n)) vs (λ w held. not_under_new n w (passes_held (λ v. nat_lt v.number n) vs w new held))

-- those without the id `null`
pub without_null : {B : Type 0} (vs : List (Version B)) → without Null vs ≡ filter (λ v. not v.is_null) vs
unfolding without
without_null vs = refl
