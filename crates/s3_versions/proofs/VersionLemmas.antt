-- Versions of one key: what a put in front keeps, and what a version taken out leaves.
use Rattle.std.proofs.Common.{◌≡◌, refl, sym, arith, IsTrue, Bool, true, false, cond, not, ◌&&◌, nat_lt, ℕ, List, [], ◌∷◌, Option, Some, None, IfSome, IfNone, filter, find}
use Rattle.std.specs.List.{list_all, position, remove, slice_get}
use Rattle.std.proofs.lemmas.Bool.{and_parts, and_from}
use Rattle.std.proofs.lemmas.Bool.Decides.{nat_tests}
use Rattle.s3_names.specs.declared.ids.VersionId.{VersionId}
use Rattle.s3_names.specs.declared.ids.VersionId.TheVariants.{Null, Numbered}
use Rattle.s3_versions.specs.declared.version.Version.{Version}
use Rattle.s3_versions.specs.Rules.{id_of, is_under, may_precede, are_versions, is_new_number, without}
use Rattle.s3_versions.proofs.ListLemmas.{list_all-then, list_all-filter, list_all-kept, filter-all, find-none, AtMostOne, position-none, position-found, position-left}

-- of two versions in order, at most one is under an id
under_once : {B : Type 0} (id : VersionId) (v w : Version B) → may_precede v w ≡ true → is_under id v ≡ true → not (is_under id w) ≡ true
under_once Null v w order here = grind (arith, nat_tests)
under_once (Numbered number) v w order here = grind (arith, nat_tests)

-- an older version with another id may stand behind one
one_precedes : {B : Type 0} (is_null : Bool) (n : ℕ) (w : Version B) → nat_lt w.number n ≡ true → not (is_under (cond is_null Null (Numbered n)) w) ≡ true → (nat_lt w.number n && not (is_null && w.is_null)) ≡ true
one_precedes true n w older other = grind (arith, nat_tests)
one_precedes false n w older other = grind (arith, nat_tests)

-- no two versions have one id
pub at_most_one : {B : Type 0} (id : VersionId) (vs : List (Version B)) → are_versions vs ≡ true → AtMostOne (is_under id) vs
unfolding are_versions
at_most_one id [] valid = tt
at_most_one id (v ∷ vs) valid =
    let parts = and_parts _ _ valid in
    (λ here. list_all-then (may_precede v) (λ w. not (is_under id w)) vs (λ w order. under_once id v w order here) parts.0, at_most_one id vs parts.1)

-- some of a key's versions are versions of one key
kept_versions : {B : Type 0} (p : Version B → Bool) (vs : List (Version B)) → are_versions vs ≡ true → are_versions (filter p vs) ≡ true
unfolding are_versions
kept_versions p [] valid = refl
kept_versions p (v ∷ vs) valid =
    let parts = and_parts _ _ valid in
    let rest = kept_versions p vs parts.1 in
    elim (p v) as (λ b. are_versions (cond b (v ∷ filter p vs) (filter p vs)) ≡ true) [
      | true ↦ and_from _ _ (list_all-filter (may_precede v) p vs parts.0) rest
      | false ↦ rest
    ]

pub without-valid : {B : Type 0} (id : VersionId) (vs : List (Version B)) → IsTrue (are_versions vs) → IsTrue (are_versions (without id vs))
unfolding without
without-valid id vs valid = kept_versions (λ v. not (is_under id v)) vs valid

-- where no version is under the id, none is taken out
pub without-absent : {B : Type 0} (id : VersionId) (vs : List (Version B)) → find (is_under id) vs ≡ None → without id vs ≡ vs
unfolding without
without-absent id vs none = filter-all (λ v. not (is_under id v)) vs (find-none (is_under id) vs none)

-- a new version may stand before all others that don't have its id
all_precede : {B : Type 0} (v : Version B) (vs : List (Version B)) → list_all (λ w. nat_lt w.number v.number) vs ≡ true → list_all (λ w. not (is_under (id_of v) w)) vs ≡ true → list_all (may_precede v) vs ≡ true
all_precede v [] older others = refl
all_precede v (w ∷ vs) older others =
    let first = and_parts _ _ older in
    let second = and_parts _ _ others in
    let here : may_precede v w ≡ true = one_precedes v.is_null v.number w first.0 second.0 in
    and_from _ _ here (all_precede v vs first.1 second.1)

pub new_precedes : {B : Type 0} (v : Version B) (vs : List (Version B)) → IsTrue (is_new_number v.number vs) → IsTrue (are_versions vs) → IsTrue (are_versions (v ∷ without (id_of v) vs))
unfolding are_versions is_new_number without
new_precedes v vs new valid =
    let older = list_all-filter (λ w. nat_lt w.number v.number) (λ w. not (is_under (id_of v) w)) vs new in
    let others = list_all-kept (λ w. not (is_under (id_of v) w)) vs in
    and_from _ _ (all_precede v (filter (λ w. not (is_under (id_of v) w)) vs) older others) (kept_versions (λ w. not (is_under (id_of v) w)) vs valid)

-- where no place is found, no version is under the id
pub place-absent : {B : Type 0} (id : VersionId) (vs : List (Version B)) (place : Option ℕ) → place ≡ position (is_under id) vs → IfNone place (find (is_under id) vs ≡ None)
place-absent id vs None is = position-none (is_under id) vs (sym is)
place-absent id vs (Some place) is = tt

pub place-found : {B : Type 0} (id : VersionId) (vs : List (Version B)) (place : Option ℕ) → place ≡ position (is_under id) vs → IfSome place (λ i. find (is_under id) vs ≡ slice_get vs i)
place-found id vs None is = tt
place-found id vs (Some place) is = position-found (is_under id) vs place (sym is)

pub place-left : {B : Type 0} (id : VersionId) (vs : List (Version B)) (place : Option ℕ) → IsTrue (are_versions vs) → place ≡ position (is_under id) vs → IfSome place (λ i. remove vs i ≡ without id vs)
unfolding without
place-left id vs None valid is = tt
place-left id vs (Some place) valid is = position-left (is_under id) vs place (at_most_one id vs valid) (sym is)

pub place-all : {B : Type 0} (id : VersionId) (vs : List (Version B)) (place : Option ℕ) → place ≡ position (is_under id) vs → IfNone place (without id vs ≡ vs)
place-all id vs None is = without-absent id vs (position-none (is_under id) vs (sym is))
place-all id vs (Some place) is = tt

pub ruleset places = (place-absent, place-all, place-found, place-left, without-valid)
