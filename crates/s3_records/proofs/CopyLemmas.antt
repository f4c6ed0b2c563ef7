-- The versions of one key, put in front of each other from the oldest on.
use Rattle.std.proofs.Common.{◌≡◌, refl, sym, ap, ◌∙◌, Bool, true, false, cond, not, ◌&&◌, ◌==◌, nat_lt, ℕ, zero, suc, ◌+◌, ◌-◌, ◌<◌, List, [], ◌∷◌, length, get_or, drop, arith}
use Rattle.std.proofs.lemmas.Bool.{false≢true, and_parts, and_from}
use Rattle.std.proofs.lemmas.Bool.Decides.{nat_tests}
use Rattle.std.proofs.lemmas.List.{drop_more}
use Rattle.std.specs.List.{list_all}
use Rattle.s3_names.specs.declared.ids.VersionId.TheVariants.{Null, Numbered}
use Rattle.s3_versions.specs.declared.version.Version.{Version}
use Rattle.s3_versions.specs.declared.version.Versioning.{Versioning}
use Rattle.s3_versions.specs.Rules.{id_of, is_under, without, makes_null, after_adding, may_precede, are_versions, is_new_number}

older : {B : Type 0} (v : Version B) (vs : List (Version B)) → list_all (may_precede v) vs ≡ true → is_new_number v.number vs ≡ true
unfolding is_new_number
older v [] all = refl
older v (w ∷ vs) all =
    let parts = and_parts (may_precede v w) (list_all (may_precede v) vs) all in
    and_from (nat_lt w.number v.number) (list_all (λ w. nat_lt w.number v.number) vs) (and_parts (nat_lt w.number v.number) (not (v.is_null && w.is_null)) parts.0).0 (older v vs parts.1)

-- the number of the first is above those of the others
pub is_newest : {B : Type 0} (v : Version B) (vs : List (Version B)) → are_versions (v ∷ vs) ≡ true → is_new_number v.number vs ≡ true
unfolding are_versions
is_newest v vs valid = older v vs (and_parts (list_all (may_precede v) vs) (are_versions vs) valid).0

not_true : (x : Bool) → not x ≡ true → x ≡ false
not_true true is = absurd (false≢true is)
not_true false is = refl

not_null : {B : Type 0} (v w : Version B) → (nat_lt w.number v.number && not (true && w.is_null)) ≡ true → is_under Null w ≡ false
not_null v w may = not_true w.is_null (and_parts (nat_lt w.number v.number) (not (true && w.is_null)) may).1

pub below_not : (k n : ℕ) → nat_lt k n ≡ true → (k == n) ≡ false
below_not k n below = grind (arith, nat_tests)

pub and_no : (x : Bool) → (x && false) ≡ false
and_no true = refl
and_no false = refl

not_number : {B : Type 0} (v w : Version B) → (nat_lt w.number v.number && not (false && w.is_null)) ≡ true → is_under (Numbered v.number) w ≡ false
not_number v w may =
    ap (λ x. not w.is_null && x) (below_not w.number v.number (and_parts (nat_lt w.number v.number) (not (false && w.is_null)) may).0) ∙ and_no (not w.is_null)

differ : {B : Type 0} (v w : Version B) → may_precede v w ≡ true → is_under (id_of v) w ≡ false
differ v w may =
    elim v.is_null as (λ b. (nat_lt w.number v.number && not (b && w.is_null)) ≡ true → is_under (cond b Null (Numbered v.number)) w ≡ false) [
      | true ↦ not_null v w
      | false ↦ not_number v w
    ] may

others : {B : Type 0} (v : Version B) (vs : List (Version B)) → list_all (may_precede v) vs ≡ true → without (id_of v) vs ≡ vs
unfolding without
others v [] all = refl
others v (w ∷ vs) all =
    let parts = and_parts (may_precede v w) (list_all (may_precede v) vs) all in
    ap (λ b. cond (not b) (w ∷ without (id_of v) vs) (without (id_of v) vs)) (differ v w parts.0) ∙ ap (λ rest. w ∷ rest) (others v vs parts.1)

-- so it is put in front, and none goes
pub put_again : {B : Type 0} (b : Versioning) (v : Version B) (vs : List (Version B)) → makes_null b ≡ v.is_null → are_versions (v ∷ vs) ≡ true → after_adding b v.number v.moment v.content vs ≡ v ∷ vs
unfolding are_versions
put_again b v vs is valid =
    ap (λ x. record { is_null = x; number = v.number; moment = v.moment; content = v.content } ∷ without (cond x Null (Numbered v.number)) vs) is
    ∙ ap (λ rest. v ∷ rest) (others v vs (and_parts (list_all (may_precede v) vs) (are_versions vs) valid).0)

-- what is behind one of them are versions of the key, too
pub valid_rest : {B : Type 0} (vs : List (Version B)) (k : ℕ) → are_versions vs ≡ true → are_versions (drop k vs) ≡ true
unfolding are_versions
valid_rest vs zero valid = valid
valid_rest [] (suc k) valid = valid
valid_rest (v ∷ vs) (suc k) valid = valid_rest vs k (and_parts (list_all (may_precede v) vs) (are_versions vs) valid).1

-- one more from the end
pub one_before : {A : Type 0} (xs : List A) (i : ℕ) (x : A) → x ≡ get_or xs (length xs - 1 - i) x → i < length xs → drop (length xs - (i + 1)) xs ≡ x ∷ drop (length xs - i) xs
one_before xs i x is within =
    let k = length xs - 1 - i in
    let same : length xs - (i + 1) ≡ k = omega arith in
    let next : k + 1 ≡ length xs - i = omega arith in
    ap (λ j. drop j xs) same ∙ drop_more xs k x (omega arith) ∙ ap (λ y. y ∷ drop (k + 1) xs) (sym is) ∙ ap (λ j. x ∷ drop j xs) next
