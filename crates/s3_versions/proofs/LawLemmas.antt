-- The laws of the rules.
use Rattle.std.proofs.Common.{◌≡◌, refl, ap, ◌∙◌, ◌≢◌, ℕ, ◌<◌, ◌≤◌, arith, IsTrue, nat_lt, true, false, not, cond, List, ◌∷◌, Some, None, find}
use Rattle.std.proofs.lemmas.Bool.{false_from_ne_true, and_from, lt-ltb, ltb-true}
use Rattle.std.proofs.lemmas.Bool.Decides.{nat_tests}
use Rattle.std.proofs.lemmas.List.Filters.{sum_by-filter_both}
use Rattle.s3_names.specs.declared.ids.VersionId.{VersionId}
use Rattle.s3_names.specs.declared.ids.VersionId.TheVariants.{Null, Numbered}
use Rattle.s3_versions.specs.declared.version.Content.{Content}
use Rattle.s3_versions.specs.declared.version.Data.{Data}
use Rattle.s3_versions.specs.declared.version.Content.TheVariants.{DeleteMarker, Stored}
use Rattle.s3_versions.specs.declared.version.Version.{Version}
use Rattle.s3_versions.specs.declared.version.Versioning.{Versioning}
use Rattle.s3_versions.specs.declared.version.Versioning.TheVariants.{Unversioned, Enabled, Suspended}
use Rattle.s3_versions.specs.Rules.{is_under, asked_for, made, new_id, after_adding, after_delete, after_change, VersionPut, KeyDeleted, VersionDropped, without, is_new_number}
use Rattle.s3_versions.specs.Laws.{OneIdChanges, OneUnderEachId, ChangesLeaveVersions, NumbersStayNew, LaterIsNew, EnabledTakesNothing, OnlyNullGoes, SumOfWhatGoes, ChangesAreUnderOneId}
use Rattle.s3_versions.proofs.ListLemmas.{list_all-then, list_all-filter, length-filter_one, sum_by-filter_one, find-left, find-others}
use Rattle.s3_versions.proofs.VersionLemmas.{at_most_one, without-valid, new_precedes}

pub one_under_each_id : {B : Type 0} → OneUnderEachId B
one_under_each_id vs id valid = length-filter_one (is_under id) vs (at_most_one id vs valid)

pub changes_leave_versions : {B : Type 0} → ChangesLeaveVersions B
changes_leave_versions b (VersionPut n t stored) vs valid new = new_precedes (made b n t (Stored stored)) vs new valid
changes_leave_versions Unversioned (KeyDeleted n t) vs valid new = without-valid Null vs valid
changes_leave_versions Enabled (KeyDeleted n t) vs valid new = new_precedes (made Enabled n t DeleteMarker) vs new valid
changes_leave_versions Suspended (KeyDeleted n t) vs valid new = new_precedes (made Suspended n t DeleteMarker) vs new valid
changes_leave_versions b (VersionDropped id) vs valid new = without-valid id vs valid

lt_later : (a n m : ℕ) → a < n → n ≤ m → a < m
lt_later a n m below rises = omega arith

pub later_is_new : {B : Type 0} → LaterIsNew B
unfolding is_new_number
later_is_new n m vs rises new =
    list_all-then (λ v. nat_lt v.number n) (λ v. nat_lt v.number m) vs (λ v below. lt-ltb v.number m (lt_later v.number n m (ltb-true v.number n below) rises)) new

new_after_dropping : {B : Type 0} (m : ℕ) (id : VersionId) (vs : List (Version B)) → IsTrue (is_new_number m vs) → IsTrue (is_new_number m (without id vs))
unfolding is_new_number without
new_after_dropping m id vs new = list_all-filter (λ v. nat_lt v.number m) (λ v. not (is_under id v)) vs new

new_after_adding : {B : Type 0} (m : ℕ) (b : Versioning) (n t : ℕ) (content : Content B) (vs : List (Version B)) → IsTrue (is_new_number m vs) → n < m → IsTrue (is_new_number m (after_adding b n t content vs))
unfolding is_new_number
new_after_adding m b n t content vs new below = and_from _ _ (lt-ltb n m below) (new_after_dropping m (new_id b n) vs new)

pub numbers_stay_new : {B : Type 0} → NumbersStayNew B
numbers_stay_new m b (VersionPut n t stored) vs new below = new_after_adding m b n t (Stored stored) vs new below
numbers_stay_new m Unversioned (KeyDeleted n t) vs new below = new_after_dropping m Null vs new
numbers_stay_new m Enabled (KeyDeleted n t) vs new below = new_after_adding m Enabled n t DeleteMarker vs new below
numbers_stay_new m Suspended (KeyDeleted n t) vs new below = new_after_adding m Suspended n t DeleteMarker vs new below
numbers_stay_new m b (VersionDropped id) vs new below = new_after_dropping m id vs new

-- a version has one id
one_id : {B : Type 0} (a b : VersionId) (v : Version B) → is_under a v ≡ true → is_under b v ≡ true → a ≡ b
one_id Null Null v here there = refl
one_id Null (Numbered n) v here there = grind (arith, nat_tests)
one_id (Numbered m) Null v here there = grind (arith, nat_tests)
one_id (Numbered m) (Numbered n) v here there =
    let same : m ≡ n = grind (arith, nat_tests) in
    ap Numbered same

apart : {B : Type 0} (id other : VersionId) (v : Version B) → other ≢ id → is_under id v ≡ true → is_under other v ≡ false
apart id other v differ here = false_from_ne_true (is_under other v) (λ there. differ (one_id other id v there here))

left_under : {B : Type 0} (id : VersionId) (vs : List (Version B)) (other : VersionId) → other ≢ id → find (is_under other) (without id vs) ≡ find (is_under other) vs
unfolding without
left_under id vs other differ = find-others (is_under id) (is_under other) vs (λ v here. apart id other v differ here)

none_under : {B : Type 0} (id : VersionId) (vs : List (Version B)) → find (is_under id) (without id vs) ≡ None
unfolding without
none_under id vs = find-left (is_under id) vs

pub sum_of_what_goes : {B : Type 0} → SumOfWhatGoes B
unfolding without
sum_of_what_goes f vs id valid =
    let under = sum_by-filter_one f (is_under id) vs (at_most_one id vs valid) in
    let both = sum_by-filter_both (is_under id) (λ v. not (is_under id v)) (λ v. refl) f vs in
    omega arith

-- a version that is under an id stands in front, and one that isn't
found_first : {B : Type 0} (id : VersionId) (v : Version B) (vs : List (Version B)) → is_under id v ≡ true → find (is_under id) (v ∷ vs) ≡ Some v
found_first id v vs is = ap (λ b. cond b (Some v) (find (is_under id) vs)) is

passed : {B : Type 0} (id : VersionId) (v : Version B) (vs : List (Version B)) → is_under id v ≡ false → find (is_under id) (v ∷ vs) ≡ find (is_under id) vs
passed id v vs other = ap (λ b. cond b (Some v) (find (is_under id) vs)) other

-- what is made is under its new id, and under no other
made_here : {B : Type 0} (b : Versioning) (n t : ℕ) (content : Content B) → is_under (new_id b n) (made b n t content) ≡ true
made_here Unversioned n t content = refl
made_here Suspended n t content = refl
made_here Enabled n t content = grind (arith, nat_tests)

made_elsewhere : {B : Type 0} (b : Versioning) (n t : ℕ) (content : Content B) (other : VersionId) → other ≢ new_id b n → is_under other (made b n t content) ≡ false
made_elsewhere b n t content other differ = apart (new_id b n) other (made b n t content) differ (made_here b n t content)

adds_under_new_id : {B : Type 0} (b : Versioning) (n t : ℕ) (content : Content B) (vs : List (Version B)) → OneIdChanges (new_id b n) (Some (made b n t content)) vs (after_adding b n t content vs)
adds_under_new_id b n t content vs = record {
  here = found_first (new_id b n) (made b n t content) (without (new_id b n) vs) (made_here b n t content);
  elsewhere = λ other differ.
      passed other (made b n t content) (without (new_id b n) vs) (made_elsewhere b n t content other differ) ∙ left_under (new_id b n) vs other differ;
}

one_version_goes : {B : Type 0} (id : VersionId) (vs : List (Version B)) → OneIdChanges id None vs (without id vs)
one_version_goes id vs = record { here = none_under id vs; elsewhere = λ other differ. left_under id vs other differ }

pub changes_are_under_one_id : {B : Type 0} → ChangesAreUnderOneId B
changes_are_under_one_id b (VersionPut n t stored) vs = adds_under_new_id b n t (Stored stored) vs
changes_are_under_one_id Unversioned (KeyDeleted n t) vs = one_version_goes Null vs
changes_are_under_one_id Enabled (KeyDeleted n t) vs = adds_under_new_id Enabled n t DeleteMarker vs
changes_are_under_one_id Suspended (KeyDeleted n t) vs = adds_under_new_id Suspended n t DeleteMarker vs
changes_are_under_one_id b (VersionDropped id) vs = one_version_goes id vs

-- a put and a delete that names no version leave the others
others_stay : {B : Type 0} (b : Versioning) (n t : ℕ) (stored : Data B) (vs : List (Version B)) (id : VersionId) → id ≢ new_id b n
    → (asked_for (Some id) (after_change b (VersionPut n t stored) vs) ≡ asked_for (Some id) vs)
    × (asked_for (Some id) (after_delete b n t vs) ≡ asked_for (Some id) vs)
others_stay b n t stored vs id other =
    ((changes_are_under_one_id b (VersionPut n t stored) vs).elsewhere id other, (changes_are_under_one_id b (KeyDeleted n t) vs).elsewhere id other)

pub enabled_takes_nothing : {B : Type 0} → EnabledTakesNothing B
enabled_takes_nothing n t stored vs id other = others_stay Enabled n t stored vs id other

pub only_null_goes : {B : Type 0} → OnlyNullGoes B
only_null_goes Enabled n t stored vs id versioned other = absurd (versioned refl)
only_null_goes Unversioned n t stored vs id versioned other = others_stay Unversioned n t stored vs id other
only_null_goes Suspended n t stored vs id versioned other = others_stay Suspended n t stored vs id other
