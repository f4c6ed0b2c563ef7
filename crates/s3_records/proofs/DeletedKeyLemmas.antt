-- What several deletions make of the versions of one key that they name without a version.
use Rattle.std.proofs.Common.{◌≡◌, ◌≢◌, inl, inr, refl, sym, ap, subst, ◌∙◌, Bool, true, false, cond, not, ◌||◌, ◌&&◌, ◌==◌, nat_lt, ℕ, List, [], ◌∷◌, find, Some, None, arith}
use Rattle.std.proofs.lemmas.Bool.{false≢true, and_parts, and_from, eqb-true}
use Rattle.std.proofs.lemmas.Bool.Decides.{nat_tests}
use Rattle.std.proofs.lemmas.Option.{none-some, same_Some}
use Rattle.std.specs.List.{list_all}
use Rattle.s3_names.specs.declared.ids.VersionId.{VersionId}
use Rattle.s3_names.specs.declared.ids.VersionId.TheVariants.{Null, Numbered}
use Rattle.s3_versions.specs.declared.version.Content.{Content}
use Rattle.s3_versions.specs.declared.version.Content.TheVariants.{DeleteMarker}
use Rattle.s3_versions.specs.declared.version.Version.{Version}
use Rattle.s3_versions.specs.declared.version.Versioning.{Versioning}
use Rattle.s3_versions.specs.declared.version.Versioning.TheVariants.{Unversioned, Enabled, Suspended}
use Rattle.s3_versions.specs.Laws.{marker_made, ChangesAreUnderOneId, NumbersStayNew}
use Rattle.s3_versions.specs.Rules.{is_under, current, asked_for, without, new_id, made, after_delete, after_change, is_new_number}
use Rattle.s3_deletions.specs.Deletions.{is_own, has_made, acts, change_named}
use Rattle.s3_deletions.specs.declared.named.NamedObject.{NamedObject}
use Rattle.s3_records.specs.DeletionLaws.{Names, MakesAt, IsDeleted}
use Rattle.s3_records.proofs.CopyLemmas.{below_not, and_no}
use Rattle.s3_records.proofs.DeletedVersionLemmas.{names_first, names_later, first_or_later, none_named, this, vs_one, vs_all, step, named, still_gone, gone}

is_itself : (n : ℕ) → (n == n) ≡ true
is_itself n = grind (arith, nat_tests)

-- what isn't the entry's own, and isn't `null`, has another id than what the entry makes
not_own : (b : Versioning) (n : ℕ) (i : VersionId) → not (is_own n i) ≡ true → i ≢ Null → new_id b n ≢ i
not_own Unversioned n i other some is = some (sym is)
not_own Suspended n i other some is = some (sym is)
not_own Enabled n i other some is = false≢true (ap not (sym (is_itself n)) ∙ ap (λ j. not (is_own n j)) is ∙ other)

own_is : (n : ℕ) (i : VersionId) → is_own n i ≡ true → i ≡ Numbered n
own_is n Null own = absurd (false≢true own)
own_is n (Numbered m) own = ap Numbered (eqb-true m n own)

not_under : {B : Type 0} (b : Versioning) (n t : ℕ) (content : Content B) (i : VersionId) → new_id b n ≢ i → is_under i (made b n t content) ≡ false
not_under Unversioned n t content Null other = absurd (other refl)
not_under Suspended n t content Null other = absurd (other refl)
not_under Enabled n t content Null other = refl
not_under Unversioned n t content (Numbered k) other = refl
not_under Suspended n t content (Numbered k) other = refl
not_under Enabled n t content (Numbered k) other =
    elim (n == k) as (λ x. (n == k) ≡ x → x ≡ false) [
      | true ↦ λ is. absurd (other (ap Numbered (eqb-true n k is)))
      | false ↦ λ is. refl
    ] refl

-- the first version, where others go
first_kept : {B : Type 0} (i : VersionId) (vs : List (Version B)) (v : Version B) → current vs ≡ Some v → is_under i v ≡ false → current (without i vs) ≡ Some v
unfolding without
first_kept i [] v first other = absurd (none-some v first)
first_kept i (w ∷ vs) v first other =
    ap (λ x. current (cond (not x) (w ∷ without i vs) (without i vs))) (ap (is_under i) (same_Some w v first) ∙ other) ∙ first

front_made : {B : Type 0} (b : Versioning) (n t : ℕ) (vs : List (Version B)) → b ≢ Unversioned → current (after_delete b n t vs) ≡ marker_made b n t
front_made Unversioned n t vs versioned = absurd (versioned refl)
front_made Enabled n t vs versioned = refl
front_made Suspended n t vs versioned = refl

front_stays : {B : Type 0} (b : Versioning) (n t : ℕ) (i : VersionId) (vs : List (Version B)) → b ≢ Unversioned → new_id b n ≢ i → current vs ≡ marker_made b n t → current (without i vs) ≡ marker_made b n t
front_stays Unversioned n t i vs versioned other first = absurd (versioned refl)
front_stays Enabled n t i vs versioned other first = first_kept i vs (made Enabled n t DeleteMarker) first (not_under Enabled n t DeleteMarker i other)
front_stays Suspended n t i vs versioned other first = first_kept i vs (made Suspended n t DeleteMarker) first (not_under Suspended n t DeleteMarker i other)

module _ {B : Type 0} (b : Versioning) (n t : ℕ) where
  -- where the number is above those of all versions, the entry has made none of them
  not_made : (vs : List (Version B)) → is_new_number n vs ≡ true → has_made n vs ≡ false
  unfolding is_new_number
  not_made [] new = refl
  not_made (v ∷ vs) new =
      let parts = and_parts (nat_lt v.number n) (is_new_number n vs) new in
      ap (λ x. x || has_made n vs) (below_not v.number n parts.0) ∙ not_made vs parts.1

  -- ---- a version that is named by its id is gone, and one of the entry's own id was never there
  none_own : (vs : List (Version B)) → is_new_number n vs ≡ true → asked_for (Some (Numbered n)) vs ≡ None
  unfolding is_new_number
  none_own [] new = refl
  none_own (v ∷ vs) new =
      let parts = and_parts (nat_lt v.number n) (is_new_number n vs) new in
      let other : is_under (Numbered n) v ≡ false = ap (λ x. not v.is_null && x) (below_not v.number n parts.0) ∙ and_no (not v.is_null) in
      ap (λ x. cond x (Some v) (find (is_under (Numbered n)) vs)) other ∙ none_own vs parts.1

  pub named_gone : ChangesAreUnderOneId B → (q : List ℕ) (id : VersionId) (objects : List NamedObject) (vs : List (Version B)) → is_new_number n vs ≡ true → Names objects q (Some id)
      → (MakesAt b n objects q id → marker_made {B = B} b n t ≡ None) → asked_for (Some id) (vs_all b n t q objects vs) ≡ None
  named_gone under q id objects vs new names unmade =
      elim (is_own n id) as (λ x. is_own n id ≡ x → asked_for (Some id) (vs_all b n t q objects vs) ≡ None) [
        | true ↦ λ own. still_gone b n t under q id objects vs unmade (ap (λ i. asked_for (Some i) vs) (own_is n id own) ∙ none_own vs new)
        | false ↦ λ other. gone b n t under q id objects vs names other unmade
      ] refl

  -- ---- What a deletion of the key alone makes true, and later ones don't change, is true after all of them.
  module _ (q : List ℕ) (M Q : List (Version B) → Type 0) (May : VersionId → Type 0)
      (makes : (vs : List (Version B)) → Q vs → M (after_delete b n t vs))
      (again : (vs : List (Version B)) → M vs → M (after_delete b n t vs))
      (stays : (i : VersionId) (vs : List (Version B)) → acts n (Some i) vs ≡ true → May i → M vs → M (without i vs))
      (kept : (i : VersionId) (vs : List (Version B)) → Q vs → Q (without i vs))
      (new : (vs : List (Version B)) → Q vs → is_new_number n vs ≡ true)
    where
      after_it : (object : NamedObject) (vs : List (Version B)) → ((i : VersionId) → object ≡ this q (Some i) → May i) → M vs → M (vs_one b n t q object vs)
      after_it object vs may made = step b n t M q object vs made (λ version is acting.
          elim version as (λ v. object ≡ this q v → acts n v vs ≡ true → M (after_change b (change_named n t v) vs)) [
            | None ↦ λ is acting. again vs made
            | Some i ↦ λ is acting. stays i vs acting (may i is) made
          ] is acting)

      made_stays : (objects : List NamedObject) (vs : List (Version B)) → ((i : VersionId) → Names objects q (Some i) → May i) → M vs → M (vs_all b n t q objects vs)
      made_stays [] vs may made = made
      made_stays (object ∷ objects) vs may made =
          made_stays objects (vs_one b n t q object vs) (λ i later. may i (names_later _ object objects later)) (after_it object vs (λ i is. may i (names_first _ object objects is)) made)

      pub made_by_all : (objects : List NamedObject) (vs : List (Version B)) → ((i : VersionId) → Names objects q (Some i) → May i) → Q vs → Names objects q None → M (vs_all b n t q objects vs)
      made_by_all [] vs may holds names = absurd (none_named _ names)
      made_by_all (object ∷ objects) vs may holds names =
          let later = λ (i : VersionId) (there : Names objects q (Some i)). may i (names_later _ object objects there) in
          elim (first_or_later _ object objects names) [
            | inl is ↦
                let one = ap (λ o. vs_one b n t q o vs) is ∙ named b n t q None vs (ap not (not_made vs (new vs holds))) in
                made_stays objects (vs_one b n t q object vs) later (subst M (sym one) (makes vs holds))
            | inr there ↦ step b n t (λ ws. M (vs_all b n t q objects ws)) q object vs (made_by_all objects vs later holds there) (λ version is acting.
                elim version as (λ v. M (vs_all b n t q objects (after_change b (change_named n t v) vs))) [
                  | None ↦ made_stays objects (after_delete b n t vs) later (makes vs holds)
                  | Some i ↦ made_by_all objects (without i vs) later (kept i vs holds) there
                ])
          ]

  -- an id that a deletion drops is not that of what the entry makes, unless it is `null`
  other_than_new : (i : VersionId) (vs : List (Version B)) → acts n (Some i) vs ≡ true → i ≢ Null → new_id b n ≢ i
  other_than_new i vs acting other = not_own b n i acting other

  new_stays : NumbersStayNew B → (i : VersionId) (vs : List (Version B)) → is_new_number n vs ≡ true → is_new_number n (without i vs) ≡ true
  new_stays stay i vs new = stay n b (change_named n t (Some i)) vs new tt

  -- ---- so is the delete marker
  pub marker_there : ChangesAreUnderOneId B → NumbersStayNew B → (q : List ℕ) (objects : List NamedObject) (vs : List (Version B)) → is_new_number n vs ≡ true → IsDeleted objects q
      → asked_for (Some (new_id b n)) (vs_all b n t q objects vs) ≡ marker_made b n t
  marker_there under stay q objects vs new deleted =
      let id = new_id b n in
      let here = λ (vs : List (Version B)). (under b (change_named n t None) vs).here in
      made_by_all q (λ ws. asked_for (Some id) ws ≡ marker_made b n t) (λ ws. is_new_number n ws ≡ true) (λ i. i ≢ Null)
      (λ ws new. here ws) (λ ws made. here ws)
      (λ i ws acting may made. (under b (change_named n t (Some i)) ws).elsewhere id (other_than_new i ws acting may) ∙ made)
      (new_stays stay) (λ ws new. new) objects vs (λ i named null. deleted.1 (subst (λ j. Names objects q (Some j)) null named)) new deleted.0

  -- ---- and it is the current version
  pub marker_current : NumbersStayNew B → (q : List ℕ) (objects : List NamedObject) (vs : List (Version B)) → is_new_number n vs ≡ true → IsDeleted objects q → b ≢ Unversioned
      → asked_for None (vs_all b n t q objects vs) ≡ marker_made b n t
  marker_current stay q objects vs new deleted versioned =
      made_by_all q (λ ws. current ws ≡ marker_made b n t) (λ ws. is_new_number n ws ≡ true) (λ i. i ≢ Null)
      (λ ws new. front_made b n t ws versioned) (λ ws made. front_made b n t ws versioned)
      (λ i ws acting may made. front_stays b n t i ws versioned (other_than_new i ws acting may) made)
      (new_stays stay) (λ ws new. new) objects vs (λ i named null. deleted.1 (subst (λ j. Names objects q (Some j)) null named)) new deleted.0

-- ---- where a bucket is unversioned and all its versions are `null`, none is left
module _ {B : Type 0} (n t : ℕ) where
  abbrev are_null : List (Version B) → Bool
  are_null vs = list_all (λ v. v.is_null) vs

  none_of : (vs : List (Version B)) → are_null vs ≡ true → without Null vs ≡ []
  unfolding without
  none_of [] all = refl
  none_of (v ∷ vs) all =
      let parts = and_parts v.is_null (are_null vs) all in
      ap (λ x. cond (not x) (v ∷ without Null vs) (without Null vs)) parts.0 ∙ none_of vs parts.1

  without_nothing : (i : VersionId) (vs : List (Version B)) → vs ≡ [] → without i vs ≡ []
  unfolding without
  without_nothing i vs none = ap (without i) none

  null_if : (x : Bool) (v : Version B) (vs : List (Version B)) → v.is_null ≡ true → are_null vs ≡ true → are_null (cond x (v ∷ vs) vs) ≡ true
  null_if true v vs one all = and_from v.is_null (are_null vs) one all
  null_if false v vs one all = all

  stay_null : (i : VersionId) (vs : List (Version B)) → are_null vs ≡ true → are_null (without i vs) ≡ true
  unfolding without
  stay_null i [] all = refl
  stay_null i (v ∷ vs) all =
      let parts = and_parts v.is_null (are_null vs) all in
      null_if (not (is_under i v)) v (without i vs) parts.0 (stay_null i vs parts.1)

  pub none_left : NumbersStayNew B → (q : List ℕ) (objects : List NamedObject) (vs : List (Version B)) → is_new_number n vs ≡ true → are_null vs ≡ true → Names objects q None
      → vs_all Unversioned n t q objects vs ≡ []
  none_left stay q objects vs new null names =
      made_by_all Unversioned n t q (λ ws. ws ≡ []) (λ ws. (is_new_number n ws ≡ true) × (are_null ws ≡ true)) (λ i. Unit {0})
      (λ ws holds. none_of ws holds.1) (λ ws none. without_nothing Null ws none) (λ i ws acting may none. without_nothing i ws none)
      (λ i ws holds. (new_stays Unversioned n t stay i ws holds.0, stay_null i ws holds.1)) (λ ws holds. holds.0) objects vs (λ i named. tt) (new, null) names
