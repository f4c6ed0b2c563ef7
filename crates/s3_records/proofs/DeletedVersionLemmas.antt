-- What several deletions leave of the versions of one key.
use Rattle.std.proofs.Common.{◌≡◌, ◌≢◌, ◌⊎◌, inl, inr, refl, sym, ap, ◌∙◌, true, false, cond, not, ℕ, zero, suc, List, [], ◌∷◌, Option, Some, None, arith}
use Rattle.std.specs.List.{Contains}
use Rattle.std.specs.Str.{bytes_eq}
use Rattle.s3_names.specs.declared.ids.VersionId.{VersionId}
use Rattle.s3_names.specs.declared.ids.VersionId.TheVariants.{Null, Numbered}
use Rattle.s3_versions.specs.declared.version.Version.{Version}
use Rattle.s3_versions.specs.declared.version.Versioning.{Versioning}
use Rattle.s3_versions.specs.Laws.{id_changed, marker_made, ChangesAreUnderOneId}
use Rattle.s3_versions.specs.Rules.{asked_for, without, new_id, after_delete, after_change}
use Rattle.s3_deletions.specs.Deletions.{is_own, acts, change_named}
use Rattle.s3_deletions.specs.declared.named.NamedObject.{NamedObject}
use Rattle.s3_deletions.specs.declared.named.NamedObject.TheVariants.{Object, Fault}
use Rattle.s3_records.specs.Catalogue.{found_versions}
use Rattle.s3_records.specs.DeletionLaws.{Names, MakesAt, IsLeft}
use Rattle.s3_records.specs.Merging.{held}
use Rattle.s3_records.proofs.DeletionLemmas.{text_is, found-held, after_named, after_one, after_all}
use Rattle.s3_records.proofs.MergingLemmas.{same_text}
use Rattle.s3_records.proofs.UploadLawLemmas.{same_or_id}

-- the first of some, and one of the others
pub names_first : {A : Type 0} (x first : A) (rest : List A) → first ≡ x → Contains (first ∷ rest) x
names_first x first rest is = (zero, omega arith, is)

pub names_later : {A : Type 0} (x first : A) (rest : List A) → Contains rest x → Contains (first ∷ rest) x
names_later x first rest (k, within, is) = (suc k, omega arith, is)

pub first_or_later : {A : Type 0} (x first : A) (rest : List A) → Contains (first ∷ rest) x → (first ≡ x) ⊎ Contains rest x
first_or_later x first rest (zero, within, is) = inl is
first_or_later x first rest (suc k, within, is) = inr (k, omega arith, is)

pub none_named : {A : Type 0} (x : A) → ¬ Contains [] x
none_named x (k, within, is) = omega (arith, within)

-- two ids of versions are the same, or not
same_or_version : (i j : VersionId) → (i ≡ j) ⊎ (i ≢ j)
same_or_version Null Null = inl refl
same_or_version Null (Numbered m) = inr (λ is. cc)
same_or_version (Numbered k) Null = inr (λ is. cc)
same_or_version (Numbered k) (Numbered m) =
    elim (same_or_id k m) [
      | inl same ↦ inl (ap Numbered same)
      | inr other ↦ inr (λ is. other (cc))
    ]

-- an object that is this version of a key, or the key alone
abbrev pub this : List ℕ → Option VersionId → NamedObject
this key version = Object (record { key = key; version = version })

-- the id that it changes, where a place isn't touched, is another
other_changed : (B : Type 0) (b : Versioning) (n t : ℕ) (q : List ℕ) (id : VersionId) (object : NamedObject) (objects : List NamedObject) (version : Option VersionId) → object ≡ this q version
    → ¬ Names (object ∷ objects) q (Some id) → ¬ MakesAt b n (object ∷ objects) q id → id ≢ id_changed b (change_named {B = B} n t version)
other_changed B b n t q id object objects None is unnamed unmade same = unmade (names_first _ object objects is, same)
other_changed B b n t q id object objects (Some i) is unnamed unmade same = unnamed (names_first _ object objects (is ∙ ap (λ j. this q (Some j)) (sym same)))

module _ {B : Type 0} (b : Versioning) (n t : ℕ) where
  -- the versions under a key after a deletion that names it, after one of any key, and after all
  abbrev pub vs_named : Option VersionId → List (Version B) → List (Version B)
  vs_named version vs = cond (acts n version vs) (after_change b (change_named n t version) vs) vs

  abbrev pub vs_one : List ℕ → NamedObject → List (Version B) → List (Version B)
  vs_one q (Object d) vs = cond (bytes_eq d.key q) (vs_named d.version vs) vs
  vs_one q (Fault fault) vs = vs

  abbrev pub vs_all : List ℕ → List NamedObject → List (Version B) → List (Version B)
  vs_all q [] vs = vs
  vs_all q (object ∷ objects) vs = vs_all q objects (vs_one q object vs)

  found_named : (version : Option VersionId) (found : Option (List (Version B))) → found_versions (after_named b n t version found) ≡ vs_named version (found_versions found)
  found_named version found =
      let vs = after_change b (change_named n t version) (found_versions found) in
      elim (acts n version (found_versions found)) as (λ a. found_versions (cond a (held vs) found) ≡ cond a vs (found_versions found)) [
        | true ↦ found-held vs
        | false ↦ refl
      ]

  found_one : (q : List ℕ) (object : NamedObject) (found : Option (List (Version B))) → found_versions (after_one b n t q object found) ≡ vs_one q object (found_versions found)
  found_one q (Object d) found =
      elim (bytes_eq d.key q) as (λ x. found_versions (cond x (after_named b n t d.version found) found) ≡ cond x (vs_named d.version (found_versions found)) (found_versions found)) [
        | true ↦ found_named d.version found
        | false ↦ refl
      ]
  found_one q (Fault fault) found = refl

  pub found_all : (q : List ℕ) (objects : List NamedObject) (found : Option (List (Version B))) → found_versions (after_all b n t q objects found) ≡ vs_all q objects (found_versions found)
  found_all q [] found = refl
  found_all q (object ∷ objects) found = found_all q objects (after_one b n t q object found) ∙ ap (vs_all q objects) (found_one q object found)

  -- a deletion leaves the versions, or names the key and changes them
  pub step : (P : List (Version B) → Type 0) (q : List ℕ) (object : NamedObject) (vs : List (Version B)) → P vs
      → ((version : Option VersionId) → object ≡ this q version → acts n version vs ≡ true → P (after_change b (change_named n t version) vs))
      → P (vs_one q object vs)
  step P q (Object d) vs same changed =
      elim (bytes_eq d.key q) as (λ x. bytes_eq d.key q ≡ x → P (cond x (vs_named d.version vs) vs)) [
        | true ↦ λ named. elim (acts n d.version vs) as (λ a. acts n d.version vs ≡ a → P (cond a (after_change b (change_named n t d.version) vs) vs)) [
          | true ↦ λ acting. changed d.version (ap (λ k. this k d.version) (sym (same_text d.key q named))) acting
          | false ↦ λ not. same
        ] refl
        | false ↦ λ other. same
      ] refl
  step P q (Fault fault) vs same changed = same

  -- one that names it and acts
  pub named : (q : List ℕ) (version : Option VersionId) (vs : List (Version B)) → acts n version vs ≡ true → vs_one q (this q version) vs ≡ after_change b (change_named n t version) vs
  named q version vs acting =
      ap (λ x. cond x (vs_named version vs) vs) (text_is q) ∙ ap (λ a. cond a (after_change b (change_named n t version) vs) vs) acting

  -- ---- a key that isn't named has what it had
  pub other_key : (q : List ℕ) (objects : List NamedObject) (vs : List (Version B)) → ((version : Option VersionId) → ¬ Names objects q version) → vs_all q objects vs ≡ vs
  other_key q [] vs none = refl
  other_key q (object ∷ objects) vs none =
      ap (vs_all q objects) (step (λ ws. ws ≡ vs) q object vs refl (λ version is acting. absurd (none version (names_first _ object objects is))))
      ∙ other_key q objects vs (λ version later. none version (names_later _ object objects later))

  -- ---- by places, where a change leaves something else under one id
  module _ (under : ChangesAreUnderOneId B) (q : List ℕ) where
    pub other_id : (id : VersionId) (objects : List NamedObject) (vs : List (Version B)) → ¬ Names objects q (Some id) → ¬ MakesAt b n objects q id
        → asked_for (Some id) (vs_all q objects vs) ≡ asked_for (Some id) vs
    other_id id [] vs unnamed unmade = refl
    other_id id (object ∷ objects) vs unnamed unmade =
        other_id id objects (vs_one q object vs) (λ later. unnamed (names_later _ object objects later)) (λ makes. unmade (names_later _ object objects makes.0, makes.1))
        ∙ step (λ ws. asked_for (Some id) ws ≡ asked_for (Some id) vs) q object vs refl (λ version is acting.
        (under b (change_named n t version) vs).elsewhere id (other_changed B b n t q id object objects version is unnamed unmade))

    -- what one of them leaves at a place
    abbrev OneLeft : VersionId → NamedObject → List (Version B) → List (Version B) → Type 0
    OneLeft id object vs ws =
        (asked_for (Some id) ws ≡ asked_for (Some id) vs)
        ⊎ ((asked_for (Some id) ws ≡ None) ⊎ (((object ≡ this q None) × (id ≡ new_id b n)) × (asked_for (Some id) ws ≡ marker_made b n t)))

    left_here : (id : VersionId) (object : NamedObject) (vs : List (Version B)) (version : Option VersionId) → object ≡ this q version
        → id ≡ id_changed b (change_named {B = B} n t version) → OneLeft id object vs (after_change b (change_named n t version) vs)
    left_here id object vs None is same = inr (inr ((is, same), ap (λ i. asked_for (Some i) (after_delete b n t vs)) same ∙ (under b (change_named n t None) vs).here))
    left_here id object vs (Some i) is same = inr (inl (ap (λ j. asked_for (Some j) (without i vs)) same ∙ (under b (change_named n t (Some i)) vs).here))

    one_left : (id : VersionId) (object : NamedObject) (vs : List (Version B)) → OneLeft id object vs (vs_one q object vs)
    one_left id object vs = step (OneLeft id object vs) q object vs (inl refl) (λ version is acting.
        elim (same_or_version id (id_changed b (change_named {B = B} n t version))) [
          | inl same ↦ left_here id object vs version is same
          | inr other ↦ inl ((under b (change_named n t version) vs).elsewhere id other)
        ])

    then_left : (id : VersionId) (object : NamedObject) (objects : List NamedObject) (vs ws : List (Version B)) (now : Option (Version B)) → OneLeft id object vs ws
        → IsLeft b n t objects q id (asked_for (Some id) ws) now → IsLeft b n t (object ∷ objects) q id (asked_for (Some id) vs) now
    then_left id object objects vs ws now first rest =
        elim rest [
          | inl same ↦ elim first [
            | inl is ↦ inl (same ∙ is)
            | inr other ↦ elim other [
              | inl none ↦ inr (inl (same ∙ none))
              | inr marker ↦ inr (inr ((names_first _ object objects marker.0.0, marker.0.1), same ∙ marker.1))
            ]
          ]
          | inr other ↦ elim other [
            | inl none ↦ inr (inl none)
            | inr marker ↦ inr (inr ((names_later _ object objects marker.0.0, marker.0.1), marker.1))
          ]
        ]

    pub each : (id : VersionId) (objects : List NamedObject) (vs : List (Version B)) → IsLeft b n t objects q id (asked_for (Some id) vs) (asked_for (Some id) (vs_all q objects vs))
    each id [] vs = inl refl
    each id (object ∷ objects) vs = then_left id object objects vs (vs_one q object vs) _ (one_left id object vs) (each id objects (vs_one q object vs))

    -- ---- what is named by its id is gone
    pub still_gone : (id : VersionId) (objects : List NamedObject) (vs : List (Version B)) → (MakesAt b n objects q id → marker_made {B = B} b n t ≡ None)
        → asked_for (Some id) vs ≡ None → asked_for (Some id) (vs_all q objects vs) ≡ None
    still_gone id objects vs unmade none =
        elim (each id objects vs) [
          | inl same ↦ same ∙ none
          | inr other ↦ elim other [
            | inl gone ↦ gone
            | inr marker ↦ marker.1 ∙ unmade marker.0
          ]
        ]

    dropped : (id : VersionId) (object : NamedObject) (vs : List (Version B)) → object ≡ this q (Some id) → is_own n id ≡ false → asked_for (Some id) (vs_one q object vs) ≡ None
    dropped id object vs is own =
        ap (λ o. asked_for (Some id) (vs_one q o vs)) is ∙ ap (asked_for (Some id)) (named q (Some id) vs (ap not own)) ∙ (under b (change_named n t (Some id)) vs).here

    pub gone : (id : VersionId) (objects : List NamedObject) (vs : List (Version B)) → Names objects q (Some id) → is_own n id ≡ false
        → (MakesAt b n objects q id → marker_made {B = B} b n t ≡ None) → asked_for (Some id) (vs_all q objects vs) ≡ None
    gone id [] vs names own unmade = absurd (none_named _ names)
    gone id (object ∷ objects) vs names own unmade =
        let later = λ (makes : MakesAt b n objects q id). unmade (names_later _ object objects makes.0, makes.1) in
        elim (first_or_later _ object objects names) [
          | inl is ↦ still_gone id objects (vs_one q object vs) later (dropped id object vs is own)
          | inr there ↦ gone id objects (vs_one q object vs) there own later
        ]
