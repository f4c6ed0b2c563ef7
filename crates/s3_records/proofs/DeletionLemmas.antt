-- Several deletions in the keys of one bucket, key by key.
use Rattle.std.proofs.Common.{◌≡◌, ◌≢◌, inl, inr, refl, sym, ap, ◌∙◌, Bool, true, false, cond, not, ◌||◌, ◌==◌, nat_lt, IsTrue, ℕ, ◌+◌, ◌<◌, List, [], ◌∷◌, ◌++◌, Option, Some, None, IfSome, arith}
use Rattle.std.proofs.lemmas.Bool.{false≢true, and_parts, and_from}
use Rattle.std.proofs.lemmas.Bool.Decides.{nat_tests}
use Rattle.std.specs.Cmp.{eq_by_cmp_equiv}
use Rattle.std.specs.Cmp.Lexicographic.{nat_list_cmp_total, texts_ties}
use Rattle.std.specs.FinMap.{get}
use Rattle.std.specs.Str.{bytes_eq}
use Rattle.s3_text.proofs.MapLemmas.{same_or, same_by_get, tied_equal}
use Rattle.s3_names.specs.declared.ids.VersionId.{VersionId}
use Rattle.s3_versions.specs.declared.version.Version.{Version}
use Rattle.s3_versions.specs.declared.version.Versioning.{Versioning}
use Rattle.s3_versions.specs.Laws.{number_of, NumbersStayNew}
use Rattle.s3_versions.specs.Rules.{after_change, is_new_number}
use Rattle.s3_deletions.specs.Deletions.{acts, has_made, change_named, marker_told}
use Rattle.s3_deletions.specs.declared.named.KeyDeletion.{KeyDeletion}
use Rattle.s3_deletions.specs.declared.named.NamedObject.{NamedObject}
use Rattle.s3_deletions.specs.declared.named.NamedObject.TheVariants.{Object, Fault}
use Rattle.s3_records.specs.Catalogue.{Keys, found_versions, versions_at}
use Rattle.s3_records.specs.Changes.{with_versions}
use Rattle.s3_records.specs.Deletions.{key_deleted_in, deleted_in, all_deleted_in, marker_in, markers_in, is_key_of, is_key_of_any}
use Rattle.s3_records.specs.Merging.{held}
use Rattle.s3_records.proofs.MapLemmas.{get-put_here, get-put_other, get-remove_here, get-remove_other}

-- two texts compare as they are
pub text_is : (k : List ℕ) → bytes_eq k k ≡ true
text_is k = texts_ties k k ∙ (eq_by_cmp_equiv nat_list_cmp_total).refl k

pub text_differs : (k q : List ℕ) → q ≢ k → bytes_eq k q ≡ false
text_differs k q differ =
    elim (bytes_eq k q) as (λ b. bytes_eq k q ≡ b → b ≡ false) [
      | true ↦ λ is. absurd (differ (sym (tied_equal k q (sym (texts_ties k q) ∙ is))))
      | false ↦ λ is. refl
    ] refl

-- keys where the versions under one are these
pub get-with_here : {B : Type 0} (keys : Keys B) (key : List ℕ) (vs : List (Version B)) → get (with_versions keys key vs) key ≡ held vs
get-with_here keys key [] = get-remove_here keys key
get-with_here keys key (v ∷ vs) = get-put_here keys key (v ∷ vs)

pub get-with_other : {B : Type 0} (keys : Keys B) (key : List ℕ) (vs : List (Version B)) (q : List ℕ) → q ≢ key → get (with_versions keys key vs) q ≡ get keys q
get-with_other keys key [] q differ = get-remove_other keys key q differ
get-with_other keys key (v ∷ vs) q differ = get-put_other keys key (v ∷ vs) q differ

pub found-held : {B : Type 0} (vs : List (Version B)) → found_versions (held vs) ≡ vs
found-held [] = refl
found-held (v ∷ vs) = refl

-- where nothing made by an entry is among versions whose numbers don't pass it, it is above them
not_reached : (k n : ℕ) → nat_lt k (n + 1) ≡ true → (k == n) ≡ false → nat_lt k n ≡ true
not_reached k n below differs = grind (arith, nat_tests)

not_either : (x y : Bool) → not (x || y) ≡ true → (x ≡ false) × (not y ≡ true)
not_either true y neither = absurd (false≢true neither)
not_either false y neither = (refl, neither)

pub new_unless_made : {B : Type 0} (n : ℕ) (vs : List (Version B)) → is_new_number (n + 1) vs ≡ true → not (has_made n vs) ≡ true → is_new_number n vs ≡ true
unfolding is_new_number
new_unless_made n [] below none = refl
new_unless_made n (v ∷ vs) below none =
    let parts = and_parts (nat_lt v.number (n + 1)) (is_new_number (n + 1) vs) below in
    let others = not_either (v.number == n) (has_made n vs) none in
    and_from (nat_lt v.number n) (is_new_number n vs) (not_reached v.number n parts.0 others.0) (new_unless_made n vs parts.1 others.1)

neither : (x y : Bool) → (x || y) ≡ false → (x ≡ false) × (y ≡ false)
neither true y none = absurd (false≢true (sym none))
neither false y none = (refl, none)

either_or : (x y : Bool) → y ≡ true → (x || y) ≡ true
either_or true y is = refl
either_or false y is = is

-- a number above that of the entry is above that of each change
pub number_below : (B : Type 0) (n t m : ℕ) (version : Option VersionId) → n < m → IfSome (number_of (change_named {B = B} n t version)) (λ k. k < m)
number_below B n t m None below = below
number_below B n t m (Some id) below = tt

module _ {B : Type 0} (b : Versioning) (n t : ℕ) where
  -- what stands under a key after a deletion that names it, after one of any key, and after all
  abbrev pub after_named : Option VersionId → Option (List (Version B)) → Option (List (Version B))
  after_named version found =
      cond (acts n version (found_versions found)) (held (after_change b (change_named n t version) (found_versions found))) found

  abbrev pub after_one : List ℕ → NamedObject → Option (List (Version B)) → Option (List (Version B))
  after_one q (Object d) found = cond (bytes_eq d.key q) (after_named d.version found) found
  after_one q (Fault fault) found = found

  abbrev pub after_all : List ℕ → List NamedObject → Option (List (Version B)) → Option (List (Version B))
  after_all q [] found = found
  after_all q (object ∷ objects) found = after_all q objects (after_one q object found)

  deleted_here : (keys : Keys B) (d : KeyDeletion) → get (key_deleted_in b n t keys d) d.key ≡ after_named d.version (get keys d.key)
  deleted_here keys d =
      let vs = after_change b (change_named n t d.version) (versions_at keys d.key) in
      elim (acts n d.version (versions_at keys d.key)) as (λ a. get (cond a (with_versions keys d.key vs) keys) d.key ≡ cond a (held vs) (get keys d.key)) [
        | true ↦ get-with_here keys d.key vs
        | false ↦ refl
      ]

  deleted_elsewhere : (keys : Keys B) (d : KeyDeletion) (q : List ℕ) → q ≢ d.key → get (key_deleted_in b n t keys d) q ≡ get keys q
  deleted_elsewhere keys d q differ =
      let vs = after_change b (change_named n t d.version) (versions_at keys d.key) in
      elim (acts n d.version (versions_at keys d.key)) as (λ a. get (cond a (with_versions keys d.key vs) keys) q ≡ get keys q) [
        | true ↦ get-with_other keys d.key vs q differ
        | false ↦ refl
      ]

  pub get-deleted : (keys : Keys B) (object : NamedObject) (q : List ℕ) → get (deleted_in b n t keys object) q ≡ after_one q object (get keys q)
  get-deleted keys (Object d) q =
      elim (same_or q d.key) [
        | inl same ↦
            ap (get (key_deleted_in b n t keys d)) same ∙ deleted_here keys d ∙ ap (λ k. after_named d.version (get keys k)) (sym same)
            ∙ ap (λ x. cond x (after_named d.version (get keys q)) (get keys q)) (sym (ap (bytes_eq d.key) same ∙ text_is d.key))
        | inr other ↦
            deleted_elsewhere keys d q other ∙ ap (λ x. cond x (after_named d.version (get keys q)) (get keys q)) (sym (text_differs d.key q other))
      ]
  get-deleted keys (Fault fault) q = refl

  pub get-all : (keys : Keys B) (objects : List NamedObject) (q : List ℕ) → get (all_deleted_in b n t keys objects) q ≡ after_all q objects (get keys q)
  get-all keys [] q = refl
  get-all keys (object ∷ objects) q = get-all (deleted_in b n t keys object) objects q ∙ ap (after_all q objects) (get-deleted keys object q)

  -- a key that none of them names
  unnamed_one : (q : List ℕ) (object : NamedObject) (found : Option (List (Version B))) → is_key_of q object ≡ false → after_one q object found ≡ found
  unnamed_one q (Object d) found none = ap (λ x. cond x (after_named d.version found) found) none
  unnamed_one q (Fault fault) found none = refl

  pub unnamed_all : (q : List ℕ) (objects : List NamedObject) (found : Option (List (Version B))) → is_key_of_any q objects ≡ false → after_all q objects found ≡ found
  unnamed_all q [] found none = refl
  unnamed_all q (object ∷ objects) found none =
      let parts = neither (is_key_of q object) (is_key_of_any q objects) none in
      ap (after_all q objects) (unnamed_one q object found parts.0) ∙ unnamed_all q objects found parts.1

  -- the markers are told by what stands under the keys that are named
  same_marker : (K L : Keys B) (object : NamedObject) → ((q : List ℕ) → IsTrue (is_key_of q object) → get K q ≡ get L q) → marker_in b n K object ≡ marker_in b n L object
  same_marker K L (Object d) same = ap (λ found. marker_told b n d.version (found_versions found)) (same d.key (text_is d.key))
  same_marker K L (Fault fault) same = refl

  pub same_markers : (objects : List NamedObject) (K L : Keys B) → ((q : List ℕ) → IsTrue (is_key_of_any q objects) → get K q ≡ get L q) → markers_in b n t K objects ≡ markers_in b n t L objects
  same_markers [] K L same = refl
  same_markers (object ∷ objects) K L same =
      ap (λ id. id ∷ markers_in b n t (deleted_in b n t K object) objects) (same_marker K L object (λ q is. same q (ap (λ x. x || is_key_of_any q objects) is)))
      ∙ ap (λ ids. marker_in b n L object ∷ ids) (same_markers objects (deleted_in b n t K object) (deleted_in b n t L object) (λ q is.
      get-deleted K object q ∙ ap (after_one q object) (same q (either_or (is_key_of q object) (is_key_of_any q objects) is)) ∙ sym (get-deleted L object q)))

  -- one more of them
  pub all_deleted-push : (keys : Keys B) (objects : List NamedObject) (object : NamedObject) → all_deleted_in b n t keys (objects ++ object ∷ []) ≡ deleted_in b n t (all_deleted_in b n t keys objects) object
  all_deleted-push keys [] object = refl
  all_deleted-push keys (first ∷ objects) object = all_deleted-push (deleted_in b n t keys first) objects object

  pub markers-push : (keys : Keys B) (objects : List NamedObject) (object : NamedObject)
      → markers_in b n t keys (objects ++ object ∷ []) ≡ markers_in b n t keys objects ++ marker_in b n (all_deleted_in b n t keys objects) object ∷ []
  markers-push keys [] object = refl
  markers-push keys (first ∷ objects) object = ap (λ ids. marker_in b n keys first ∷ ids) (markers-push (deleted_in b n t keys first) objects object)

  -- Where copies of what stands under the keys that are named were changed and took its place, all is deleted.
  named_or : (q : List ℕ) (objects : List NamedObject) (found : Option (List (Version B))) (x : Bool) → is_key_of_any q objects ≡ x
      → cond x (after_all q objects (cond x found None)) found ≡ after_all q objects found
  named_or q objects found true is = refl
  named_or q objects found false is = sym (unnamed_all q objects found is)

  pub taken_over : (keys apart new : Keys B) (objects : List NamedObject)
      → ((q : List ℕ) → get apart q ≡ cond (is_key_of_any q objects) (get keys q) None)
      → ((q : List ℕ) → get new q ≡ cond (is_key_of_any q objects) (get (all_deleted_in b n t apart objects) q) (get keys q))
      → new ≡ all_deleted_in b n t keys objects
  taken_over keys apart new objects copied over = same_by_get _ _ (λ q.
      over q ∙ ap (λ found. cond (is_key_of_any q objects) found (get keys q)) (get-all apart objects q ∙ ap (after_all q objects) (copied q))
      ∙ named_or q objects (get keys q) (is_key_of_any q objects) refl ∙ sym (get-all keys objects q))

  pub same_told : (keys apart : Keys B) (objects : List NamedObject)
      → ((q : List ℕ) → get apart q ≡ cond (is_key_of_any q objects) (get keys q) None) → markers_in b n t apart objects ≡ markers_in b n t keys objects
  same_told keys apart objects copied = same_markers objects apart keys (λ q is. copied q ∙ ap (λ x. cond x (get keys q) None) is)

  -- a number above that of the entry stays above those of all versions
  module _ (stay : NumbersStayNew B) (m : ℕ) (below : n < m) where
    new_named : (version : Option VersionId) (found : Option (List (Version B))) → is_new_number m (found_versions found) ≡ true → is_new_number m (found_versions (after_named version found)) ≡ true
    new_named version found new =
        let vs = after_change b (change_named n t version) (found_versions found) in
        elim (acts n version (found_versions found)) as (λ a. is_new_number m (found_versions (cond a (held vs) found)) ≡ true) [
          | true ↦ ap (is_new_number m) (found-held vs) ∙ stay m b (change_named n t version) (found_versions found) new (number_below B n t m version below)
          | false ↦ new
        ]

    new_one : (q : List ℕ) (object : NamedObject) (found : Option (List (Version B))) → is_new_number m (found_versions found) ≡ true → is_new_number m (found_versions (after_one q object found)) ≡ true
    new_one q (Object d) found new =
        elim (bytes_eq d.key q) as (λ a. is_new_number m (found_versions (cond a (after_named d.version found) found)) ≡ true) [
          | true ↦ new_named d.version found new
          | false ↦ new
        ]
    new_one q (Fault fault) found new = new

    new_all : (q : List ℕ) (objects : List NamedObject) (found : Option (List (Version B))) → is_new_number m (found_versions found) ≡ true → is_new_number m (found_versions (after_all q objects found)) ≡ true
    new_all q [] found new = new
    new_all q (object ∷ objects) found new = new_all q objects (after_one q object found) (new_one q object found new)

    pub stay_below : (keys : Keys B) (objects : List NamedObject) → ((q : List ℕ) → is_new_number m (versions_at keys q) ≡ true) → (q : List ℕ) → is_new_number m (versions_at (all_deleted_in b n t keys objects) q) ≡ true
    stay_below keys objects new q = ap (λ found. is_new_number m (found_versions found)) (get-all keys objects q) ∙ new_all q objects (get keys q) (new q)

-- in copies it is above them, too
new_if : {B : Type 0} (n : ℕ) (x : Bool) (found : Option (List (Version B))) → is_new_number n (found_versions found) ≡ true → is_new_number n (found_versions (cond x found None)) ≡ true
unfolding is_new_number
new_if n true found new = new
new_if n false found new = refl

pub copies_new : {B : Type 0} (n : ℕ) (keys apart : Keys B) (objects : List NamedObject) → ((q : List ℕ) → is_new_number n (versions_at keys q) ≡ true)
    → ((q : List ℕ) → get apart q ≡ cond (is_key_of_any q objects) (get keys q) None) → (q : List ℕ) → is_new_number n (versions_at apart q) ≡ true
copies_new n keys apart objects new copied q = ap (λ found. is_new_number n (found_versions found)) (copied q) ∙ new_if n (is_key_of_any q objects) (get keys q) (new q)
