-- The versions under a key, as they change.
use Rattle.std.proofs.Common.{◌≡◌, ◌≢◌, inl, inr, refl, sym, ap, subst, ◌∙◌, ℕ, List, [], ◌∷◌, Some, Result, Ok, Err, IfOk, OnOk, OnErr}
use Rattle.std.proofs.lemmas.Option.{none-some, same_Some}
use Rattle.std.specs.BTreeMap.{BTreeMap, WritesThrough, Updates, IsUnchanged}
use Rattle.std.specs.FinMap as map
use Rattle.s3_text.specs.Order.{byte_order}
use Rattle.s3_names.specs.declared.ids.VersionId.{VersionId}
use Rattle.s3_versions.specs.declared.version.Version.{Version}
use Rattle.s3_versions.specs.Rules.{without}
use Rattle.s3_records.specs.Catalogue.{Keys, HaveVersions}
use Rattle.s3_records.specs.Changes.{with_versions}
use Rattle.s3_text.proofs.MapLemmas.{value_at, get_by_tree, made_by_write, made_by_insert, put_again, same_or}
use Rattle.s3_records.proofs.MapLemmas.{get-put_here, get-put_other, get-remove_here, get-remove_other}

-- what holds of a value follows to another, whatever the call answered
pub then_ok : {T E P Q : Type 0} (r : Result T E) → (P → Q) → OnOk r P → OnOk r Q
then_ok (Ok x) then p = then p
then_ok (Err e) then p = tt

pub then_err : {T E P Q : Type 0} (r : Result T E) → (P → Q) → OnErr r P → OnErr r Q
then_err (Ok x) then p = tt
then_err (Err e) then p = then p

pub on_err : {T E P : Type 0} (r : Result T E) → P → OnErr r P
on_err (Ok x) p = tt
on_err (Err e) p = p

-- a tree in which the value at a key was changed, or was left
pub written : {X : Type 0} (before after : BTreeMap (List ℕ) X) (m : map.FinMap byte_order X) (k : List ℕ) (old new w : X) → map.from_entries before.entries ≡ m → Some old ≡ value_at before.entries k → WritesThrough byte_order (byte_order k) before new after → new ≡ w → map.from_entries after.entries ≡ map.insert m k w
written before after m k old new w view found writes is = made_by_write before after m k old new view found writes ∙ ap (map.insert m k) is

pub left : {X : Type 0} (before after : BTreeMap (List ℕ) X) (m : map.FinMap byte_order X) (k : List ℕ) (old new : X) → map.from_entries before.entries ≡ m → Some old ≡ value_at before.entries k → WritesThrough byte_order (byte_order k) before new after → new ≡ old → map.from_entries after.entries ≡ m
left before after m k old new view found writes is =
    written before after m k old new old view found writes is ∙ put_again m k old (get_by_tree before.entries m k (Some old) view found)

-- where versions are left the key stays, and where none are it goes
pub with_versions-some : {B : Type 0} (keys : Keys B) (key : List ℕ) (vs : List (Version B)) → (vs ≡ [] → ⊥) → map.insert keys key vs ≡ with_versions keys key vs
with_versions-some keys key [] some = absurd (some refl)
with_versions-some keys key (v ∷ vs) some = refl

pub without-none : {B : Type 0} (id : VersionId) → without {B = B} id [] ≡ []
unfolding without
without-none id = refl

-- a map where one key is written or taken out
pub put_filled : {X : Type 0} (m : map.FinMap byte_order X) (key : List ℕ) (v none : X) → v ≢ none → ((q : List ℕ) → map.get m q ≢ Some none) → (q : List ℕ) → map.get (map.insert m key v) q ≢ Some none
put_filled m key v none some filled q is =
    elim (same_or q key) [
      | inl same ↦ some (same_Some v none (sym (get-put_here m key v) ∙ ap (map.get (map.insert m key v)) (sym same) ∙ is))
      | inr other ↦ filled q (sym (get-put_other m key v q other) ∙ is)
    ]

pub remove_filled : {X : Type 0} (m : map.FinMap byte_order X) (key : List ℕ) (none : X) → ((q : List ℕ) → map.get m q ≢ Some none) → (q : List ℕ) → map.get (map.remove m key) q ≢ Some none
remove_filled m key none filled q is =
    elim (same_or q key) [
      | inl same ↦ absurd (none-some none (sym (get-remove_here m key) ∙ ap (map.get (map.remove m key)) (sym same) ∙ is))
      | inr other ↦ filled q (sym (get-remove_other m key q other) ∙ is)
    ]

pub with_filled : {B : Type 0} (keys : Keys B) (key : List ℕ) (vs : List (Version B)) → ((q : List ℕ) → map.get keys q ≢ Some []) → (q : List ℕ) → map.get (with_versions keys key vs) q ≢ Some []
with_filled keys key [] filled q is = remove_filled keys key [] filled q is
with_filled keys key (v ∷ vs) filled q is = put_filled keys key (v ∷ vs) [] (λ none. cc) filled q is

-- so a map keeps that no key is without, however the call ended that changed one
pub either_way : {T E P : Type 0} (r : Result T E) → OnOk r P → OnErr r P → P
either_way (Ok x) ok err = ok
either_way (Err e) ok err = err

pub still_held : {B : Type 0} (m n : Keys B) (key : List ℕ) (vs : List (Version B)) → HaveVersions m → n ≡ map.insert m key vs → vs ≢ [] → HaveVersions n
still_held m n key vs filled is some = subst HaveVersions (sym is) (put_filled m key vs [] some filled)

pub held_after : {B T E : Type 0} (r : Result T E) (m n : Keys B) (key : List ℕ) (old new : List (Version B)) (v : Version B) (vs : List (Version B))
    → HaveVersions m → map.get m key ≡ Some old → n ≡ map.insert m key new → OnOk r (new ≡ v ∷ vs) → OnErr r (new ≡ old) → HaveVersions n
held_after r m n key old new v vs filled found is ok err =
    still_held m n key new filled is (either_way r
    (then_ok r (λ made none. absurd (cc (sym made ∙ none))) ok)
    (then_err r (λ same none. filled key (found ∙ ap Some (sym same ∙ none))) err))

pub held_after_put : {B T E : Type 0} (r : Result T E) (before after : BTreeMap (List ℕ) (List (Version B))) (key : List ℕ) (vs : List (Version B)) → vs ≢ []
    → HaveVersions (map.from_entries {R = byte_order} before.entries) → OnOk r (Updates byte_order before after key (Some vs)) → OnErr r (IsUnchanged before after) → HaveVersions (map.from_entries {R = byte_order} after.entries)
held_after_put r before after key vs some filled ok err =
    either_way r
    (then_ok r (λ updates. still_held (map.from_entries before.entries) (map.from_entries after.entries) key vs filled (made_by_insert before.entries after.entries key vs updates.0) some) ok)
    (then_err r (λ same. subst (λ es. HaveVersions (map.from_entries {R = byte_order} es)) (sym same) filled) err)

-- what holds of a value that was made
pub if_ok : {T E : Type 0} {P Q : T → Type 0} (r : Result T E) → ((x : T) → P x → Q x) → IfOk r P → IfOk r Q
if_ok (Ok x) then p = then x p
if_ok (Err e) then p = tt
