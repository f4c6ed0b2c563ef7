-- What several deletions of one entry keep, and what they leave, in the catalogue.
use Rattle.std.proofs.Common.{◌≡◌, ◌≢◌, inl, inr, refl, sym, ap, ◌∙◌, true, false, cond, IsTrue, ℕ, ◌+◌, List, [], ◌∷◌, Option, Some, None, IfSome, is_some, option_map, arith}
use Rattle.std.proofs.lemmas.Bool.{false≢true}
use Rattle.std.specs.FinMap.{get}
use Rattle.s3_text.proofs.MapLemmas.{same_or}
use Rattle.s3_versions.specs.declared.version.Versioning.{Versioning}
use Rattle.s3_versions.specs.declared.version.Versioning.TheVariants.{Unversioned}
use Rattle.s3_versions.specs.Laws.{number_of, marker_made, ChangesAreUnderOneId, ChangesLeaveVersions, NumbersStayNew, LaterIsNew}
use Rattle.s3_versions.specs.Rules.{asked_for, new_id, is_new_number}
use Rattle.s3_names.specs.declared.ids.VersionId.{VersionId}
use Rattle.s3_deletions.specs.Deletions.{acts, change_named}
use Rattle.s3_deletions.specs.declared.named.KeyDeletion.{KeyDeletion}
use Rattle.s3_deletions.specs.declared.named.NamedObject.{NamedObject}
use Rattle.s3_deletions.specs.declared.named.NamedObject.TheVariants.{Object, Fault}
use Rattle.s3_records.specs.Catalogue.{Bucket, Catalogue, has_bucket, facts_of, found_versions, versions_in, versions_of, versioning_in, versioning_of}
use Rattle.s3_records.specs.Changes.{KeyChanged, changed}
use Rattle.s3_records.specs.Deletions.{deleted, all_deleted, bucket_deleted}
use Rattle.s3_records.specs.DeletionLaws.{DeletionsStayBelow, NextStaysBelow, DeletionsStayInOrder, DeletionsStayFilled, DeletionsAreByPlace, DeletionsKeepTheRest, DeletionsDelete}
use Rattle.s3_records.specs.Laws.{AreCatalogued, AreFilled}
use Rattle.s3_records.specs.OpenUploads.{upload_in}
use Rattle.s3_records.specs.Places.{AreBelow}
use Rattle.s3_records.proofs.BucketDeletionLemmas.{all_in_bucket}
use Rattle.s3_records.proofs.DeletedKeyLemmas.{named_gone, marker_there, marker_current, none_left}
use Rattle.s3_records.proofs.DeletedVersionLemmas.{vs_all, found_all, other_key, other_id, each}
use Rattle.s3_records.proofs.DeletionLemmas.{get-all, new_unless_made, number_below}
use Rattle.s3_records.proofs.FilledLemmas.{keys_stay_filled}
use Rattle.s3_records.proofs.LawLemmas.{changes_are_local, versions_stay_in_order}
use Rattle.s3_records.proofs.MapLemmas.{get-put_here}
use Rattle.s3_records.proofs.PlaceLemmas.{numbers_stay_below, later_is_below}

-- ---- what each change keeps that acts, all of them keep
module _ {B : Type 0} (name : List ℕ) (n t : ℕ) (P : Catalogue B → Type 0)
    (keeps : (c : Catalogue B) (d : KeyDeletion) → acts n d.version (versions_of c name d.key) ≡ true → P c → P (changed c name (KeyChanged d.key (change_named n t d.version))))
  where
    one_keeps : (c : Catalogue B) (object : NamedObject) → P c → P (deleted c name n t object)
    one_keeps c (Object d) holds =
        elim (acts n d.version (versions_of c name d.key)) as (λ a. acts n d.version (versions_of c name d.key) ≡ a → P (cond a (changed c name (KeyChanged d.key (change_named n t d.version))) c)) [
          | true ↦ λ acting. keeps c d acting holds
          | false ↦ λ not. holds
        ] refl
    one_keeps c (Fault fault) holds = holds

    all_keep : (objects : List NamedObject) (c : Catalogue B) → P c → P (all_deleted c name n t objects)
    all_keep [] c holds = holds
    all_keep (object ∷ objects) c holds = all_keep objects (deleted c name n t object) (one_keeps c object holds)

pub deletions_stay_below : {B : Type 0} → NumbersStayNew B → DeletionsStayBelow B
deletions_stay_below {B} stay m c name n t objects below above =
    all_keep name n t (AreBelow m) (λ c d acting below. numbers_stay_below stay m c name (KeyChanged d.key (change_named n t d.version)) below (number_below B n t m d.version above)) objects c below

pub next_stays_below : {B : Type 0} → NumbersStayNew B → LaterIsNew B → NextStaysBelow B
next_stays_below stay later c name n t objects below =
    deletions_stay_below stay (n + 1) c name n t objects (later_is_below later n (n + 1) c (omega arith) below) (omega arith)

new_named : {B : Type 0} (n t : ℕ) (version : Option VersionId) (c : Catalogue B) (name key : List ℕ) → AreBelow (n + 1) c → acts n version (versions_of c name key) ≡ true
    → IfSome (number_of (change_named {B = B} n t version)) (λ k. IsTrue (is_new_number k (versions_of c name key)))
new_named n t None c name key below acting = new_unless_made n (versions_of c name key) (below name key) acting
new_named n t (Some id) c name key below acting = tt

pub deletions_stay_in_order : {B : Type 0} → ChangesLeaveVersions B → NumbersStayNew B → LaterIsNew B → DeletionsStayInOrder B
deletions_stay_in_order {B} leave stay later c name n t objects valid below =
    (all_keep name n t (λ c. AreCatalogued c × AreBelow (n + 1) c)
    (λ c d acting holds. (
      versions_stay_in_order leave c name (KeyChanged d.key (change_named n t d.version)) holds.0 (new_named n t d.version c name d.key holds.1 acting),
      numbers_stay_below stay (n + 1) c name (KeyChanged d.key (change_named n t d.version)) holds.1 (number_below B n t (n + 1) d.version (omega arith)),
    ))
    objects c (valid, later_is_below later n (n + 1) c (omega arith) below)).0

pub deletions_stay_filled : {B : Type 0} → DeletionsStayFilled B
deletions_stay_filled c name n t objects filled =
    all_keep name n t AreFilled (λ c d acting holds. keys_stay_filled.1 c name (KeyChanged d.key (change_named n t d.version)) holds) objects c filled

-- ---- in the other buckets, and in the bucket
elsewhere : {B : Type 0} (name : List ℕ) (n t : ℕ) (objects : List NamedObject) (c : Catalogue B) (other : List ℕ) → other ≢ name → get (all_deleted c name n t objects) other ≡ get c other
elsewhere name n t objects c other differ =
    all_keep name n t (λ d. get d other ≡ get c other) (λ d k acting same. changes_are_local d name (KeyChanged k.key (change_named n t k.version)) other differ ∙ same) objects c refl

-- a bucket that is there
found_or : {B : Type 0} (found : Option (Bucket B)) → is_some found ≡ true → (b : Bucket B) × (found ≡ Some b)
found_or None there = absurd (false≢true there)
found_or (Some b) there = (b, refl)

module _ {B : Type 0} (c : Catalogue B) (name : List ℕ) (n t : ℕ) (objects : List NamedObject) (there : IsTrue (has_bucket c name)) where
  now_here : (b : Bucket B) → get c name ≡ Some b → get (all_deleted c name n t objects) name ≡ Some (bucket_deleted n t objects b)
  now_here b found = ap (λ d. get d name) (all_in_bucket name n t objects c b found) ∙ get-put_here c name (bucket_deleted n t objects b)

  -- what is asked of a bucket that its keys don't change
  same_of : {X : Type 0} (f : Option (Bucket B) → X) → ((b : Bucket B) → f (Some (bucket_deleted n t objects b)) ≡ f (Some b)) → (bucket : List ℕ)
      → f (get (all_deleted c name n t objects) bucket) ≡ f (get c bucket)
  same_of f same bucket =
      let b = found_or (get c name) there in
      elim (same_or bucket name) [
        | inl is ↦
            ap (λ k. f (get (all_deleted c name n t objects) k)) is ∙ ap f (now_here b.0 b.1) ∙ same b.0 ∙ ap f (sym b.1) ∙ ap (λ k. f (get c k)) (sym is)
        | inr other ↦ ap f (elsewhere name n t objects c bucket other)
      ]

  versions_now : (key : List ℕ) → versions_of (all_deleted c name n t objects) name key ≡ vs_all (versioning_of c name) n t key objects (versions_of c name key)
  versions_now key =
      let b = found_or (get c name) there in
      ap (λ found. versions_in found key) (now_here b.0 b.1)
      ∙ ap found_versions (get-all b.0.versioning n t b.0.keys objects key)
      ∙ found_all b.0.versioning n t key objects (get b.0.keys key)
      ∙ ap (λ found. vs_all (versioning_in found) n t key objects (versions_in found key)) (sym b.1)

pub deletions_keep_the_rest : {B : Type 0} → DeletionsKeepTheRest B
deletions_keep_the_rest {B} c name n t objects there = record {
  uploads = λ bucket key id. same_of c name n t objects there (λ found. upload_in found key id) (λ b. refl) bucket;
  there = same_of c name n t objects there is_some (λ b. refl);
  facts = same_of c name n t objects there (option_map facts_of) (λ b. refl);
  versioning = same_of c name n t objects there versioning_in (λ b. refl);
}

pub deletions_are_by_place : {B : Type 0} → ChangesAreUnderOneId B → DeletionsAreByPlace B
deletions_are_by_place under c name n t objects there =
    let b = versioning_of c name in
    let now = versions_now c name n t objects there in
    record {
      other_buckets = λ bucket key differ. ap (λ found. versions_in found key) (elsewhere name n t objects c bucket differ);
      other_keys = λ key unnamed. now key ∙ other_key b n t key objects (versions_of c name key) unnamed;
      other_ids = λ key id unnamed unmade. ap (asked_for (Some id)) (now key) ∙ other_id b n t under key id objects (versions_of c name key) unnamed unmade;
      each = λ key id. rw (ap (asked_for (Some id)) (now key)) (each b n t under key id objects (versions_of c name key));
    }

no_marker : {B : Type 0} (b : Versioning) (n t : ℕ) → b ≡ Unversioned → marker_made {B = B} b n t ≡ None
no_marker {B} b n t is = ap (λ b. marker_made {B = B} b n t) is

pub deletions_delete : {B : Type 0} → ChangesAreUnderOneId B → NumbersStayNew B → DeletionsDelete B
deletions_delete {B} under stay c name n t objects there below =
    let b = versioning_of c name in
    let now = versions_now c name n t objects there in
    record {
      ids = λ key id named makes. ap (asked_for (Some id)) (now key)
          ∙ named_gone b n t under key id objects (versions_of c name key) (below name key) named (λ made. no_marker b n t (makes made));
      keys = λ key deleted. ap (asked_for (Some (new_id b n))) (now key) ∙ marker_there b n t under stay key objects (versions_of c name key) (below name key) deleted;
      hidden = λ key deleted versioned. ap (asked_for None) (now key) ∙ marker_current b n t stay key objects (versions_of c name key) (below name key) deleted versioned;
      empty = λ key named unversioned null. now key ∙ ap (λ v. vs_all v n t key objects (versions_of c name key)) unversioned
          ∙ none_left n t stay key objects (versions_of c name key) (below name key) null named;
    }
