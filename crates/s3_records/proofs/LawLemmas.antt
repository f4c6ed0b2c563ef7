-- The laws of the catalogue.
use Rattle.std.proofs.Common.{◌≡◌, refl, sym, ap, subst, ◌∙◌, ◌≢◌, ◌||◌, ◌⊎◌, inl, inr, IsTrue, Bool, true, false, cond, ℕ, List, [], ◌∷◌, Option, Some, None, is_some, option_map}
use Rattle.std.proofs.lemmas.Bool.{false≢true, eqb-true, and_parts}
use Rattle.std.specs.Cmp.Lexicographic.{texts_ties}
use Rattle.std.specs.FinMap.{get, empty, get-empty, empty_of_len, len}
use Rattle.std.specs.Ordering.{eq_by_cmp, nat_cmp}
use Rattle.std.specs.List.{list_any}
use Rattle.std.specs.Str.{bytes_eq}
use Rattle.s3_text.specs.Order.{byte_order}
use Rattle.s3_versions.specs.declared.version.Version.{Version}
use Rattle.s3_versions.specs.declared.version.VersioningStatus.{VersioningStatus}
use Rattle.s3_versions.specs.declared.version.VersioningStatus.TheVariants as status
use Rattle.s3_versions.specs.declared.version.Versioning.TheVariants.{Unversioned}
use Rattle.s3_versions.specs.Rules.{are_versions, versioning_set, KeyChange, after_change}
use Rattle.s3_versions.specs.Laws.{ChangesLeaveVersions}
use Rattle.s3_records.specs.Catalogue.{Keys, Uploads, Bucket, has_no_keys, has_no_uploads, Catalogue, new_bucket, opening, facts_of, versions_at, versions_in, versions_of, versioning_in, versioning_of, found_versions, has_bucket, is_empty_in}
use Rattle.s3_uploads.specs.declared.upload.Upload.{Upload}
use Rattle.s3_records.specs.Changes.{Change, BucketAdded, BucketDropped, VersioningSet, KeyChanged, UploadAdded, PartPut, UploadDropped, UploadCompleted, with_versions, upload_change_in, set_in, change_in, bucket_after, with_bucket, changed}
use Rattle.s3_records.specs.OpenUploads.{upload_under, upload_in, found_uploads}
use Rattle.s3_uploads.specs.Uploads.{with_part}
use Rattle.s3_records.specs.Laws.{ChangesAreLocal, ChangesNameOneKey, ChangesFollowRules, CompletionsFollowRules, CompletionsDoBoth, SwitchesKeepKeys, IsNew, VersionsStayInOrder, OpeningIsEmpty, EmptyHasNothing}
use Rattle.s3_text.proofs.MapLemmas.{get-put, same_by_get, same_or}
use Rattle.s3_records.proofs.MapLemmas.{get-put_here, get-put_other, get-remove_here, get-remove_other}

-- the bucket of a name, and the others
bucket_other : {B : Type 0} (c : Catalogue B) (name : List ℕ) (after : Option (Bucket B)) (other : List ℕ) → other ≢ name → get (with_bucket c name after) other ≡ get c other
bucket_other c name None other differ = get-remove_other c name other differ
bucket_other c name (Some b) other differ = get-put_other c name b other differ

bucket_here : {B : Type 0} (c : Catalogue B) (name : List ℕ) (after : Option (Bucket B)) → get (with_bucket c name after) name ≡ after
bucket_here c name None = get-remove_here c name
bucket_here c name (Some b) = get-put_here c name b

pub changed_here : {B : Type 0} (c : Catalogue B) (name : List ℕ) (change : Change B) → get (changed c name change) name ≡ bucket_after change (get c name)
changed_here c name change = bucket_here c name (bucket_after change (get c name))

pub changes_are_local : {B : Type 0} → ChangesAreLocal B
changes_are_local c name change other differ = bucket_other c name (bucket_after change (get c name)) other differ

-- the versions under the key that is changed, and under the others
with_here : {B : Type 0} (keys : Keys B) (key : List ℕ) (vs : List (Version B)) → versions_at (with_versions keys key vs) key ≡ vs
with_here keys key [] = ap found_versions (get-remove_here keys key)
with_here keys key (v ∷ vs) = ap found_versions (get-put_here keys key (v ∷ vs))

with_other : {B : Type 0} (keys : Keys B) (key : List ℕ) (vs : List (Version B)) (other : List ℕ) → other ≢ key → versions_at (with_versions keys key vs) other ≡ versions_at keys other
with_other keys key [] other differ = ap found_versions (get-remove_other keys key other differ)
with_other keys key (v ∷ vs) other differ = ap found_versions (get-put_other keys key (v ∷ vs) other differ)

other_key : {B : Type 0} (key : List ℕ) (what : KeyChange B) (found : Option (Bucket B)) (other : List ℕ) → other ≢ key → versions_in (option_map (change_in key what) found) other ≡ versions_in found other
other_key key what None other differ = refl
other_key key what (Some b) other differ = with_other b.keys key (after_change b.versioning what (versions_at b.keys key)) other differ

same_facts : {B : Type 0} (key : List ℕ) (what : KeyChange B) (found : Option (Bucket B)) → option_map facts_of (option_map (change_in key what) found) ≡ option_map facts_of found
same_facts key what None = refl
same_facts key what (Some b) = refl

pub changes_name_one_key : {B : Type 0} → ChangesNameOneKey B
changes_name_one_key c name key what = record {
  others = λ other differ. ap (λ found. versions_in found other) (changed_here c name (KeyChanged key what)) ∙ other_key key what (get c name) other differ;
  facts = ap (option_map facts_of) (changed_here c name (KeyChanged key what)) ∙ same_facts key what (get c name);
}

this_key : {B : Type 0} (key : List ℕ) (what : KeyChange B) (found : Option (Bucket B)) → IsTrue (is_some found) → versions_in (option_map (change_in key what) found) key ≡ after_change (versioning_in found) what (versions_in found key)
this_key key what None there = absurd (false≢true there)
this_key key what (Some b) there = with_here b.keys key (after_change b.versioning what (versions_at b.keys key))

pub changes_follow_rules : {B : Type 0} → ChangesFollowRules B
changes_follow_rules c name key what there =
    ap (λ found. versions_in found key) (changed_here c name (KeyChanged key what)) ∙ this_key key what (get c name) there

-- a bucket that changes twice
pub changed_twice : {B : Type 0} (c : Catalogue B) (name : List ℕ) (first second : Option (Bucket B)) → with_bucket (with_bucket c name first) name second ≡ with_bucket c name second
changed_twice c name first second = same_by_get _ _ (λ q.
    elim (same_or q name) [
      | inl same ↦ ap (get (with_bucket (with_bucket c name first) name second)) same ∙ bucket_here (with_bucket c name first) name second
          ∙ sym (bucket_here c name second) ∙ ap (get (with_bucket c name second)) (sym same)
      | inr other ↦ bucket_other (with_bucket c name first) name second q other ∙ bucket_other c name first q other ∙ sym (bucket_other c name second q other)
    ])

pub completions_do_both : {B : Type 0} → CompletionsDoBoth B
completions_do_both c name key id what =
    sym (changed_twice c name (bucket_after (KeyChanged key what) (get c name)) (bucket_after (UploadCompleted key id what) (get c name)))
    ∙ ap (λ found. with_bucket (changed c name (KeyChanged key what)) name (bucket_after (UploadDropped key id) found)) (sym (changed_here c name (KeyChanged key what)))

-- a bucket where an upload changes keeps the versions under its keys
pub same_versions : {B : Type 0} (key : List ℕ) (id : ℕ) (next : Option (Upload B) → Option (Upload B)) (found : Option (Bucket B)) (k : List ℕ) → versions_in (option_map (upload_change_in key id next) found) k ≡ versions_in found k
same_versions key id next None k = refl
same_versions key id next (Some b) k = refl

pub completions_follow_rules : {B : Type 0} → CompletionsFollowRules B
completions_follow_rules c name key id what there =
    ap (λ found. versions_in found key) (changed_here c name (UploadCompleted key id what))
    ∙ same_versions key id (λ old. None) (option_map (change_in key what) (get c name)) key ∙ this_key key what (get c name) there

-- a bucket whose versioning is switched
switched_keys : {B : Type 0} (status : VersioningStatus) (found : Option (Bucket B)) (key : List ℕ) → versions_in (option_map (set_in status) found) key ≡ versions_in found key
switched_keys status None key = refl
switched_keys status (Some b) key = refl

switched_now : {B : Type 0} (status : VersioningStatus) (found : Option (Bucket B)) → IsTrue (is_some found) → versioning_in (option_map (set_in status) found) ≡ versioning_set status
switched_now status None there = absurd (false≢true there)
switched_now status (Some b) there = refl

versioned : (status : VersioningStatus) → versioning_set status ≢ Unversioned
versioned status.Enabled is = cc
versioned status.Suspended is = cc

pub switches_keep_keys : {B : Type 0} → SwitchesKeepKeys B
switches_keep_keys c name status = record {
  keys = λ key. ap (λ found. versions_in found key) (changed_here c name (VersioningSet status)) ∙ switched_keys status (get c name) key;
  now = λ there. ap versioning_in (changed_here c name (VersioningSet status)) ∙ switched_now status (get c name) there;
  versioned = versioned status;
}

-- no versions are versions of one key
none_valid : (B : Type 0) → are_versions {B = B} [] ≡ true
unfolding are_versions
none_valid B = refl

-- What holds of no versions, of those that are there, and of those that a change makes, holds of all after it.
module _ {B : Type 0} (P : List (Version B) → Type 0) (none : P []) where
  key_holds : (key : List ℕ) (what : KeyChange B) (found : Option (Bucket B)) → ((k : List ℕ) → P (versions_in found k)) → P (after_change (versioning_in found) what (versions_in found key))
      → (k : List ℕ) → P (versions_in (option_map (change_in key what) found) k)
  key_holds key what None old new k = none
  key_holds key what (Some b) old new k =
      let vs = after_change b.versioning what (versions_at b.keys key) in
      elim (same_or k key) [
        | inl same ↦ subst (λ q. P (versions_at (with_versions b.keys key vs) q)) (sym same) (subst P (sym (with_here b.keys key vs)) new)
        | inr other ↦ subst P (sym (with_other b.keys key vs k other)) (old k)
      ]

  -- of the versions that a change makes
  abbrev pub Makes : Change B → Option (Bucket B) → Type 0
  Makes (KeyChanged key what) found = P (after_change (versioning_in found) what (versions_in found key))
  Makes (UploadCompleted key id what) found = P (after_change (versioning_in found) what (versions_in found key))
  Makes other found = Unit {0}

  bucket_holds : (change : Change B) (found : Option (Bucket B)) → ((k : List ℕ) → P (versions_in found k)) → Makes change found → (k : List ℕ) → P (versions_in (bucket_after change found) k)
  bucket_holds (BucketAdded t) found old new k = subst (λ vs. P (found_versions vs)) (sym (get-empty byte_order k)) none
  bucket_holds BucketDropped found old new k = none
  bucket_holds (VersioningSet status) found old new k = subst P (sym (switched_keys status found k)) (old k)
  bucket_holds (KeyChanged key what) found old new k = key_holds key what found old new k
  bucket_holds (UploadAdded key id u) found old new k = subst P (sym (same_versions key id (λ old. Some u) found k)) (old k)
  bucket_holds (PartPut key id n part) found old new k = subst P (sym (same_versions key id (option_map (with_part n part)) found k)) (old k)
  bucket_holds (UploadDropped key id) found old new k = subst P (sym (same_versions key id (λ old. None) found k)) (old k)
  bucket_holds (UploadCompleted key id what) found old new k =
      subst P (sym (same_versions key id (λ old. None) (option_map (change_in key what) found) k)) (key_holds key what found old new k)

  pub all_hold : (c : Catalogue B) (name : List ℕ) (change : Change B) → ((bucket k : List ℕ) → P (versions_of c bucket k)) → Makes change (get c name)
      → (bucket k : List ℕ) → P (versions_of (changed c name change) bucket k)
  all_hold c name change old new bucket k =
      elim (same_or bucket name) [
        | inl same ↦
            subst (λ n. P (versions_of (changed c name change) n k)) (sym same)
            (subst (λ found. P (versions_in found k)) (sym (changed_here c name change)) (bucket_holds change (get c name) (λ q. old name q) new k))
        | inr other ↦ subst (λ found. P (versions_in found k)) (sym (changes_are_local c name change bucket other)) (old bucket k)
      ]

pub versions_stay_in_order : {B : Type 0} → ChangesLeaveVersions B → VersionsStayInOrder B
versions_stay_in_order {B} leave c name change valid new =
    let made = elim change as (λ what. IsNew c name what → Makes (λ vs. IsTrue (are_versions vs)) (none_valid B) what (get c name)) [
      | BucketAdded t ↦ λ is. tt
      | BucketDropped ↦ λ is. tt
      | VersioningSet status ↦ λ is. tt
      | KeyChanged key what ↦ λ is. leave (versioning_of c name) what (versions_of c name key) (valid name key) is
      | UploadAdded key id u ↦ λ is. tt
      | PartPut key id n part ↦ λ is. tt
      | UploadDropped key id ↦ λ is. tt
      | UploadCompleted key id what ↦ λ is. leave (versioning_of c name) what (versions_of c name key) (valid name key) is
    ] new in
    all_hold (λ vs. IsTrue (are_versions vs)) (none_valid B) c name change valid made

-- an empty bucket's keys are none, and to none an upload is open
pub empty_versions : {B : Type 0} (keys : Keys B) (key : List ℕ) → has_no_keys keys ≡ true → versions_at keys key ≡ []
empty_versions keys key nothing =
    ap (λ keys. versions_at keys key) (empty_of_len keys (eqb-true (len keys) 0 nothing)) ∙ ap found_versions (get-empty byte_order key)

pub no_upload : {B : Type 0} (key : List ℕ) (id : ℕ) → upload_under {B = B} empty key id ≡ None
no_upload key id = ap (λ found. get (found_uploads found) id) (get-empty byte_order key) ∙ get-empty nat_cmp id

empty_uploads : {B : Type 0} (uploads : Uploads B) (key : List ℕ) (id : ℕ) → has_no_uploads uploads ≡ true → upload_under uploads key id ≡ None
empty_uploads uploads key id nothing =
    ap (λ uploads. upload_under uploads key id) (empty_of_len uploads (eqb-true (len uploads) 0 nothing)) ∙ no_upload key id

no_versions : {B : Type 0} (found : Option (Bucket B)) (key : List ℕ) → IsTrue (is_empty_in found) → versions_in found key ≡ []
no_versions None key nothing = refl
no_versions (Some b) key nothing = empty_versions b.keys key (and_parts (has_no_keys b.keys) (has_no_uploads b.uploads) nothing).0

no_uploads : {B : Type 0} (found : Option (Bucket B)) (key : List ℕ) (id : ℕ) → IsTrue (is_empty_in found) → upload_in found key id ≡ None
no_uploads None key id nothing = refl
no_uploads (Some b) key id nothing = empty_uploads b.uploads key id (and_parts (has_no_keys b.keys) (has_no_uploads b.uploads) nothing).1

pub empty_has_nothing : {B : Type 0} → EmptyHasNothing B
empty_has_nothing c name nothing = record {
  no_versions = λ key. no_versions (get c name) key nothing;
  no_uploads = λ key id. no_uploads (get c name) key id nothing;
}

found_or : {X : Type 0} (b : Bool) (x : X) (found : Option X) → is_some (cond b (Some x) found) ≡ (b || is_some found)
found_or true x found = refl
found_or false x found = refl

-- the catalogue that a server opens with
opening_there : (B : Type 0) (names : List (List ℕ)) (name : List ℕ) → has_bucket {B = B} (opening names) name ≡ list_any (bytes_eq name) names
opening_there B [] name = ap is_some (get-empty byte_order name)
opening_there B (first ∷ names) name =
    ap is_some (get-put (opening {B = B} names) first (new_bucket 0) name)
    ∙ found_or (eq_by_cmp byte_order name first) (new_bucket 0) (get (opening {B = B} names) name)
    ∙ ap (λ b. b || is_some (get (opening {B = B} names) name)) (sym (texts_ties name first))
    ∙ ap (λ b. bytes_eq name first || b) (opening_there B names name)

new_or : {B : Type 0} (b : Bool) (found : Option (Bucket B)) → (found ≡ None) ⊎ (found ≡ Some (new_bucket 0)) → (cond b (Some (new_bucket 0)) found ≡ None) ⊎ (cond b (Some (new_bucket 0)) found ≡ Some (new_bucket 0))
new_or true found either = inr refl
new_or false found either = either

pub opening_found : {B : Type 0} (names : List (List ℕ)) (name : List ℕ) → (get (opening {B = B} names) name ≡ None) ⊎ (get (opening {B = B} names) name ≡ Some (new_bucket 0))
opening_found [] name = inl (get-empty byte_order name)
opening_found (first ∷ names) name =
    elim (new_or (eq_by_cmp byte_order name first) (get (opening names) name) (opening_found names name)) [
      | inl none ↦ inl (get-put (opening names) first (new_bucket 0) name ∙ none)
      | inr new ↦ inr (get-put (opening names) first (new_bucket 0) name ∙ new)
    ]

pub opening_is_empty : {B : Type 0} → OpeningIsEmpty B
opening_is_empty names name =
    elim (opening_found names name) [
      | inl none ↦ record {
        there = opening_there _ names name;
        unversioned = ap versioning_in none;
        empty = λ key. ap (λ found. versions_in found key) none;
        no_uploads = λ key id. ap (λ found. upload_in found key id) none;
      }
      | inr new ↦ record {
        there = opening_there _ names name;
        unversioned = ap versioning_in new;
        empty = λ key. ap (λ found. versions_in found key) new ∙ ap found_versions (get-empty byte_order key);
        no_uploads = λ key id. ap (λ found. upload_in found key id) new ∙ no_upload key id;
      }
    ]
