-- What changes do at one place.
use Rattle.std.proofs.Common.{◌≡◌, refl, sym, ap, ◌∙◌, inl, inr, IsTrue, true, not, ℕ, ◌<◌, List, [], Option, Some, None, IfSome, is_some, option_map}
use Rattle.std.proofs.lemmas.Bool.{false≢true}
use Rattle.std.specs.FinMap.{get, get-empty}
use Rattle.s3_text.specs.Order.{byte_order}
use Rattle.s3_text.proofs.MapLemmas.{same_or}
use Rattle.s3_names.specs.declared.ids.VersionId.{VersionId}
use Rattle.s3_versions.specs.declared.version.Version.{Version}
use Rattle.s3_versions.specs.Rules.{KeyChange, asked_for, is_new_number}
use Rattle.s3_versions.specs.Laws.{OneIdChanges, ChangesAreUnderOneId, id_changed, version_made, NumbersStayNew, LaterIsNew}
use Rattle.s3_records.specs.Catalogue.{Catalogue, Bucket, has_bucket, versions_in, versions_of, versioning_of, found_versions}
use Rattle.s3_uploads.specs.declared.upload.Upload.{Upload}
use Rattle.s3_uploads.specs.Uploads.{with_part}
use Rattle.s3_records.specs.Changes.{Change, BucketAdded, BucketDropped, VersioningSet, KeyChanged, UploadAdded, PartPut, UploadDropped, UploadCompleted, bucket_after, upload_change_in, changed}
use Rattle.s3_records.specs.Laws.{SameElsewhere, OneKeyChanges}
use Rattle.s3_records.specs.Places.{SameVersions, OnePlaceChanges, ChangesAreByPlace, number_in, NumbersStayBelow, LaterIsBelow, OpeningIsBelow}
use Rattle.s3_records.proofs.LawLemmas.{changed_here, same_versions, completions_do_both, changes_are_local, changes_name_one_key, changes_follow_rules, switches_keep_keys, empty_has_nothing, opening_is_empty, Makes, all_hold}

-- where one key of a bucket changes, the versions under each other are as they were
moved : {B : Type 0} (c d : Catalogue B) (name bucket k : List ℕ) → bucket ≡ name → versions_of d name k ≡ versions_of c name k → versions_of d bucket k ≡ versions_of c bucket k
moved c d name bucket k same is = ap (λ b. versions_of d b k) same ∙ is ∙ ap (λ b. versions_of c b k) (sym same)

other_key : {B : Type 0} (c d : Catalogue B) (name key : List ℕ) → SameElsewhere name c d → OneKeyChanges c d name key → (bucket k : List ℕ) → ¬ ((bucket ≡ name) × (k ≡ key)) → versions_of d bucket k ≡ versions_of c bucket k
other_key c d name key buckets keys bucket k differ =
    elim (same_or bucket name) [
      | inl same ↦ moved c d name bucket k same (keys.others k (λ here. differ (same, here)))
      | inr other ↦ ap (λ found. versions_in found k) (buckets bucket other)
    ]

one_place : {B : Type 0} (c d : Catalogue B) (name key : List ℕ) (id : VersionId) (now : Option (Version B)) (vs : List (Version B)) → SameElsewhere name c d → OneKeyChanges c d name key → versions_of d name key ≡ vs → OneIdChanges id now (versions_of c name key) vs → OnePlaceChanges c d name key id now
one_place c d name key id now vs buckets keys is changes = record {
  here = ap (asked_for (Some id)) is ∙ changes.here;
  other_ids = λ other differ. ap (asked_for (Some other)) is ∙ changes.elsewhere other differ;
  other_keys = λ bucket k differ. other_key c d name key buckets keys bucket k differ;
}

-- a bucket that changes, and has the versions that it had
same_in_bucket : {B : Type 0} (c d : Catalogue B) (name : List ℕ) → SameElsewhere name c d → ((key : List ℕ) → versions_of d name key ≡ versions_of c name key) → SameVersions c d
same_in_bucket c d name elsewhere here bucket k =
    elim (same_or bucket name) [
      | inl same ↦ moved c d name bucket k same (here k)
      | inr other ↦ ap (λ found. versions_in found k) (elsewhere bucket other)
    ]

no_bucket : {B : Type 0} (found : Option (Bucket B)) (key : List ℕ) → not (is_some found) ≡ true → versions_in found key ≡ []
no_bucket None key none = refl
no_bucket (Some b) key none = absurd (false≢true none)

added_here : {B : Type 0} (c : Catalogue B) (name : List ℕ) (t : ℕ) → IsTrue (not (has_bucket c name)) → (key : List ℕ) → versions_of (changed c name (BucketAdded t)) name key ≡ versions_of c name key
added_here c name t none key =
    ap (λ found. versions_in found key) (changed_here c name (BucketAdded t)) ∙ ap found_versions (get-empty byte_order key)
    ∙ sym (no_bucket (get c name) key none)

dropped_here : {B : Type 0} (c : Catalogue B) (name key : List ℕ) → versions_of c name key ≡ [] → versions_of (changed c name BucketDropped) name key ≡ versions_of c name key
dropped_here c name key none = ap (λ found. versions_in found key) (changed_here c name BucketDropped) ∙ sym none

-- where an upload changes, no version does
upload_alone : {B : Type 0} (c : Catalogue B) (name key : List ℕ) (id : ℕ) (next : Option (Upload B) → Option (Upload B)) (change : Change B) → bucket_after change (get c name) ≡ option_map (upload_change_in key id next) (get c name)
    → SameVersions c (changed c name change)
upload_alone c name key id next change is =
    same_in_bucket c (changed c name change) name (changes_are_local c name change) (λ k.
    ap (λ found. versions_in found k) (changed_here c name change ∙ is) ∙ same_versions key id next (get c name) k)

-- what is at the places after a change of a key is there where an upload goes, too
then_same : {B : Type 0} (c d e : Catalogue B) (name key : List ℕ) (id : VersionId) (now : Option (Version B)) → SameVersions d e → OnePlaceChanges c d name key id now → OnePlaceChanges c e name key id now
then_same c d e name key id now same changes = record {
  here = ap (asked_for (Some id)) (same name key) ∙ changes.here;
  other_ids = λ other differ. ap (asked_for (Some other)) (same name key) ∙ changes.other_ids other differ;
  other_keys = λ bucket k differ. same bucket k ∙ changes.other_keys bucket k differ;
}

key_changes : {B : Type 0} → ChangesAreUnderOneId B → (c : Catalogue B) (name key : List ℕ) (what : KeyChange B) → IsTrue (has_bucket c name)
    → OnePlaceChanges c (changed c name (KeyChanged key what)) name key (id_changed (versioning_of c name) what) (version_made (versioning_of c name) what)
key_changes under c name key what may =
    one_place c (changed c name (KeyChanged key what)) name key _ _ _ (changes_are_local c name (KeyChanged key what)) (changes_name_one_key c name key what)
    (changes_follow_rules c name key what may) (under (versioning_of c name) what (versions_of c name key))

pub changes_are_by_place : {B : Type 0} → ChangesAreUnderOneId B → ChangesAreByPlace B
changes_are_by_place under c name (BucketAdded t) may =
    same_in_bucket c (changed c name (BucketAdded t)) name (changes_are_local c name (BucketAdded t)) (added_here c name t may)
changes_are_by_place under c name BucketDropped may =
    same_in_bucket c (changed c name BucketDropped) name (changes_are_local c name BucketDropped) (λ key. dropped_here c name key ((empty_has_nothing c name may).no_versions key))
changes_are_by_place under c name (VersioningSet status) may =
    same_in_bucket c (changed c name (VersioningSet status)) name (changes_are_local c name (VersioningSet status)) (switches_keep_keys c name status).keys
changes_are_by_place under c name (KeyChanged key what) may = key_changes under c name key what may
changes_are_by_place under c name (UploadAdded key id u) may = upload_alone c name key id (λ old. Some u) (UploadAdded key id u) refl
changes_are_by_place under c name (PartPut key id n part) may = upload_alone c name key id (option_map (with_part n part)) (PartPut key id n part) refl
changes_are_by_place under c name (UploadDropped key id) may = upload_alone c name key id (λ old. None) (UploadDropped key id) refl
changes_are_by_place under c name (UploadCompleted key id what) may =
    let keyed = changed c name (KeyChanged key what) in
    let dropped = changed keyed name (UploadDropped key id) in
    let same : SameVersions keyed dropped = upload_alone keyed name key id (λ old. None) (UploadDropped key id) refl in
    then_same c keyed (changed c name (UploadCompleted key id what)) name key _ _
    (λ bucket k. ap (λ d. versions_of d bucket k) (completions_do_both c name key id what) ∙ same bucket k) (key_changes under c name key what may)

none_new : (B : Type 0) (n : ℕ) → is_new_number {B = B} n [] ≡ true
unfolding is_new_number
none_new B n = refl

pub numbers_stay_below : {B : Type 0} → NumbersStayNew B → NumbersStayBelow B
numbers_stay_below {B} stay m c name change below above =
    let made = elim change as (λ what. IfSome (number_in what) (λ n. n < m) → Makes (λ vs. IsTrue (is_new_number m vs)) (none_new B m) what (get c name)) [
      | BucketAdded t ↦ λ is. tt
      | BucketDropped ↦ λ is. tt
      | VersioningSet status ↦ λ is. tt
      | KeyChanged key what ↦ λ is. stay m (versioning_of c name) what (versions_of c name key) (below name key) is
      | UploadAdded key id u ↦ λ is. tt
      | PartPut key id n part ↦ λ is. tt
      | UploadDropped key id ↦ λ is. tt
      | UploadCompleted key id what ↦ λ is. stay m (versioning_of c name) what (versions_of c name key) (below name key) is
    ] above in
    all_hold (λ vs. IsTrue (is_new_number m vs)) (none_new B m) c name change below made

pub later_is_below : {B : Type 0} → LaterIsNew B → LaterIsBelow B
later_is_below later n m c rises below name key = later n m (versions_of c name key) rises (below name key)

pub opening_is_below : (B : Type 0) → OpeningIsBelow B
opening_is_below B n names name key = ap (is_new_number n) ((opening_is_empty {B = B} names name).empty key) ∙ none_new B n
