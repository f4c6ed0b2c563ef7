-- What changes do to the open uploads.
use Rattle.std.proofs.Common.{◌≡◌, ◌≢◌, ◌⊎◌, inl, inr, refl, sym, ap, subst, ◌∙◌, IsTrue, true, false, not, ℕ, List, Option, Some, None, is_some, option_map}
use Rattle.std.proofs.lemmas.Bool.{false≢true}
use Rattle.std.specs.FinMap.{get}
use Rattle.std.specs.Ordering.{nat_cmp, eq_by_cmp}
use Rattle.s3_text.proofs.MapLemmas.{same_or}
use Rattle.s3_uploads.specs.declared.upload.Upload.{Upload}
use Rattle.s3_uploads.specs.Uploads.{with_part}
use Rattle.s3_versions.specs.Rules.{KeyChange}
use Rattle.s3_versions.specs.declared.version.VersioningStatus.{VersioningStatus}
use Rattle.s3_records.specs.Catalogue.{Bucket, Catalogue, has_bucket}
use Rattle.s3_records.specs.Changes.{Change, BucketAdded, BucketDropped, VersioningSet, KeyChanged, UploadAdded, PartPut, UploadDropped, UploadCompleted, set_in, change_in, upload_change_in, with_upload, bucket_after, changed}
use Rattle.s3_records.specs.OpenUploads.{upload_under, upload_in, upload_at}
use Rattle.s3_records.specs.Places.{SameUploads, OneUploadChanges, ChangesAreByUpload}
use Rattle.s3_records.proofs.LawLemmas.{changed_here, changes_are_local, completions_do_both, no_upload, empty_has_nothing}
use Rattle.s3_records.proofs.UploadLemmas.{same_id, own_id, upload_here, same_key, other_key}

-- two ids are the same, or not
pub same_or_id : (i id : ℕ) → (i ≡ id) ⊎ (i ≢ id)
same_or_id i id =
    elim (eq_by_cmp nat_cmp i id) as (λ b. eq_by_cmp nat_cmp i id ≡ b → (i ≡ id) ⊎ (i ≢ id)) [
      | true ↦ λ is. inl (same_id i id is)
      | false ↦ λ is. inr (λ same. false≢true (sym is ∙ ap (λ n. eq_by_cmp nat_cmp n id) same ∙ own_id id))
    ] refl

-- in a bucket where one upload changes
here_in : {B : Type 0} (key : List ℕ) (id : ℕ) (next : Option (Upload B) → Option (Upload B)) (found : Option (Bucket B)) → IsTrue (is_some found) → upload_in (option_map (upload_change_in key id next) found) key id ≡ next (upload_in found key id)
here_in key id next None there = absurd (false≢true there)
here_in key id next (Some b) there = upload_here b.uploads key id (next (upload_under b.uploads key id))

other_in : {B : Type 0} (key : List ℕ) (id : ℕ) (next : Option (Upload B) → Option (Upload B)) (found : Option (Bucket B)) (k : List ℕ) (i : ℕ) → ¬ ((k ≡ key) × (i ≡ id)) → upload_in (option_map (upload_change_in key id next) found) k i ≡ upload_in found k i
other_in key id next None k i differ = refl
other_in key id next (Some b) k i differ =
    let now = next (upload_under b.uploads key id) in
    elim (same_or k key) [
      | inl same ↦ ap (λ q. upload_under (with_upload b.uploads key id now) q i) same ∙ same_key b.uploads key id now i (λ here. differ (same, here)) ∙ ap (λ q. upload_under b.uploads q i) (sym same)
      | inr other ↦ other_key b.uploads key id now k i other
    ]

-- in all buckets
elsewhere : {B : Type 0} (c d : Catalogue B) (name key : List ℕ) (id : ℕ) → ((other : List ℕ) → other ≢ name → get d other ≡ get c other)
    → ((k : List ℕ) (i : ℕ) → ¬ ((k ≡ key) × (i ≡ id)) → upload_at d name k i ≡ upload_at c name k i)
    → (bucket k : List ℕ) (i : ℕ) → ¬ ((bucket ≡ name) × ((k ≡ key) × (i ≡ id))) → upload_at d bucket k i ≡ upload_at c bucket k i
elsewhere c d name key id buckets uploads bucket k i differ =
    elim (same_or bucket name) [
      | inl same ↦ ap (λ b. upload_at d b k i) same ∙ uploads k i (λ here. differ (same, here)) ∙ ap (λ b. upload_at c b k i) (sym same)
      | inr other ↦ ap (λ found. upload_in found k i) (buckets bucket other)
    ]

one_upload : {B : Type 0} (c : Catalogue B) (name key : List ℕ) (id : ℕ) (next : Option (Upload B) → Option (Upload B)) (change : Change B) → bucket_after change (get c name) ≡ option_map (upload_change_in key id next) (get c name)
    → IsTrue (has_bucket c name) → OneUploadChanges c (changed c name change) name key id (next (upload_at c name key id))
one_upload c name key id next change is there =
    let now = changed_here c name change ∙ is in
    record {
      here = ap (λ found. upload_in found key id) now ∙ here_in key id next (get c name) there;
      others = elsewhere c (changed c name change) name key id (changes_are_local c name change) (λ k i differ.
          ap (λ found. upload_in found k i) now ∙ other_in key id next (get c name) k i differ);
    }

-- where no upload changes
same_uploads : {B : Type 0} (c : Catalogue B) (name : List ℕ) (change : Change B) → ((key : List ℕ) (id : ℕ) → upload_in (bucket_after change (get c name)) key id ≡ upload_at c name key id) → SameUploads c (changed c name change)
same_uploads c name change same bucket key id =
    let d = changed c name change in
    elim (same_or bucket name) [
      | inl is ↦ ap (λ b. upload_at d b key id) is ∙ ap (λ found. upload_in found key id) (changed_here c name change) ∙ same key id ∙ ap (λ b. upload_at c b key id) (sym is)
      | inr other ↦ ap (λ found. upload_in found key id) (changes_are_local c name change bucket other)
    ]

no_bucket : {B : Type 0} (found : Option (Bucket B)) (key : List ℕ) (id : ℕ) → not (is_some found) ≡ true → upload_in found key id ≡ None
no_bucket None key id none = refl
no_bucket (Some b) key id none = absurd (false≢true none)

switched : {B : Type 0} (status : VersioningStatus) (found : Option (Bucket B)) (key : List ℕ) (id : ℕ) → upload_in (option_map (set_in status) found) key id ≡ upload_in found key id
switched status None key id = refl
switched status (Some b) key id = refl

keyed : {B : Type 0} (k : List ℕ) (what : KeyChange B) (found : Option (Bucket B)) (key : List ℕ) (id : ℕ) → upload_in (option_map (change_in k what) found) key id ≡ upload_in found key id
keyed k what None key id = refl
keyed k what (Some b) key id = refl

still_there : {B : Type 0} (key : List ℕ) (what : KeyChange B) (found : Option (Bucket B)) → IsTrue (is_some found) → IsTrue (is_some (option_map (change_in key what) found))
still_there key what None there = there
still_there key what (Some b) there = refl

-- a completion takes the upload away once the key has changed
completion : {B : Type 0} (c d e : Catalogue B) (name key : List ℕ) (id : ℕ) → SameUploads c d → OneUploadChanges d e name key id None → OneUploadChanges c e name key id None
completion c d e name key id same one = record {
  here = one.here;
  others = λ bucket k i differ. one.others bucket k i differ ∙ same bucket k i;
}

pub changes_are_by_upload : {B : Type 0} → ChangesAreByUpload B
changes_are_by_upload c name (BucketAdded t) may = same_uploads c name (BucketAdded t) (λ key id. no_upload key id ∙ sym (no_bucket (get c name) key id may))
changes_are_by_upload c name BucketDropped may = same_uploads c name BucketDropped (λ key id. sym ((empty_has_nothing c name may).no_uploads key id))
changes_are_by_upload c name (VersioningSet status) may = same_uploads c name (VersioningSet status) (switched status (get c name))
changes_are_by_upload c name (KeyChanged key what) may = same_uploads c name (KeyChanged key what) (keyed key what (get c name))
changes_are_by_upload c name (UploadAdded key id u) may = one_upload c name key id (λ old. Some u) (UploadAdded key id u) refl may
changes_are_by_upload c name (PartPut key id n part) may = one_upload c name key id (option_map (with_part n part)) (PartPut key id n part) refl may
changes_are_by_upload c name (UploadDropped key id) may = one_upload c name key id (λ old. None) (UploadDropped key id) refl may
changes_are_by_upload c name (UploadCompleted key id what) may =
    let d = changed c name (KeyChanged key what) in
    let there : IsTrue (has_bucket d name) = ap is_some (changed_here c name (KeyChanged key what)) ∙ still_there key what (get c name) may in
    let one = one_upload d name key id (λ old. None) (UploadDropped key id) refl there in
    subst (λ e. OneUploadChanges c e name key id None) (sym (completions_do_both c name key id what))
    (completion c d (changed d name (UploadDropped key id)) name key id (same_uploads c name (KeyChanged key what) (keyed key what (get c name))) one)
