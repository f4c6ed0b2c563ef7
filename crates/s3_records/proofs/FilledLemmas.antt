-- No key is without versions, and none that is there for its uploads without these, whatever changes.
use Rattle.std.proofs.Common.{◌≡◌, ◌≢◌, ◌⊎◌, inl, inr, refl, sym, ap, subst, ◌∙◌, ◌&&◌, true, false, cond, ℕ, List, [], ◌∷◌, length, Option, Some, None, option_map, ◌==◌}
use Rattle.std.proofs.lemmas.Bool.{false≢true, eqb-true}
use Rattle.std.proofs.lemmas.Option.{none-some, same_Some}
use Rattle.std.specs.Cmp.{eq_by_cmp_equiv, IsTotalOrder, nat_cmp_total}
use Rattle.std.specs.Cmp.Lexicographic.{nat_list_cmp_total}
use Rattle.std.specs.FinMap.{FinMap, get, insert, remove, empty, get-empty, empty_of_len, len, len-empty, entries, len-entries, get-entries}
use Rattle.std.specs.FinMap.Entries.{find}
use Rattle.std.specs.Ordering.{nat_cmp}
use Rattle.std.specs.declared.cmp.Ordering.{Ordering}
use Rattle.s3_text.specs.Order.{byte_order}
use Rattle.s3_text.proofs.MapLemmas.{same_or}
use Rattle.s3_versions.specs.Rules.{KeyChange, after_change}
use Rattle.s3_uploads.specs.declared.upload.Upload.{Upload}
use Rattle.s3_uploads.specs.Uploads.{with_part}
use Rattle.s3_records.specs.Catalogue.{KeyUploads, Uploads, Bucket, Catalogue, new_bucket, opening, versions_at, versions_in, found_versions, has_no_keys, has_no_uploads, is_empty_in}
use Rattle.s3_records.specs.Changes.{Change, BucketAdded, BucketDropped, VersioningSet, KeyChanged, UploadAdded, PartPut, UploadDropped, UploadCompleted, with_uploads, with_id, set_in, change_in, upload_change_in, bucket_after, changed}
use Rattle.s3_records.specs.OpenUploads.{uploads_under, upload_under, upload_in, found_uploads}
use Rattle.s3_records.specs.Laws.{AreFilled, KeysStayFilled, OthersHaveSomething}
use Rattle.s3_records.proofs.KeyLemmas.{put_filled, remove_filled, with_filled}
use Rattle.s3_records.proofs.LawLemmas.{changed_here, changes_are_local, opening_found}

-- no key of a bucket is without
record Filled {B : Type 0} (b : Bucket B) : Type 0 where
  versions : (key : List ℕ) → get b.keys key ≢ Some []
  uploads : (key : List ℕ) → get b.uploads key ≢ Some empty

not_empty : {B : Type 0} (under : KeyUploads B) → (len under == 0) ≡ false → under ≢ empty
not_empty {B} under some none = false≢true (sym some ∙ ap (λ n. n == 0) (ap len none ∙ len-empty nat_cmp (Upload B)))

uploads_filled : {B : Type 0} (uploads : Uploads B) (key : List ℕ) (under : KeyUploads B) → ((q : List ℕ) → get uploads q ≢ Some empty) → (q : List ℕ) → get (with_uploads uploads key under) q ≢ Some empty
uploads_filled uploads key under filled q =
    elim (len under == 0) as (λ b. (len under == 0) ≡ b → get (cond b (remove uploads key) (insert uploads key under)) q ≢ Some empty) [
      | true ↦ λ none is. remove_filled uploads key empty filled q is
      | false ↦ λ some is. put_filled uploads key under empty (not_empty under some) filled q is
    ] refl

new_filled : {B : Type 0} (t : ℕ) (b : Bucket B) → Some (new_bucket t) ≡ Some b → Filled b
new_filled t b is =
    subst Filled (same_Some (new_bucket t) b is) (record {
      versions = λ key some. none-some [] (sym (get-empty byte_order key) ∙ some);
      uploads = λ key some. none-some empty (sym (get-empty byte_order key) ∙ some);
    })

key_filled : {B : Type 0} (key : List ℕ) (what : KeyChange B) (b : Bucket B) → Filled b → Filled (change_in key what b)
key_filled key what b filled = record {
  versions = with_filled b.keys key (after_change b.versioning what (versions_at b.keys key)) filled.versions;
  uploads = filled.uploads;
}

upload_filled : {B : Type 0} (key : List ℕ) (id : ℕ) (next : Option (Upload B) → Option (Upload B)) (b : Bucket B) → Filled b → Filled (upload_change_in key id next b)
upload_filled key id next b filled = record {
  versions = filled.versions;
  uploads = uploads_filled b.uploads key (with_id (uploads_under b.uploads key) id (next (upload_under b.uploads key id))) filled.uploads;
}

change_filled : {B : Type 0} (change : Bucket B → Bucket B) (found : Option (Bucket B)) → ((b : Bucket B) → Filled b → Filled (change b)) → ((b : Bucket B) → found ≡ Some b → Filled b) → (b : Bucket B) → option_map change found ≡ Some b → Filled b
change_filled change None kept filled b is = absurd (none-some b is)
change_filled change (Some a) kept filled b is = subst Filled (same_Some (change a) b is) (kept a (filled a refl))

filled_after : {B : Type 0} (change : Change B) (found : Option (Bucket B)) → ((b : Bucket B) → found ≡ Some b → Filled b) → (b : Bucket B) → bucket_after change found ≡ Some b → Filled b
filled_after (BucketAdded t) found filled b is = new_filled t b is
filled_after BucketDropped found filled b is = absurd (none-some b is)
filled_after (VersioningSet status) found filled b is =
    change_filled (set_in status) found (λ a kept. record { versions = kept.versions; uploads = kept.uploads }) filled b is
filled_after (KeyChanged key what) found filled b is = change_filled (change_in key what) found (key_filled key what) filled b is
filled_after (UploadAdded key id u) found filled b is = change_filled (upload_change_in key id (λ old. Some u)) found (upload_filled key id (λ old. Some u)) filled b is
filled_after (PartPut key id n part) found filled b is =
    change_filled (upload_change_in key id (option_map (with_part n part))) found (upload_filled key id (option_map (with_part n part))) filled b is
filled_after (UploadDropped key id) found filled b is = change_filled (upload_change_in key id (λ old. None)) found (upload_filled key id (λ old. None)) filled b is
filled_after (UploadCompleted key id what) found filled b is =
    change_filled (upload_change_in key id (λ old. None)) (option_map (change_in key what) found) (upload_filled key id (λ old. None))
    (change_filled (change_in key what) found (key_filled key what) filled) b is

-- all buckets of a catalogue
of_buckets : {B : Type 0} (c : Catalogue B) → ((name : List ℕ) (b : Bucket B) → get c name ≡ Some b → Filled b) → AreFilled c
of_buckets c all = record { versions = λ name key b found. (all name b found).versions key; uploads = λ name key b found. (all name b found).uploads key }

bucket_of : {B : Type 0} (c : Catalogue B) → AreFilled c → (name : List ℕ) (b : Bucket B) → get c name ≡ Some b → Filled b
bucket_of c all name b found = record { versions = λ key. all.versions name key b found; uploads = λ key. all.uploads name key b found }

stay_filled : {B : Type 0} (c : Catalogue B) (name : List ℕ) (change : Change B) → AreFilled c → AreFilled (changed c name change)
stay_filled c name change valid = of_buckets (changed c name change) (λ bucket b found.
    elim (same_or bucket name) [
      | inl same ↦
          filled_after change (get c name) (bucket_of c valid name) b
          (sym (changed_here c name change) ∙ ap (get (changed c name change)) (sym same) ∙ found)
      | inr other ↦ bucket_of c valid bucket b (sym (changes_are_local c name change bucket other) ∙ found)
    ])

opening_filled : {B : Type 0} (names : List (List ℕ)) → AreFilled {B = B} (opening names)
opening_filled names = of_buckets (opening names) (λ name b is.
    elim (opening_found names name) [
      | inl none ↦ absurd (none-some b (sym none ∙ is))
      | inr new ↦ new_filled 0 b (sym new ∙ is)
    ])

pub keys_stay_filled : {B : Type 0} → KeysStayFilled B
keys_stay_filled = (opening_filled, stay_filled)

-- a map that is not empty has a first key
first_key : {K X : Type 0} {R : K → K → Ordering} (total : IsTotalOrder R) (m : FinMap R X) (es : List (K × X)) → entries m ≡ es → (len m == 0) ≡ false → (k : K) × (v : X) × (get m k ≡ Some v)
first_key total m [] is some = absurd (false≢true (sym some ∙ ap (λ n. n == 0) (len-entries m ∙ ap length is)))
first_key {R = R} total m (e ∷ es) is some =
    (e.0, e.1, get-entries m e.0 ∙ ap (find R e.0) is ∙ ap (λ b. cond b (Some e.1) (find R e.0 es)) ((eq_by_cmp_equiv total).refl e.0))

-- so a bucket that is not empty has something
some_version : {B : Type 0} (b : Bucket B) → Filled b → has_no_keys b.keys ≡ false → (key : List ℕ) × (versions_in (Some b) key ≢ [])
some_version b filled some =
    let first = first_key nat_list_cmp_total b.keys (entries b.keys) refl some in
    (first.0, λ none. filled.versions first.0 (first.2 ∙ ap Some (sym (ap found_versions first.2) ∙ none)))

-- uploads to a key that are none have no first one
none_under : {B : Type 0} (under : KeyUploads B) → under ≢ empty → (len under == 0) ≡ false
none_under under some =
    elim (len under == 0) as (λ b. (len under == 0) ≡ b → b ≡ false) [
      | true ↦ λ none. absurd (some (empty_of_len under (eqb-true (len under) 0 none)))
      | false ↦ λ is. refl
    ] refl

some_upload : {B : Type 0} (b : Bucket B) → Filled b → has_no_uploads b.uploads ≡ false → (key : List ℕ) × (id : ℕ) × (upload_in (Some b) key id ≢ None)
some_upload b filled some =
    let first = first_key nat_list_cmp_total b.uploads (entries b.uploads) refl some in
    let under = first.1 in
    let upload = first_key nat_cmp_total under (entries under) refl (none_under under (λ none. filled.uploads first.0 (first.2 ∙ ap Some none))) in
    (first.0, upload.0, λ none. none-some upload.1 (sym none ∙ ap (λ found. get (found_uploads found) upload.0) first.2 ∙ upload.2))

found_something : {B : Type 0} (found : Option (Bucket B)) → ((b : Bucket B) → found ≡ Some b → Filled b) → is_empty_in found ≡ false
    → ((key : List ℕ) × (versions_in found key ≢ [])) ⊎ ((key : List ℕ) × (id : ℕ) × (upload_in found key id ≢ None))
found_something None filled some = absurd (false≢true (sym some))
found_something (Some b) filled some =
    elim (has_no_keys b.keys) as (λ x. has_no_keys b.keys ≡ x → (x && has_no_uploads b.uploads) ≡ false → ((key : List ℕ) × (versions_in (Some b) key ≢ [])) ⊎ ((key : List ℕ) × (id : ℕ) × (upload_in (Some b) key id ≢ None))) [
      | true ↦ λ none other. inr (some_upload b (filled b refl) other)
      | false ↦ λ is other. inl (some_version b (filled b refl) is)
    ] refl some

pub others_have_something : {B : Type 0} → OthersHaveSomething B
others_have_something c name valid some = found_something (get c name) (bucket_of c valid name) some
