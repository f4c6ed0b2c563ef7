-- Catalogues stay orderly.
use Rattle.std.proofs.Common.{◌≡◌, ◌≢◌, inl, inr, refl, sym, ap, subst, ◌∙◌, Bool, true, false, cond, ℕ, List, [], ◌∷◌, Option, Some, None, option_map}
use Rattle.std.proofs.lemmas.Option.{none-some, same_Some}
use Rattle.std.specs.Cmp.{eq_by_cmp_equiv}
use Rattle.std.specs.Cmp.Lexicographic.{nat_list_cmp_total}
use Rattle.std.specs.FinMap.{get, empty, get-empty, get-insert, get-remove}
use Rattle.std.specs.Ordering.{eq_by_cmp}
use Rattle.s3_text.specs.Order.{byte_order}
use Rattle.s3_text.proofs.MapLemmas.{same_or}
use Rattle.s3_versions.specs.declared.version.Version.{Version}
use Rattle.s3_versions.specs.Rules.{KeyChange, after_change, are_versions}
use Rattle.s3_uploads.specs.declared.upload.Upload.{Upload}
use Rattle.s3_uploads.specs.Uploads.{with_part}
use Rattle.s3_deletions.specs.declared.named.NamedObject.{NamedObject}
use Rattle.s3_deletions.specs.declared.named.NamedObject.TheVariants.{Object, Fault}
use Rattle.s3_deletions.specs.Deletions.{acts, change_named}
use Rattle.s3_records.specs.Catalogue.{Keys, Bucket, Catalogue, HaveVersions, new_bucket, opening, versions_at, versions_of}
use Rattle.s3_records.specs.Changes.{Change, BucketAdded, BucketDropped, VersioningSet, KeyChanged, UploadAdded, PartPut, UploadDropped, UploadCompleted, set_in, change_in, upload_change_in, with_versions, bucket_after, with_bucket, changed}
use Rattle.s3_records.specs.Deletions.{deleted, all_deleted}
use Rattle.s3_records.specs.DeletionLaws.{DeletionsStayInOrder}
use Rattle.s3_records.specs.Laws.{ChangesAreLocal, VersionsStayInOrder, OpeningIsEmpty}
use Rattle.s3_catalogue_laws.specs.Orderly.{ChangesKeepOrder, DeletionsKeepOrder, OpeningIsOrderly}

-- the bucket that a change leaves
bucket_here : {B : Type 0} (c : Catalogue B) (name : List ℕ) (after : Option (Bucket B)) → get (with_bucket c name after) name ≡ after
bucket_here c name None =
    get-remove nat_list_cmp_total c name name ∙ ap (λ b. cond b None (get c name)) ((eq_by_cmp_equiv nat_list_cmp_total).refl name)
bucket_here c name (Some b) =
    get-insert nat_list_cmp_total c name b name ∙ ap (λ same. cond same (Some b) (get c name)) ((eq_by_cmp_equiv nat_list_cmp_total).refl name)

pub changed_here : {B : Type 0} (c : Catalogue B) (name : List ℕ) (change : Change B) → get (changed c name change) name ≡ bucket_after change (get c name)
changed_here c name change = bucket_here c name (bucket_after change (get c name))

-- ---- no key is there without versions

either_filled : {X : Type 0} (b : Bool) (now found : Option (List X)) → now ≢ Some [] → found ≢ Some [] → cond b now found ≢ Some []
either_filled true now found here elsewhere = here
either_filled false now found here elsewhere = elsewhere

some_left : {X : Type 0} (x : X) (xs : List X) → Some (x ∷ xs) ≢ Some []
some_left x xs is = cc

versions_filled : {B : Type 0} (keys : Keys B) (key : List ℕ) (vs : List (Version B)) → HaveVersions keys → HaveVersions (with_versions keys key vs)
versions_filled keys key [] filled q is =
    either_filled (eq_by_cmp byte_order q key) None (get keys q) (none-some []) (filled q) (sym (get-remove nat_list_cmp_total keys key q) ∙ is)
versions_filled keys key (v ∷ vs) filled q is =
    either_filled (eq_by_cmp byte_order q key) (Some (v ∷ vs)) (get keys q) (some_left v vs) (filled q) (sym (get-insert nat_list_cmp_total keys key (v ∷ vs) q) ∙ is)

none_filled : (B : Type 0) → HaveVersions {B = B} empty
none_filled B key some = none-some [] (sym (get-empty byte_order key) ∙ some)

-- in a bucket that is there or not
abbrev Filled : {B : Type 0} → Option (Bucket B) → Type 0
Filled {B} found = (b : Bucket B) → found ≡ Some b → HaveVersions b.keys

some_filled : {B : Type 0} (a : Bucket B) → HaveVersions a.keys → Filled (Some a)
some_filled a filled b is = subst (λ b. HaveVersions b.keys) (same_Some a b is) filled

after_filled : {B : Type 0} (f : Bucket B → Bucket B) (found : Option (Bucket B)) → ((a : Bucket B) → HaveVersions a.keys → HaveVersions (f a).keys) → Filled found → Filled (option_map f found)
after_filled f None kept filled b is = absurd (none-some b is)
after_filled f (Some a) kept filled b is = some_filled (f a) (kept a (filled a refl)) b is

key_filled : {B : Type 0} (key : List ℕ) (what : KeyChange B) (found : Option (Bucket B)) → Filled found → Filled (option_map (change_in key what) found)
key_filled key what found filled =
    after_filled (change_in key what) found (λ a kept. versions_filled a.keys key (after_change a.versioning what (versions_at a.keys key)) kept) filled

upload_filled : {B : Type 0} (key : List ℕ) (id : ℕ) (next : Option (Upload B) → Option (Upload B)) (found : Option (Bucket B)) → Filled found → Filled (option_map (upload_change_in key id next) found)
upload_filled key id next found filled = after_filled (upload_change_in key id next) found (λ a kept. kept) filled

bucket_filled : {B : Type 0} (change : Change B) (found : Option (Bucket B)) → Filled found → Filled (bucket_after change found)
bucket_filled {B} (BucketAdded t) found filled b is = some_filled (new_bucket t) (none_filled B) b is
bucket_filled BucketDropped found filled b is = absurd (none-some b is)
bucket_filled (VersioningSet status) found filled b is = after_filled (set_in status) found (λ a kept. kept) filled b is
bucket_filled (KeyChanged key what) found filled b is = key_filled key what found filled b is
bucket_filled (UploadAdded key id u) found filled b is = upload_filled key id (λ old. Some u) found filled b is
bucket_filled (PartPut key id n part) found filled b is = upload_filled key id (option_map (with_part n part)) found filled b is
bucket_filled (UploadDropped key id) found filled b is = upload_filled key id (λ old. None) found filled b is
bucket_filled (UploadCompleted key id what) found filled b is =
    upload_filled key id (λ old. None) (option_map (change_in key what) found) (key_filled key what found filled) b is

-- in all buckets
abbrev AllFilled : {B : Type 0} → Catalogue B → Type 0
AllFilled c = (name : List ℕ) → Filled (get c name)

changed_filled : {B : Type 0} → ChangesAreLocal B → (c : Catalogue B) (name : List ℕ) (change : Change B) → AllFilled c → AllFilled (changed c name change)
changed_filled local c name change filled bucket b is =
    elim (same_or bucket name) [
      | inl same ↦ bucket_filled change (get c name) (filled name) b (sym (changed_here c name change) ∙ ap (get (changed c name change)) (sym same) ∙ is)
      | inr other ↦ filled bucket b (sym (local c name change bucket other) ∙ is)
    ]

pub changes_keep_order : {B : Type 0} → VersionsStayInOrder B → ChangesAreLocal B → ChangesKeepOrder B
changes_keep_order stay local c name change orderly new = record {
  versions = stay c name change orderly.versions new;
  filled = changed_filled local c name change orderly.filled;
}

deleted_filled : {B : Type 0} → ChangesAreLocal B → (c : Catalogue B) (name : List ℕ) (n t : ℕ) (object : NamedObject) → AllFilled c → AllFilled (deleted c name n t object)
deleted_filled local c name n t (Object d) filled =
    elim (acts n d.version (versions_of c name d.key)) as (λ b. AllFilled (cond b (changed c name (KeyChanged d.key (change_named n t d.version))) c)) [
      | true ↦ changed_filled local c name (KeyChanged d.key (change_named n t d.version)) filled
      | false ↦ filled
    ]
deleted_filled local c name n t (Fault fault) filled = filled

all_deleted_filled : {B : Type 0} → ChangesAreLocal B → (objects : List NamedObject) (c : Catalogue B) (name : List ℕ) (n t : ℕ) → AllFilled c → AllFilled (all_deleted c name n t objects)
all_deleted_filled local [] c name n t filled = filled
all_deleted_filled local (object ∷ objects) c name n t filled =
    all_deleted_filled local objects (deleted c name n t object) name n t (deleted_filled local c name n t object filled)

pub deletions_keep_order : {B : Type 0} → DeletionsStayInOrder B → ChangesAreLocal B → DeletionsKeepOrder B
deletions_keep_order stay local c name n t objects orderly below = record {
  versions = stay c name n t objects orderly.versions below;
  filled = all_deleted_filled local objects c name n t orderly.filled;
}

-- a catalogue opens so
none_valid : (B : Type 0) → are_versions {B = B} [] ≡ true
unfolding are_versions
none_valid B = refl

opening_filled : {B : Type 0} (names : List (List ℕ)) → AllFilled {B = B} (opening names)
opening_filled [] name b is = absurd (none-some b (sym (get-empty byte_order name) ∙ is))
opening_filled {B} (first ∷ names) name b is =
    elim (eq_by_cmp byte_order name first) as (λ same. cond same (Some (new_bucket 0)) (get (opening names) name) ≡ Some b → HaveVersions b.keys) [
      | true ↦ some_filled (new_bucket 0) (none_filled B) b
      | false ↦ opening_filled names name b
    ] (sym (get-insert nat_list_cmp_total (opening names) first (new_bucket 0) name) ∙ is)

pub opening_is_orderly : {B : Type 0} → OpeningIsEmpty B → OpeningIsOrderly B
opening_is_orderly {B} opens names = record {
  versions = λ name key. ap are_versions ((opens names name).empty key) ∙ none_valid B;
  filled = opening_filled names;
}
