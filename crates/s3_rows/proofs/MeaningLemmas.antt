-- What is found in the catalogue that tables are.
use Rattle.std.proofs.Common.{◌≡◌, ◌≢◌, refl, sym, ap, ◌∙◌, Bool, true, false, not, cond, ◌||◌, ◌==◌, ℕ, List, [], ◌∷◌, map, filter, find, Option, Some, None, option_map, Ordering, unsigned_abs, is_gt, is_eq}
use Rattle.std.proofs.lemmas.Bool.{eqb-true}
use Rattle.std.specs.Cmp.{IsTotalOrder, nat_cmp_total, tied_itself, eq_by_cmp_equiv}
use Rattle.std.specs.Cmp.Lexicographic.{nat_list_cmp_total}
use Rattle.std.specs.FinMap.{IsAntisymmetric, get, insert, remove, len, empty_of_len, slice_cmp-IsAntisymmetric, nat_cmp-IsAntisymmetric}
use Rattle.std.specs.List.{list_any}
use Rattle.std.specs.Ordering.{nat_cmp}
use Rattle.sqlite_keyed.specs.Lists.{sort_by, insert_sorted}
use Rattle.s3_text.specs.Order.{byte_order}
use Rattle.s3_versions.specs.declared.version.Version.{Version}
use Rattle.s3_records.specs.Catalogue.{Keys, KeyUploads, Uploads, Bucket, Catalogue, versions_at, found_versions}
use Rattle.s3_records.specs.Changes.{with_versions, with_uploads, with_id, with_bucket}
use Rattle.s3_records.specs.Merging.{held}
use Rattle.s3_records.specs.OpenUploads.{found_uploads, uploads_under}
use Rattle.s3_uploads.specs.declared.upload.Upload.{Upload}
use Rattle.s3_rows.specs.Columns.{BucketColumns, VersionColumns, UploadColumns, PartColumns, Tables}
use Rattle.s3_rows.specs.Encoding.{Encoding}
use Rattle.s3_rows.specs.Finding.{same_text, is_named, is_in, is_under_key, is_at, newest_first, is_upload_in, is_upload_key, is_upload_to}
use Rattle.s3_rows.specs.Meaning.{collected, version_of, versions_under, keys_in, upload_of, uploads_to, uploads_in, bucket_of, catalogue_of}
use Rattle.s3_rows.proofs.CollectedLemmas.{write, tied_same, not_tied, is_written, get-collected, get-grouped, len_some, len_none, found_same}
use Rattle.s3_rows.proofs.EditLemmas.{filter_both, found_as}

-- texts that compare alike are one
pub texts_differ : IsAntisymmetric byte_order
texts_differ = slice_cmp-IsAntisymmetric nat_cmp-IsAntisymmetric

pub same_text-true : (a b : List ℕ) → same_text a b ≡ true → a ≡ b
same_text-true = tied_same nat_list_cmp_total texts_differ

pub same_text-false : (a b : List ℕ) → a ≢ b → same_text a b ≡ false
same_text-false = not_tied nat_list_cmp_total texts_differ

pub same_text-itself : (a : List ℕ) → same_text a a ≡ true
same_text-itself a = ap is_eq (tied_itself nat_list_cmp_total a)

pub same_text-symm : (a b : List ℕ) → same_text a b ≡ same_text b a
same_text-symm a b = (eq_by_cmp_equiv nat_list_cmp_total).symm a b

-- the catalogue's words for a map that is written
pub write_bucket : {B : Type 0} (c : Catalogue B) (name : List ℕ) (now : Option (Bucket B)) → write c name now ≡ with_bucket c name now
write_bucket c name None = refl
write_bucket c name (Some b) = refl

pub write_versions : {B : Type 0} (keys : Keys B) (key : List ℕ) (vs : List (Version B)) → write keys key (held vs) ≡ with_versions keys key vs
write_versions keys key [] = refl
write_versions keys key (v ∷ vs) = refl

pub write_id : {B : Type 0} (under : KeyUploads B) (id : ℕ) (now : Option (Upload B)) → write under id now ≡ with_id under id now
write_id under id None = refl
write_id under id (Some u) = refl

pub found_held : {B : Type 0} (vs : List (Version B)) → found_versions (held vs) ≡ vs
found_held [] = refl
found_held (v ∷ vs) = refl

-- uploads as a map holds them: a key without uploads is not there
abbrev pub filled : {B : Type 0} → KeyUploads B → Option (KeyUploads B)
filled under = cond (len under == 0) None (Some under)

pub write_uploads : {B : Type 0} (uploads : Uploads B) (key : List ℕ) (under : KeyUploads B) → write uploads key (filled under) ≡ with_uploads uploads key under
write_uploads uploads key under = elim (len under == 0) as (λ b. write uploads key (cond b None (Some under)) ≡ cond b (remove uploads key) (insert uploads key under)) [ true ↦ refl | false ↦ refl ]

pub found_filled : {B : Type 0} (under : KeyUploads B) → found_uploads (filled under) ≡ under
found_filled under =
    elim (len under == 0) as (λ b. (len under == 0) ≡ b → found_uploads (cond b None (Some under)) ≡ under) [
      | true ↦ λ is. sym (empty_of_len under (eqb-true (len under) 0 is))
      | false ↦ λ is. refl
    ] refl

-- a list has something in it
abbrev pub is_cons : {X : Type 0} → List X → Bool
is_cons [] = false
is_cons (x ∷ xs) = true

held_is : {B : Type 0} (vs : List (Version B)) → held vs ≡ cond (is_cons vs) (Some vs) None
held_is [] = refl
held_is (v ∷ vs) = refl

is_cons-map : {X Y : Type 0} (f : X → Y) (xs : List X) → is_cons (map f xs) ≡ is_cons xs
is_cons-map f [] = refl
is_cons-map f (x ∷ xs) = refl

is_cons-insert_sorted : {X : Type 0} (cmp : X → X → Ordering) (x : X) (xs : List X) → is_cons (insert_sorted cmp x xs) ≡ true
is_cons-insert_sorted cmp x [] = refl
is_cons-insert_sorted cmp x (y ∷ ys) = elim (is_gt (cmp x y)) as (λ b. is_cons (cond b (y ∷ insert_sorted cmp x ys) (x ∷ y ∷ ys)) ≡ true) [ true ↦ refl | false ↦ refl ]

pub is_cons-sort_by : {X : Type 0} (cmp : X → X → Ordering) (xs : List X) → is_cons (sort_by cmp xs) ≡ is_cons xs
is_cons-sort_by cmp [] = refl
is_cons-sort_by cmp (x ∷ xs) = is_cons-insert_sorted cmp x (sort_by cmp xs)

pub is_cons-filter : {X : Type 0} (p : X → Bool) (xs : List X) → is_cons (filter p xs) ≡ list_any p xs
is_cons-filter p [] = refl
is_cons-filter p (x ∷ xs) = elim (p x) as (λ b. is_cons (cond b (x ∷ filter p xs) (filter p xs)) ≡ (b || list_any p xs)) [ true ↦ refl | false ↦ is_cons-filter p xs ]

-- a map that is collected from no rows has no length
pub len-collected : {X K V : Type 0} {R : K → K → Ordering} (total : IsTotalOrder R) (same : IsAntisymmetric R) (key : X → K) (value : X → V) (xs : List X) → (len (collected R key value xs) == 0) ≡ not (is_cons xs)
len-collected {R = R} total same key value [] = len_none (collected R key value []) refl
len-collected {X} {K} {V} {R} total same key value (x ∷ xs) =
    len_some (collected R key value (x ∷ xs)) (key x) (value x)
    (get-collected total same key value (x ∷ xs) (key x)
    ∙ ap (λ o. option_map value (cond (is_eq o) (Some x) (find (λ y. is_eq (R (key y) (key x))) xs))) (tied_itself total (key x)))

module _ (e : Encoding) where
  -- a bucket
  pub get-catalogue : (t : Tables) (name : List ℕ) → get (catalogue_of e t) name ≡ option_map (bucket_of e t) (find (is_named name) t.buckets)
  unfolding catalogue_of
  get-catalogue t name = get-collected nat_list_cmp_total texts_differ (λ b. b.name) (bucket_of e t) t.buckets name

  -- the versions under a key
  any-versions : (vs : List VersionColumns) (bucket key : List ℕ) → list_any (is_under_key key) (filter (is_in bucket) vs) ≡ is_cons (versions_under e vs bucket key)
  unfolding versions_under
  any-versions vs bucket key =
      sym (is_cons-filter (is_under_key key) (filter (is_in bucket) vs)) ∙ ap is_cons (sym (filter_both (is_in bucket) (is_under_key key) vs))
      ∙ sym (is_cons-sort_by newest_first (filter (is_at bucket key) vs)) ∙ sym (is_cons-map (version_of e) (sort_by newest_first (filter (is_at bucket key) vs)))

  pub get-keys : (vs : List VersionColumns) (bucket key : List ℕ) → get (keys_in e vs bucket) key ≡ held (versions_under e vs bucket key)
  unfolding keys_in
  get-keys vs bucket key =
      get-grouped nat_list_cmp_total texts_differ (λ v. v.key) (λ k. versions_under e vs bucket k) (filter (is_in bucket) vs) key
      ∙ ap (λ b. cond b (Some (versions_under e vs bucket key)) None) (any-versions vs bucket key)
      ∙ sym (held_is (versions_under e vs bucket key))

  pub versions_at-keys : (vs : List VersionColumns) (bucket key : List ℕ) → versions_at (keys_in e vs bucket) key ≡ versions_under e vs bucket key
  versions_at-keys vs bucket key = ap found_versions (get-keys vs bucket key) ∙ found_held (versions_under e vs bucket key)

  -- the uploads to a key
  any-uploads : (us : List UploadColumns) (ps : List PartColumns) (bucket key : List ℕ) → list_any (is_upload_key key) (filter (is_upload_in bucket) us) ≡ not (len (uploads_to e us ps bucket key) == 0)
  unfolding uploads_to
  any-uploads us ps bucket key =
      sym (is_cons-filter (is_upload_key key) (filter (is_upload_in bucket) us)) ∙ ap is_cons (sym (filter_both (is_upload_in bucket) (is_upload_key key) us))
      ∙ twice (is_cons (filter (is_upload_to bucket key) us))
      ∙ ap not (sym (len-collected nat_cmp_total nat_cmp-IsAntisymmetric (λ u. unsigned_abs u.id) (upload_of e ps) (filter (is_upload_to bucket key) us)))
    where
      twice : (b : Bool) → b ≡ not (not b)
      twice true = refl
      twice false = refl

  pub get-uploads : (us : List UploadColumns) (ps : List PartColumns) (bucket key : List ℕ) → get (uploads_in e us ps bucket) key ≡ filled (uploads_to e us ps bucket key)
  unfolding uploads_in
  get-uploads us ps bucket key =
      get-grouped nat_list_cmp_total texts_differ (λ u. u.key) (λ k. uploads_to e us ps bucket k) (filter (is_upload_in bucket) us) key
      ∙ ap (λ b. cond b (Some (uploads_to e us ps bucket key)) None) (any-uploads us ps bucket key)
      ∙ turned (len (uploads_to e us ps bucket key) == 0)
    where
      turned : (b : Bool) → cond (not b) (Some (uploads_to e us ps bucket key)) None ≡ cond b None (Some (uploads_to e us ps bucket key))
      turned true = refl
      turned false = refl

  pub uploads_under-uploads : (us : List UploadColumns) (ps : List PartColumns) (bucket key : List ℕ) → uploads_under (uploads_in e us ps bucket) key ≡ uploads_to e us ps bucket key
  uploads_under-uploads us ps bucket key = ap found_uploads (get-uploads us ps bucket key) ∙ found_filled (uploads_to e us ps bucket key)

  -- the upload of an id
  pub get-uploads_to : (us : List UploadColumns) (ps : List PartColumns) (bucket key : List ℕ) (id : ℕ)
      → get (uploads_to e us ps bucket key) id ≡ option_map (upload_of e ps) (find (λ u. is_eq (nat_cmp (unsigned_abs u.id) id)) (filter (is_upload_to bucket key) us))
  unfolding uploads_to
  get-uploads_to us ps bucket key id = get-collected nat_cmp_total nat_cmp-IsAntisymmetric (λ u. unsigned_abs u.id) (upload_of e ps) (filter (is_upload_to bucket key) us) id

  -- a catalogue of which one bucket changed
  pub bucket_rewritten : (t u : Tables) (name : List ℕ) (h : Bucket (List ℕ) → Bucket (List ℕ)) → u.buckets ≡ t.buckets
      → ((b : BucketColumns) → find (is_named name) t.buckets ≡ Some b → bucket_of e u b ≡ h (bucket_of e t b))
      → ((b : BucketColumns) → b.name ≢ name → bucket_of e u b ≡ bucket_of e t b)
      → catalogue_of e u ≡ with_bucket (catalogue_of e t) name (option_map h (get (catalogue_of e t) name))
  bucket_rewritten t u name h same here there =
      is_written nat_list_cmp_total texts_differ (catalogue_of e t) (catalogue_of e u) name (option_map h (get (catalogue_of e t) name))
      (get-catalogue u name ∙ ap (λ bs. option_map (bucket_of e u) (find (is_named name) bs)) same
      ∙ found_as (bucket_of e u) (λ b. h (bucket_of e t b)) (is_named name) t.buckets here
      ∙ twice (find (is_named name) t.buckets) ∙ ap (option_map h) (sym (get-catalogue t name)))
      (λ q other. get-catalogue u q ∙ ap (λ bs. option_map (bucket_of e u) (find (is_named q) bs)) same
      ∙ found_same (bucket_of e u) (bucket_of e t) (is_named q) (λ b is. there b (λ named. other (sym (same_text-true b.name q is) ∙ named))) t.buckets
      ∙ sym (get-catalogue t q))
      ∙ write_bucket (catalogue_of e t) name (option_map h (get (catalogue_of e t) name))
    where
      twice : (o : Option BucketColumns) → option_map (λ b. h (bucket_of e t b)) o ≡ option_map h (option_map (bucket_of e t) o)
      twice None = refl
      twice (Some b) = refl

  -- nothing is in a bucket where no row is
  pub len-keys : (vs : List VersionColumns) (bucket : List ℕ) → (len (keys_in e vs bucket) == 0) ≡ not (list_any (is_in bucket) vs)
  unfolding keys_in
  len-keys vs bucket = len-collected nat_list_cmp_total texts_differ (λ v. v.key) (λ v. versions_under e vs bucket v.key) (filter (is_in bucket) vs) ∙ ap not (is_cons-filter (is_in bucket) vs)

  pub len-uploads : (us : List UploadColumns) (ps : List PartColumns) (bucket : List ℕ) → (len (uploads_in e us ps bucket) == 0) ≡ not (list_any (is_upload_in bucket) us)
  unfolding uploads_in
  len-uploads us ps bucket = len-collected nat_list_cmp_total texts_differ (λ u. u.key) (λ u. uploads_to e us ps bucket u.key) (filter (is_upload_in bucket) us) ∙ ap not (is_cons-filter (is_upload_in bucket) us)
