-- The laws of rows of buckets.
use Rattle.std.proofs.Common.{◌≡◌, ◌≢◌, refl, sym, ap, ap₂, ◌∙◌, Bool, true, false, not, ◌&&◌, ℕ, List, [], ◌∷◌, filter, find, Option, Some, None, is_some, option_map, int_eq, unsigned_abs, All}
use Rattle.std.proofs.lemmas.Bool.{false≢true, false_from_ne_true, and_parts}
use Rattle.std.proofs.lemmas.Option.{same_Some, none-some}
use Rattle.std.proofs.lemmas.List.Elements.{recursion_from_All, All-from_recursion, All-weaker}
use Rattle.std.specs.Cmp.Lexicographic.{nat_list_cmp_total}
use Rattle.std.specs.FinMap.{get, empty}
use Rattle.std.specs.List.{list_any}
use Rattle.sqlite_keyed.specs.Keyed.{insert_by, has_key}
use Rattle.sqlite_keyed.specs.Lists.{delete_where}
use Rattle.sqlite_keyed.proofs.KeyedLemmas.{IsKeyedBy-insert_by, IsKeyedBy-delete_where}
use Rattle.sqlite_keyed.proofs.ListLemmas.{all_weaker, any_from_none, none_from_any, all_both}
use Rattle.sqlite_keyed.proofs.RuleLemmas.{pass_insert, pass_delete, apart_insert, apart_delete}
use Rattle.sqlite_keyed.proofs.SliceLemmas.{any_is_found, none_narrower}
use Rattle.s3_records.specs.Catalogue.{new_bucket, is_empty_bucket, is_empty_in}
use Rattle.s3_records.specs.Changes.{set_in}
use Rattle.s3_rows.specs.Columns.{BucketColumns, VersionColumns, UploadColumns, Tables, PartColumns}
use Rattle.s3_rows.specs.Encoding.{Encoding}
use Rattle.s3_rows.specs.Finding.{same_text, is_named, is_in, is_upload_in}
use Rattle.s3_rows.specs.Meaning.{keys_in, uploads_in, bucket_of, catalogue_of, versions_under, uploads_to, collected}
use Rattle.s3_rows.specs.Soundness.{bucket_row, same_name, is_bucket_row, has_bucket_row, AreBuckets}
use Rattle.s3_rows.specs.TableChanges.{bucket_added, bucket_dropped, bucket_replaced}
use Rattle.s3_rows.specs.BucketLaws.{RowsOpen, RowsAddBuckets, RowsDropBuckets, RowsSetVersioning, RowsTellBuckets, RowsTellEmptiness}
use Rattle.s3_rows.proofs.CollectedLemmas.{is_written}
use Rattle.s3_rows.proofs.EditLemmas.{find_passes, find_elsewhere, find_gone, find_put, find_put_elsewhere, any_put, none_gone}
use Rattle.s3_rows.proofs.MeaningLemmas.{texts_differ, same_text-true, same_text-false, same_text-itself, same_text-symm, get-catalogue, write_bucket, is_cons, is_cons-filter, len-keys, len-uploads}
use Rattle.s3_rows.proofs.VersionLawLemmas.{has_bucket-row}
use Rattle.s3_text.specs.Order.{byte_order}

-- rows of two names
not_named : (q name : List ℕ) (b : BucketColumns) → q ≢ name → is_named q b ≡ true → is_named name b ≡ false
not_named q name b other is = same_text-false b.name name (λ same. other (sym (same_text-true b.name q is) ∙ same))

-- a test that no row passes keeps none
pub none_kept : {X : Type 0} (p : X → Bool) (xs : List X) → list_any p xs ≡ false → filter p xs ≡ []
none_kept p xs none = nothing (filter p xs) (is_cons-filter p xs ∙ none)
  where
    nothing : {Y : Type 0} (ys : List Y) → is_cons ys ≡ false → ys ≡ []
    nothing [] is = refl
    nothing (y ∷ ys) is = cc

-- no version and no upload stands in a bucket that is not there
pub no_rows_in : {X : Type 0} (bucket : X → List ℕ) (bs : List BucketColumns) (xs : List X) (name : List ℕ) → All (λ x. has_bucket_row bs (bucket x) ≡ true) xs → has_bucket_row bs name ≡ false
    → list_any (λ x. same_text (bucket x) name) xs ≡ false
no_rows_in {X} bucket bs xs name all none =
    any_from_none (λ x. same_text (bucket x) name) xs (all_weaker _ (λ x. same_text (bucket x) name ≡ false)
    (λ x has. same_text-false (bucket x) name (λ same. false≢true (sym none ∙ ap (has_bucket_row bs) (sym same) ∙ has))) xs (recursion_from_All _ xs all))

keys_none : (e : Encoding) (vs : List VersionColumns) (name : List ℕ) → list_any (is_in name) vs ≡ false → keys_in e vs name ≡ empty
unfolding keys_in
keys_none e vs name none = ap (collected byte_order (λ v. v.key) (λ v. versions_under e vs name v.key)) (none_kept (is_in name) vs none)

uploads_none : (e : Encoding) (us : List UploadColumns) (ps : List PartColumns) (name : List ℕ) → list_any (is_upload_in name) us ≡ false → uploads_in e us ps name ≡ empty
unfolding uploads_in
uploads_none e us ps name none = ap (collected byte_order (λ u. u.key) (λ u. uploads_to e us ps name u.key)) (none_kept (is_upload_in name) us none)

same_name-symm : (a b : BucketColumns) → same_name a b ≡ same_name b a
same_name-symm a b = same_text-symm a.name b.name

-- a row that is put in where no row that stays has its name leaves the table sound
put_name : (bs : List BucketColumns) (row : BucketColumns) → AreBuckets bs → is_bucket_row row ≡ true → has_bucket_row bs row.name ≡ false → AreBuckets (insert_by bucket_row bs row)
put_name bs row s fits none = record {
  rise = IsKeyedBy-insert_by bucket_row bs row s.rise;
  names = apart_insert same_name bucket_row same_name-symm bs row s.rise (ap not (none_narrower (λ b. not (int_eq b.row row.row)) (λ b. same_name b row) bs none)) s.names;
  fit = pass_insert bucket_row is_bucket_row bs row fits s.fit;
}

drop_name : (bs : List BucketColumns) (name : List ℕ) → AreBuckets bs → AreBuckets (delete_where (is_named name) bs)
drop_name bs name s = record {
  rise = IsKeyedBy-delete_where bucket_row (is_named name) bs s.rise;
  names = apart_delete same_name (is_named name) bs s.names;
  fit = pass_delete is_bucket_row (is_named name) bs s.fit;
}

-- buckets that are there stay
still_there : (bs : List BucketColumns) (row : BucketColumns) (k : List ℕ) → has_key bucket_row bs row.row ≡ false → has_bucket_row bs k ≡ true → has_bucket_row (insert_by bucket_row bs row) k ≡ true
still_there bs row k free there = go (is_named k row) refl
  where
    go : (b : Bool) → is_named k row ≡ b → has_bucket_row (insert_by bucket_row bs row) k ≡ true
    go true is = any_put bucket_row (is_named k) bs row is
    go false is = any_is_found (is_named k) (insert_by bucket_row bs row) ∙ ap is_some (find_put_elsewhere bucket_row (is_named k) bs row free is) ∙ sym (any_is_found (is_named k) bs) ∙ there

still_left : (bs : List BucketColumns) (name k : List ℕ) → k ≢ name → has_bucket_row (delete_where (is_named name) bs) k ≡ has_bucket_row bs k
still_left bs name k other =
    any_is_found (is_named k) (delete_where (is_named name) bs) ∙ ap is_some (find_elsewhere (is_named k) (is_named name) (λ b is. not_named k name b other is) bs) ∙ sym (any_is_found (is_named k) bs)

module _ (e : Encoding) (t : Tables) where
  -- a bucket is empty where no row stands in it
  empty_rows : (name : List ℕ) → has_bucket_row t.buckets name ≡ true → is_empty_bucket (catalogue_of e t) name ≡ (not (list_any (is_in name) t.versions) && not (list_any (is_upload_in name) t.uploads))
  empty_rows name there = ap is_empty_in (get-catalogue e t name) ∙ go (find (is_named name) t.buckets) refl
    where
      go : (o : Option BucketColumns) → find (is_named name) t.buckets ≡ o → is_empty_in (option_map (bucket_of e t) o) ≡ (not (list_any (is_in name) t.versions) && not (list_any (is_upload_in name) t.uploads))
      go None none = absurd (false≢true (sym (ap is_some none) ∙ sym (any_is_found (is_named name) t.buckets) ∙ there))
      go (Some b) found =
          ap₂ ◌&&◌ (len-keys e t.versions b.name) (len-uploads e t.uploads t.parts b.name)
          ∙ ap (λ n. not (list_any (is_in n) t.versions) && not (list_any (is_upload_in n) t.uploads)) (same_text-true b.name name (find_passes (is_named name) t.buckets b found))

pub rows_tell_buckets : RowsTellBuckets
rows_tell_buckets = has_bucket-row

pub rows_tell_emptiness : RowsTellEmptiness
rows_tell_emptiness e t name s = go (has_bucket_row t.buckets name) refl
  where
    go : (b : Bool) → has_bucket_row t.buckets name ≡ b → is_empty_bucket (catalogue_of e t) name ≡ (not (list_any (is_in name) t.versions) && not (list_any (is_upload_in name) t.uploads))
    go true there = empty_rows e t name there
    go false none =
        ap is_empty_in (get-catalogue e t name ∙ ap (option_map (bucket_of e t)) (absent (find (is_named name) t.buckets) (sym (any_is_found (is_named name) t.buckets) ∙ none)))
        ∙ sym (ap₂ (λ a b. not a && not b) (no_rows_in (λ v. v.bucket) t.buckets t.versions name s.version_buckets none) (no_rows_in (λ u. u.bucket) t.buckets t.uploads name s.upload_buckets none))
      where
        absent : (o : Option BucketColumns) → is_some o ≡ false → o ≡ None
        absent None is = refl
        absent (Some b) is = cc

pub rows_add_buckets : RowsAddBuckets
rows_add_buckets e t row s fits free none unversioned = record {
  sound = record {
    buckets = put_name t.buckets row s.buckets fits absent;
    versions = s.versions;
    uploads = s.uploads;
    parts = s.parts;
    version_buckets = All-weaker _ _ (λ v. still_there t.buckets row v.bucket free) t.versions s.version_buckets;
    upload_buckets = All-weaker _ _ (λ u. still_there t.buckets row u.bucket free) t.uploads s.upload_buckets;
    part_uploads = s.part_uploads;
  };
  means =
      is_written nat_list_cmp_total texts_differ (catalogue_of e t) (catalogue_of e (bucket_added row t)) row.name (Some (new_bucket (unsigned_abs row.made)))
      (get-catalogue e (bucket_added row t) row.name ∙ ap (option_map (bucket_of e t)) (find_put bucket_row (is_named row.name) t.buckets row (same_text-itself row.name) not_found) ∙ ap Some new)
      (λ q other. get-catalogue e (bucket_added row t) q
      ∙ ap (option_map (bucket_of e t)) (find_put_elsewhere bucket_row (is_named q) t.buckets row free (same_text-false row.name q (λ same. other (sym same))))
      ∙ sym (get-catalogue e t q));
}
  where
    absent : has_bucket_row t.buckets row.name ≡ false
    absent = sym (has_bucket-row e t row.name) ∙ none

    no_some : {X : Type 0} (o : Option X) → is_some o ≡ false → o ≡ None
    no_some None is = refl
    no_some (Some b) is = cc

    not_found : find (is_named row.name) t.buckets ≡ None
    not_found = no_some (find (is_named row.name) t.buckets) (sym (any_is_found (is_named row.name) t.buckets) ∙ absent)

    no_keys : keys_in e t.versions row.name ≡ empty
    no_keys = keys_none e t.versions row.name (no_rows_in (λ v. v.bucket) t.buckets t.versions row.name s.version_buckets absent)

    no_uploads : uploads_in e t.uploads t.parts row.name ≡ empty
    no_uploads = uploads_none e t.uploads t.parts row.name (no_rows_in (λ u. u.bucket) t.buckets t.uploads row.name s.upload_buckets absent)

    new : bucket_of e t row ≡ new_bucket (unsigned_abs row.made)
    new = λ i. record { made = unsigned_abs row.made; versioning = unversioned i; keys = no_keys i; uploads = no_uploads i }

pub rows_drop_buckets : RowsDropBuckets
rows_drop_buckets e t name s there empty_there = record {
  sound = record {
    buckets = drop_name t.buckets name s.buckets;
    versions = s.versions;
    uploads = s.uploads;
    parts = s.parts;
    version_buckets = stay (λ v. v.bucket) t.versions (false_from_ne_true (list_any (is_in name) t.versions) (λ some. false≢true (sym (ap not some) ∙ nothing.0))) s.version_buckets;
    upload_buckets = stay (λ u. u.bucket) t.uploads (false_from_ne_true (list_any (is_upload_in name) t.uploads) (λ some. false≢true (sym (ap not some) ∙ nothing.1))) s.upload_buckets;
    part_uploads = s.part_uploads;
  };
  means =
      is_written nat_list_cmp_total texts_differ (catalogue_of e t) (catalogue_of e (bucket_dropped name t)) name None
      (get-catalogue e (bucket_dropped name t) name ∙ ap (option_map (bucket_of e t)) (find_gone (is_named name) (is_named name) (λ b is. is) t.buckets))
      (λ q other. get-catalogue e (bucket_dropped name t) q
      ∙ ap (option_map (bucket_of e t)) (find_elsewhere (is_named q) (is_named name) (λ b is. not_named q name b other is) t.buckets)
      ∙ sym (get-catalogue e t q));
}
  where
    nothing : (not (list_any (is_in name) t.versions) ≡ true) × (not (list_any (is_upload_in name) t.uploads) ≡ true)
    nothing = and_parts (not (list_any (is_in name) t.versions)) _ (sym (rows_tell_emptiness e t name s) ∙ empty_there)

    stay : {X : Type 0} (bucket : X → List ℕ) (xs : List X) → list_any (λ x. same_text (bucket x) name) xs ≡ false → All (λ x. has_bucket_row t.buckets (bucket x) ≡ true) xs
        → All (λ x. has_bucket_row (delete_where (is_named name) t.buckets) (bucket x) ≡ true) xs
    stay bucket xs none all =
        All-from_recursion _ xs (all_both _ _ (λ x. has_bucket_row (delete_where (is_named name) t.buckets) (bucket x) ≡ true)
        (λ x apart has. still_left t.buckets name (bucket x) (λ same. false≢true (sym apart ∙ ap (λ b. same_text b name) same ∙ same_text-itself name)) ∙ has)
        xs (none_from_any _ xs none) (recursion_from_All _ xs all))

pub rows_set_versioning : RowsSetVersioning
rows_set_versioning e t row status s fits free made_is set_is = record {
  sound = record {
    buckets = put_name (delete_where (is_named row.name) t.buckets) row (drop_name t.buckets row.name s.buckets) fits (none_gone (is_named row.name) t.buckets);
    versions = s.versions;
    uploads = s.uploads;
    parts = s.parts;
    version_buckets = All-weaker _ _ (λ v. stays v.bucket) t.versions s.version_buckets;
    upload_buckets = All-weaker _ _ (λ u. stays u.bucket) t.uploads s.upload_buckets;
    part_uploads = s.part_uploads;
  };
  means =
      is_written nat_list_cmp_total texts_differ (catalogue_of e t) (catalogue_of e (bucket_replaced row t)) row.name (option_map (set_in status) (get (catalogue_of e t) row.name))
      (get-catalogue e (bucket_replaced row t) row.name
      ∙ ap (option_map (bucket_of e t)) (find_put bucket_row (is_named row.name) (delete_where (is_named row.name) t.buckets) row (same_text-itself row.name) (find_gone (is_named row.name) (is_named row.name) (λ b is. is) t.buckets))
      ∙ set (find (is_named row.name) t.buckets) refl (sym (ap (option_map (λ b. b.made)) (get-catalogue e t row.name)) ∙ made_is) ∙ ap (option_map (set_in status)) (sym (get-catalogue e t row.name)))
      (λ q other. get-catalogue e (bucket_replaced row t) q
      ∙ ap (option_map (bucket_of e t)) (find_put_elsewhere bucket_row (is_named q) (delete_where (is_named row.name) t.buckets) row free (same_text-false row.name q (λ same. other (sym same)))
      ∙ find_elsewhere (is_named q) (is_named row.name) (λ b is. not_named q row.name b other is) t.buckets)
      ∙ sym (get-catalogue e t q))
      ∙ write_bucket (catalogue_of e t) row.name (option_map (set_in status) (get (catalogue_of e t) row.name));
}
  where
    stays : (k : List ℕ) → has_bucket_row t.buckets k ≡ true → has_bucket_row (insert_by bucket_row (delete_where (is_named row.name) t.buckets) row) k ≡ true
    stays k has = go (is_named k row) refl
      where
        go : (b : Bool) → is_named k row ≡ b → has_bucket_row (insert_by bucket_row (delete_where (is_named row.name) t.buckets) row) k ≡ true
        go true is = any_put bucket_row (is_named k) (delete_where (is_named row.name) t.buckets) row is
        go false is = still_there (delete_where (is_named row.name) t.buckets) row k free (still_left t.buckets row.name k (λ same. false≢true (sym is ∙ ap (λ n. same_text row.name n) same ∙ same_text-itself row.name)) ∙ has)

    set : (o : Option BucketColumns) → find (is_named row.name) t.buckets ≡ o → option_map (λ b. b.made) (option_map (bucket_of e t) o) ≡ Some (unsigned_abs row.made) → Some (bucket_of e t row) ≡ option_map (set_in status) (option_map (bucket_of e t) o)
    set None none is = absurd (none-some _ is)
    set (Some b) found is =
        let named : b.name ≡ row.name = same_text-true b.name row.name (find_passes (is_named row.name) t.buckets b found) in
        let made : unsigned_abs b.made ≡ unsigned_abs row.made = same_Some _ _ is in
        λ i. Some (record { made = sym made i; versioning = set_is i; keys = keys_in e t.versions (sym named i); uploads = uploads_in e t.uploads t.parts (sym named i) })

pub rows_open : RowsOpen
unfolding catalogue_of
rows_open e = (
  record {
    buckets = record { rise = tt; names = tt; fit = All-from_recursion _ [] tt };
    versions = record { rise = tt; numbers = tt; ids = tt; fit = All-from_recursion _ [] tt };
    uploads = record { rise = tt; ids = tt; fit = All-from_recursion _ [] tt };
    parts = record { rise = tt; numbers = tt; fit = All-from_recursion _ [] tt };
    version_buckets = All-from_recursion _ [] tt;
    upload_buckets = All-from_recursion _ [] tt;
    part_uploads = All-from_recursion _ [] tt;
  },
  refl,
)
