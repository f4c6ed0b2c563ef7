-- The laws of rows of versions.
use Rattle.std.proofs.Common.{◌≡◌, ◌≢◌, refl, sym, ap, ap₂, ◌∙◌, Bool, true, false, not, cond, ◌&&◌, ◌||◌, ℕ, ℤ, pos, negsuc, List, ◌∷◌, find, Option, Some, None, is_some, option_map, Less, int_eq, is_eq, unsigned_abs}
use Rattle.std.proofs.lemmas.Bool.{false≢true, false_from_ne_true, and_parts, and_from}
use Rattle.std.proofs.lemmas.List.Elements.{recursion_from_All}
use Rattle.std.specs.List.{AllByRecursion}
use Rattle.sqlite_keyed.specs.Keyed.{insert_by}
use Rattle.sqlite_keyed.specs.Lists.{delete_where}
use Rattle.sqlite_keyed.specs.Rules.{is_apart}
use Rattle.sqlite_keyed.proofs.KeyedLemmas.{same_int, IsKeyedBy-insert_by, IsKeyedBy-delete_where}
use Rattle.sqlite_keyed.proofs.ListLemmas.{all_weaker, all-filter, any_from_none}
use Rattle.sqlite_keyed.proofs.RuleLemmas.{pass_insert, pass_delete, apart_insert, apart_delete}
use Rattle.sqlite_keyed.proofs.SliceLemmas.{any_is_found, none_narrower, is_some-map}
use Rattle.s3_names.specs.declared.ids.VersionId.{VersionId}
use Rattle.s3_names.specs.declared.ids.VersionId.TheVariants.{Null, Numbered}
use Rattle.s3_versions.specs.declared.version.Content.{Content}
use Rattle.s3_versions.specs.declared.version.Content.TheVariants.{DeleteMarker, Stored}
use Rattle.s3_versions.specs.declared.version.Version.{Version}
use Rattle.s3_versions.specs.declared.version.Versioning.{Versioning}
use Rattle.s3_versions.specs.declared.version.Versioning.TheVariants.{Unversioned, Enabled, Suspended}
use Rattle.s3_versions.specs.Rules.{id_of, made, new_id, without, after_adding, after_change, after_delete, is_new_number, KeyChange, VersionPut, KeyDeleted, VersionDropped}
use Rattle.s3_records.specs.Catalogue.{has_bucket, versions_of, versions_in, versioning_of}
use Rattle.s3_records.specs.Changes.{KeyChanged}
use Rattle.s3_rows.specs.Columns.{BucketColumns, VersionColumns, Tables}
use Rattle.s3_rows.specs.Encoding.{Encoding}
use Rattle.s3_rows.specs.Finding.{same_text, is_named, is_at, id_column, is_version, newest_first}
use Rattle.s3_rows.specs.Meaning.{version_of, versions_under, bucket_of, catalogue_of}
use Rattle.s3_rows.specs.Soundness.{version_row, same_number, same_version, is_count, has_own_id, is_version_row, has_bucket_row, AreSound}
use Rattle.s3_rows.specs.TableChanges.{version_put, version_dropped}
use Rattle.s3_rows.specs.VersionLaws.{Makes, MayStand, RowsPutVersions, RowsMark, RowsDelete, RowsDropVersions}
use Rattle.s3_rows.proofs.EditLemmas.{find_passes, none_gone}
use Rattle.s3_rows.proofs.MeaningLemmas.{same_text-true, same_text-itself, same_text-symm, get-catalogue, versions_at-keys}
use Rattle.s3_rows.proofs.VersionLemmas.{under_dropped, elsewhere_dropped, numbers_below, under_put, elsewhere_put, key_changed}
use Rattle.std.specs.Cmp.{eq_by_cmp_equiv, int_cmp_total}

-- a bucket is there where its row is
pub has_bucket-row : (e : Encoding) (t : Tables) (name : List ℕ) → has_bucket (catalogue_of e t) name ≡ has_bucket_row t.buckets name
has_bucket-row e t name = ap is_some (get-catalogue e t name) ∙ is_some-map (bucket_of e t) (find (is_named name) t.buckets) ∙ sym (any_is_found (is_named name) t.buckets)

-- the versions under a key of a bucket that is there
pub versions_of-there : (e : Encoding) (t : Tables) (name key : List ℕ) → has_bucket_row t.buckets name ≡ true → versions_of (catalogue_of e t) name key ≡ versions_under e t.versions name key
versions_of-there e t name key there = ap (λ b. versions_in b key) (get-catalogue e t name) ∙ go (find (is_named name) t.buckets) refl
  where
    go : (o : Option BucketColumns) → find (is_named name) t.buckets ≡ o → versions_in (option_map (bucket_of e t) o) key ≡ versions_under e t.versions name key
    go None none = absurd (false≢true (sym (ap is_some none) ∙ sym (any_is_found (is_named name) t.buckets) ∙ there))
    go (Some b) found = versions_at-keys e t.versions b.name key ∙ ap (λ n. versions_under e t.versions n key) (same_text-true b.name name (find_passes (is_named name) t.buckets b found))

-- two texts, and two integers, compare alike from either side
pub int_eq-symm : (a b : ℤ) → int_eq a b ≡ int_eq b a
int_eq-symm a b = (eq_by_cmp_equiv int_cmp_total).symm a b

pub both_symm : (a b c d : List ℕ) → (same_text a b && same_text c d) ≡ (same_text b a && same_text d c)
both_symm a b c d = ap₂ ◌&&◌ (same_text-symm a b) (same_text-symm c d)

pub same_number-symm : (a b : VersionColumns) → same_number a b ≡ same_number b a
same_number-symm a b = ap₂ ◌&&◌ (both_symm a.bucket b.bucket a.key b.key) (int_eq-symm a.number b.number)

pub same_version-symm : (a b : VersionColumns) → same_version a b ≡ same_version b a
same_version-symm a b = ap₂ ◌&&◌ (both_symm a.bucket b.bucket a.key b.key) (int_eq-symm a.id b.id)

-- rows of versions that are taken out leave tables sound
pub sound-dropped : (t : Tables) (p : VersionColumns → Bool) → AreSound t → AreSound (record t { versions = delete_where p t.versions })
sound-dropped t p s = record {
  buckets = s.buckets;
  versions = record {
    rise = IsKeyedBy-delete_where version_row p t.versions s.versions.rise;
    numbers = apart_delete same_number p t.versions s.versions.numbers;
    ids = apart_delete same_version p t.versions s.versions.ids;
    fit = pass_delete is_version_row p t.versions s.versions.fit;
  };
  uploads = s.uploads;
  parts = s.parts;
  version_buckets = pass_delete (λ v. has_bucket_row t.buckets v.bucket) p t.versions s.version_buckets;
  upload_buckets = s.upload_buckets;
  part_uploads = s.part_uploads;
}

-- so does one that is put in
sound-put : (t : Tables) (row : VersionColumns) → AreSound t → is_version_row row ≡ true → has_bucket_row t.buckets row.bucket ≡ true → is_apart version_row same_number t.versions row ≡ true → is_apart version_row same_version t.versions row ≡ true
    → AreSound (record t { versions = insert_by version_row t.versions row })
sound-put t row s fits there number id = record {
  buckets = s.buckets;
  versions = record {
    rise = IsKeyedBy-insert_by version_row t.versions row s.versions.rise;
    numbers = apart_insert same_number version_row same_number-symm t.versions row s.versions.rise number s.versions.numbers;
    ids = apart_insert same_version version_row same_version-symm t.versions row s.versions.rise id s.versions.ids;
    fit = pass_insert version_row is_version_row t.versions row fits s.versions.fit;
  };
  uploads = s.uploads;
  parts = s.parts;
  version_buckets = pass_insert version_row (λ v. has_bucket_row t.buckets v.bucket) t.versions row there s.version_buckets;
  upload_buckets = s.upload_buckets;
  part_uploads = s.part_uploads;
}

-- the column of the id of a row
column_of_id : (number id : ℤ) → is_count number ≡ true → (int_eq id (negsuc 0) || int_eq id number) ≡ true → id ≡ id_column (cond (int_eq id (negsuc 0)) Null (Numbered (unsigned_abs number)))
column_of_id (negsuc m) id count own = absurd (false≢true count)
column_of_id (pos m) id count own = go (int_eq id (negsuc 0)) refl own
  where
    go : (b : Bool) → int_eq id (negsuc 0) ≡ b → (b || int_eq id (pos m)) ≡ true → id ≡ id_column (cond b Null (Numbered m))
    go true is own = same_int id (negsuc 0) is
    go false is own = same_int id (pos m) own

module _ (e : Encoding) (t : Tables) (s : AreSound t) where
  fit : AllByRecursion (λ v. is_version_row v ≡ true) t.versions
  fit = recursion_from_All _ t.versions s.versions.fit

  -- what an entry adds
  module _ (row : VersionColumns) (n m : ℕ) (content : Content (List ℕ)) (may : MayStand e t row n) (is : version_of e row ≡ made (versioning_of (catalogue_of e t) row.bucket) n m content) where
    abbrev left : List VersionColumns
    left = delete_where (is_version row.bucket row.key row.id) t.versions

    abbrev ver : Versioning
    ver = versioning_of (catalogue_of e t) row.bucket

    there : has_bucket_row t.buckets row.bucket ≡ true
    there = sym (has_bucket-row e t row.bucket) ∙ may.there

    id_is : row.id ≡ id_column (new_id ver n)
    id_is =
        let parts = and_parts (is_count row.number) _ may.fits in
        column_of_id row.number row.id parts.0 (and_parts (has_own_id row) _ parts.1).0 ∙ ap (λ v. id_column (id_of v)) is

    behind : AllByRecursion (λ v. is_at row.bucket row.key v ≡ true → newest_first row v ≡ Less) left
    behind =
        let parts = and_parts (is_count row.number) _ may.fits in
        all-filter _ (λ v. not (is_version row.bucket row.key row.id v)) t.versions
        (numbers_below e t.versions row.bucket row.key row n fit parts.0 (sym (ap (λ v. v.number) is))
        (sym (ap (is_new_number n) (versions_of-there e t row.bucket row.key there)) ∙ may.newer))

    at : is_at row.bucket row.key row ≡ true
    at = and_from _ _ (same_text-itself row.bucket) (same_text-itself row.key)

    not_at : (b k : List ℕ) → ¬ ((b ≡ row.bucket) × (k ≡ row.key)) → is_at b k row ≡ false
    not_at b k apart = false_from_ne_true (is_at b k row) (λ is. let both = and_parts (same_text row.bucket b) _ is in apart (sym (same_text-true row.bucket b both.0), sym (same_text-true row.key k both.1)))

    -- under the key stands what the entry makes, and what was left
    now_under : versions_under e (insert_by version_row left row) row.bucket row.key ≡ after_adding ver n m content (versions_under e t.versions row.bucket row.key)
    now_under =
        under_put e left row at may.free behind
        ∙ ap₂ ◌∷◌ is (ap (λ id. versions_under e (delete_where (is_version row.bucket row.key id) t.versions) row.bucket row.key) id_is
        ∙ under_dropped e t.versions row.bucket row.key (new_id ver n) fit)

    other_number : (v : VersionColumns) → (is_at row.bucket row.key v ≡ true → newest_first row v ≡ Less) → same_number v row ≡ false
    other_number v less = go (is_at row.bucket row.key v) refl
      where
        go : (b : Bool) → is_at row.bucket row.key v ≡ b → (b && int_eq v.number row.number) ≡ false
        go true is = ap is_eq (less is)
        go false is = refl

    sound : AreSound (version_put row t)
    sound =
        sound-put (version_dropped row.bucket row.key row.id t) row (sound-dropped t (is_version row.bucket row.key row.id) s) may.fits there
        (ap not (none_narrower (λ v. not (int_eq v.row row.row)) (λ v. same_number v row) left
        (any_from_none (λ v. same_number v row) left (all_weaker _ (λ v. same_number v row ≡ false) other_number left behind))))
        (ap not (none_narrower (λ v. not (int_eq v.row row.row)) (λ v. same_version v row) left (none_gone (is_version row.bucket row.key row.id) t.versions)))

    pub is_added : (what : KeyChange (List ℕ)) → after_change ver what (versions_under e t.versions row.bucket row.key) ≡ after_adding ver n m content (versions_under e t.versions row.bucket row.key)
        → Makes e t (version_put row t) row.bucket (KeyChanged row.key what)
    is_added what adds = record {
      sound = sound;
      means = key_changed e t (insert_by version_row left row) row.bucket row.key what (now_under ∙ sym adds)
          (λ b k apart. elsewhere_put e left row b k may.free (not_at b k apart) ∙ elsewhere_dropped e t.versions row.bucket row.key row.id b k apart);
    }

  pub is_dropped : (bucket key : List ℕ) (id : VersionId) (what : KeyChange (List ℕ)) → after_change (versioning_of (catalogue_of e t) bucket) what (versions_under e t.versions bucket key) ≡ without id (versions_under e t.versions bucket key)
      → Makes e t (version_dropped bucket key (id_column id) t) bucket (KeyChanged key what)
  is_dropped bucket key id what drops = record {
    sound = sound-dropped t (is_version bucket key (id_column id)) s;
    means = key_changed e t (delete_where (is_version bucket key (id_column id)) t.versions) bucket key what (under_dropped e t.versions bucket key id fit ∙ sym drops)
        (elsewhere_dropped e t.versions bucket key (id_column id));
  }

marks : (ver : Versioning) (n m : ℕ) (vs : List (Version (List ℕ))) → ver ≢ Unversioned → after_delete ver n m vs ≡ after_adding ver n m DeleteMarker vs
marks Enabled n m vs other = refl
marks Suspended n m vs other = refl
marks Unversioned n m vs other = absurd (other refl)

pub rows_put_versions : RowsPutVersions
rows_put_versions e t row n m stored s may is = is_added e t s row n m (Stored stored) may is (VersionPut n m stored) refl

pub rows_mark : RowsMark
rows_mark e t row n m s may versioned is = is_added e t s row n m DeleteMarker may is (KeyDeleted n m) (marks (versioning_of (catalogue_of e t) row.bucket) n m (versions_under e t.versions row.bucket row.key) versioned)

pub rows_delete : RowsDelete
rows_delete e t bucket key n m s unversioned = is_dropped e t s bucket key Null (KeyDeleted n m) (ap (λ v. after_delete v n m (versions_under e t.versions bucket key)) unversioned)

pub rows_drop_versions : RowsDropVersions
rows_drop_versions e t bucket key id s = is_dropped e t s bucket key id (VersionDropped id) refl
