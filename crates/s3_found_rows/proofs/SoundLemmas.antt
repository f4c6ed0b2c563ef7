-- What is known of rows that may stand.
use Rattle.std.proofs.Common.{◌≡◌, refl, sym, ap, subst, ◌∙◌, ℕ, zero, suc, ℤ, pos, negsuc, ◌<◌, ◌≤ℤ◌, ◌<ℤ◌, Bool, true, false, not, ◌&&◌, ◌||◌, List, [], ◌∷◌, filter, find, map, Option, Some, None, is_some, option_map, unsigned_abs, int_lt, int_le, int_eq, nat_lt, arith}
use Rattle.std.proofs.lemmas.Bool.{false≢true, and_parts}
use Rattle.std.proofs.lemmas.Int.{ints}
use Rattle.std.proofs.lemmas.List.Elements.{All-weaker, recursion_from_All}
use Rattle.sqlite_keyed.specs.Keyed.{has_key}
use Rattle.sqlite_keyed.specs.Lists.{sort_by}
use Rattle.sqlite_keyed.specs.Rules.{AllPass}
use Rattle.sqlite_keyed.proofs.KeyedLemmas.{same_int}
use Rattle.sqlite_keyed.proofs.ListLemmas.{all_weaker, all-filter, test_from_all}
use Rattle.sqlite_keyed.proofs.SliceLemmas.{list_all-map, any_is_found}
use Rattle.std.specs.List.{AllByRecursion}
use Rattle.s3_names.specs.declared.ids.VersionId.TheVariants.{Null}
use Rattle.s3_versions.specs.declared.version.Version.{Version}
use Rattle.s3_versions.specs.declared.version.Versioning.TheVariants.{Unversioned}
use Rattle.s3_versions.specs.Rules.{is_new_number, without}
use Rattle.s3_columns.specs.Columns.{versioning_in as mode_read}
use Rattle.s3_records.specs.Catalogue.{versioning_in}
use Rattle.s3_records.specs.Places.{AreBelow}
use Rattle.s3_keepers.specs.Sound.{UploadsAreBelow, UnversionedAreNull, IsSoundCatalogue}
use Rattle.s3_rows.specs.Columns.{BucketColumns, VersionColumns, UploadColumns, Tables}
use Rattle.s3_rows.specs.Encoding.{Encoding}
use Rattle.s3_rows.specs.Finding.{is_named, is_in, is_under_key, is_at, newest_first, is_upload_to, is_upload}
use Rattle.s3_rows.specs.Meaning.{version_of, upload_of, bucket_of, catalogue_of}
use Rattle.s3_rows.specs.Soundness.{upload_row, has_own_id, is_count, is_bucket_row, is_version_row, is_upload_row, is_part_row, has_bucket_row, AreSound}
use Rattle.s3_rows.proofs.EditLemmas.{find_passes, find_has}
use Rattle.s3_rows.proofs.MeaningLemmas.{same_text-true, get-catalogue}
use Rattle.s3_rows.proofs.ReadingLemmas.{rows_tell_versions, rows_tell_upload}
use Rattle.s3_rows.proofs.SortedLemmas.{all_passing, all-sort_by}
use Rattle.s3_rows.proofs.VersionLemmas.{newest_total}
use Rattle.s3_stored_bodies.specs.Numbers.{Contents}
use Rattle.s3_stored_rows.specs.Bodies.{encoding}
use Rattle.s3_stored_rows.specs.Rowids.{AreRowsBelow}
use Rattle.s3_stored_rows.specs.Unique.{AreUnique}
use Rattle.s3_found_rows.specs.Fitting.{may_have, version_fits, upload_fits, part_fits, AreFilled}
use Rattle.s3_found_rows.proofs.CatalogueLemmas.{are_catalogued, parts_rise, are_filled}

passes : {X : Type 0} (p q : X → Bool) → ((x : X) → p x ≡ true → q x ≡ true) → (xs : List X) → AllPass p xs → AllPass q xs
passes p q so xs all = All-weaker (λ x. p x ≡ true) (λ x. q x ≡ true) so xs all

le_then_less : (a b c : ℤ) → b <ℤ c → int_le a b ≡ true → int_lt a c ≡ true
le_then_less a b c less le = grind (arith, ints)

id_below : (id number next : ℤ) → number <ℤ next → next ≤ℤ pos 9_223_372_036_854_775_808 → (int_eq id (negsuc 0) || int_eq id number) ≡ true → int_lt id (pos 9_223_372_036_854_775_808) ≡ true
id_below id number next less room own = grind (arith, ints)

less_of : (a b : ℤ) → int_lt a b ≡ true → a <ℤ b
less_of a b less = grind (arith, ints)

less_both : (a b c : ℤ) → b ≤ℤ c → int_lt a b ≡ true → int_lt a c ≡ true
less_both a b c le less = grind (arith, ints)

abs_less : (a b : ℤ) → int_le (pos 0) a ≡ true → int_lt a b ≡ true → nat_lt (unsigned_abs a) (unsigned_abs b) ≡ true
abs_less a b count less = grind (arith, ints)

id_less : (found number : ℤ) (id : ℕ) → found ≡ pos id → int_lt found number ≡ true → id < unsigned_abs number
id_less found number id is less = grind (arith, ints)

-- what has a version is there
is_there : (found : Option BucketColumns) (v : VersionColumns) → may_have found v ≡ true → is_some found ≡ true
is_there None v has = absurd (false≢true has)
is_there (Some b) v has = refl

there : (bs : List BucketColumns) (v : VersionColumns) → may_have (find (is_named v.bucket) bs) v ≡ true → has_bucket_row bs v.bucket ≡ true
there bs v has = any_is_found (is_named v.bucket) bs ∙ is_there (find (is_named v.bucket) bs) v has

too_high : (n : ℕ) → int_le (pos (suc (suc (suc n)))) (pos 2) ≡ false
too_high n = grind (arith, ints)

-- the column of a bucket whose versioning was never set
mode_none : (mode : ℤ) → (is_count mode && int_le mode (pos 2)) ≡ true → mode_read mode ≡ Unversioned → int_eq mode (pos 0) ≡ true
mode_none (pos zero) fits is = refl
mode_none (pos (suc zero)) fits is = absurd (cc)
mode_none (pos (suc (suc zero))) fits is = absurd (cc)
mode_none (pos (suc (suc (suc n)))) fits is = absurd (false≢true (sym (too_high n) ∙ (and_parts (is_count (pos (suc (suc (suc n))))) _ fits).1))
mode_none (negsuc n) fits is = absurd (false≢true fits)

second_true : (p q : Bool) → p ≡ true → (not p || q) ≡ true → q ≡ true
second_true true q is one = one
second_true false q is one = absurd (false≢true is)

-- the versions that are left behind `null` are none where all rows are `null`
none_left : (e : Encoding) (vs : List VersionColumns) → AllByRecursion (λ v. int_eq v.id (negsuc 0) ≡ true) vs → without Null (map (version_of e) vs) ≡ []
unfolding without
none_left e [] all = refl
none_left e (v ∷ vs) all = rw all.0 (none_left e vs all.1)

module _ (t : Tables) (last number : ℤ) (filled : AreFilled last number t) where
  pub rows_below : (next : ℤ) → last <ℤ next → AreRowsBelow next t
  rows_below next less = record {
    buckets = passes (λ x. int_le x.row last) (λ x. int_lt x.row next) (λ x. le_then_less x.row last next less) t.buckets filled.buckets.reached;
    versions = passes (λ x. int_le x.row last) (λ x. int_lt x.row next) (λ x. le_then_less x.row last next less) t.versions filled.versions.reached;
    uploads = passes (λ x. int_le x.row last) (λ x. int_lt x.row next) (λ x. le_then_less x.row last next less) t.uploads filled.uploads.reached;
    parts = passes (λ x. int_le x.row last) (λ x. int_lt x.row next) (λ x. le_then_less x.row last next less) t.parts filled.parts.reached;
  }

  its_place : (v : VersionColumns) → version_fits number t.buckets v ≡ true → may_have (find (is_named v.bucket) t.buckets) v ≡ true
  its_place v h = (and_parts (may_have (find (is_named v.bucket) t.buckets) v) _ (and_parts (is_version_row v) _ h).1).0

  pub are_sound : AreUnique t → AreSound t
  are_sound unique = record {
    buckets = record { rise = unique.buckets; names = unique.names; fit = filled.buckets.fit };
    versions = record { rise = unique.versions; numbers = unique.numbers; ids = unique.ids; fit = passes (version_fits number t.buckets) is_version_row (λ v h. (and_parts _ _ h).0) t.versions filled.versions.fit };
    uploads = record { rise = unique.uploads; ids = unique.upload_ids; fit = passes (upload_fits number t.buckets) is_upload_row (λ u h. (and_parts _ _ h).0) t.uploads filled.uploads.fit };
    parts = record { rise = unique.parts; numbers = unique.part_numbers; fit = passes (part_fits t.uploads) is_part_row (λ p h. (and_parts _ _ h).0) t.parts filled.parts.fit };
    version_buckets = passes (version_fits number t.buckets) (λ v. has_bucket_row t.buckets v.bucket) (λ v h. there t.buckets v (its_place v h)) t.versions filled.versions.fit;
    upload_buckets = passes (upload_fits number t.buckets) (λ u. has_bucket_row t.buckets u.bucket) (λ u h. (and_parts _ _ (and_parts _ _ h).1).0) t.uploads filled.uploads.fit;
    part_uploads = passes (part_fits t.uploads) (λ p. has_key upload_row t.uploads p.upload) (λ p h. (and_parts _ _ h).1) t.parts filled.parts.fit;
  }

  -- ids are below what the number is below
  pub small_versions : number ≤ℤ pos 9_223_372_036_854_775_808 → AllPass (λ (v : VersionColumns). int_lt v.id (pos 9_223_372_036_854_775_808)) t.versions
  small_versions room = passes (version_fits number t.buckets) (λ v. int_lt v.id (pos 9_223_372_036_854_775_808))
      (λ v h. let row = and_parts (is_version_row v) (may_have (find (is_named v.bucket) t.buckets) v && int_lt v.number number) h in
      id_below v.id v.number number (less_of v.number number (and_parts _ _ row.1).1) room (and_parts (has_own_id v) _ (and_parts (is_count v.number) _ row.0).1).0)
      t.versions filled.versions.fit

  pub small_uploads : number ≤ℤ pos 9_223_372_036_854_775_808 → AllPass (λ (u : UploadColumns). int_lt u.id (pos 9_223_372_036_854_775_808)) t.uploads
  small_uploads room = passes (upload_fits number t.buckets) (λ u. int_lt u.id (pos 9_223_372_036_854_775_808))
      (λ u h. less_both u.id number (pos 9_223_372_036_854_775_808) room (and_parts _ _ (and_parts (is_upload_row u) _ h).1).1) t.uploads filled.uploads.fit

  new_row : (v : VersionColumns) → version_fits number t.buckets v ≡ true → nat_lt (unsigned_abs v.number) (unsigned_abs number) ≡ true
  new_row v h =
      let row = and_parts (is_version_row v) (may_have (find (is_named v.bucket) t.buckets) v && int_lt v.number number) h in
      abs_less v.number number (and_parts (is_count v.number) _ row.0).0 (and_parts (may_have (find (is_named v.bucket) t.buckets) v) _ row.1).1

  -- the number is above those of all versions
  numbers_below : (e : Encoding) → AreSound t → AreBelow (unsigned_abs number) (catalogue_of e t)
  unfolding is_new_number
  numbers_below e sound = λ name key.
      let n = unsigned_abs number in
      let here = filter (is_at name key) t.versions in
      ap (is_new_number n) (rows_tell_versions e t name key sound)
      ∙ list_all-map (λ (v : Version (List ℕ)). nat_lt v.number n) (version_of e) (sort_by newest_first here)
      ∙ test_from_all (λ v. nat_lt (unsigned_abs v.number) n) (sort_by newest_first here)
      (all-sort_by newest_first newest_total (λ v. nat_lt (unsigned_abs v.number) n ≡ true) here
      (all-filter (λ v. nat_lt (unsigned_abs v.number) n ≡ true) (is_at name key) t.versions
      (all_weaker (λ v. version_fits number t.buckets v ≡ true) (λ v. nat_lt (unsigned_abs v.number) n ≡ true) new_row t.versions (recursion_from_All _ t.versions filled.versions.fit))))

  -- and above the ids of all uploads
  uploads_below : (e : Encoding) → AreSound t → UploadsAreBelow (unsigned_abs number) (catalogue_of e t)
  uploads_below e sound name key id here = go (find (is_upload name key (pos id)) t.uploads) refl (sym (ap is_some (rows_tell_upload e t name key id sound)) ∙ here)
    where
      go : (found : Option UploadColumns) → find (is_upload name key (pos id)) t.uploads ≡ found → is_some (option_map (upload_of e t.parts) found) ≡ true → id < unsigned_abs number
      go None is none = absurd (false≢true none)
      go (Some u) is some =
          let its = same_int u.id (pos id) (and_parts (is_upload_to name key u) _ (find_passes (is_upload name key (pos id)) t.uploads u is)).1 in
          let fit = find_has (λ x. upload_fits number t.buckets x ≡ true) (is_upload name key (pos id)) t.uploads u (recursion_from_All _ t.uploads filled.uploads.fit) is in
          id_less u.id number id its (and_parts (has_bucket_row t.buckets u.bucket) _ (and_parts (is_upload_row u) _ fit).1).1

  -- the rows of the versions in a bucket whose versioning was never set are `null`
  row_null : (contents : Contents) (name key : List ℕ) (found : Option BucketColumns) → find (is_named name) t.buckets ≡ found → versioning_in (option_map (bucket_of (encoding contents) t) found) ≡ Unversioned
      → (v : VersionColumns) → version_fits number t.buckets v ≡ true → is_at name key v ≡ true → int_eq v.id (negsuc 0) ≡ true
  row_null contents name key found is unversioned v fits at = go found is unversioned (subst (λ n. may_have (find (is_named n) t.buckets) v ≡ true) named (its_place v fits))
    where
      named : v.bucket ≡ name
      named = same_text-true v.bucket name (and_parts (is_in name v) (is_under_key key v) at).0

      go : (found : Option BucketColumns) → find (is_named name) t.buckets ≡ found → versioning_in (option_map (bucket_of (encoding contents) t) found) ≡ Unversioned
          → may_have (find (is_named name) t.buckets) v ≡ true → int_eq v.id (negsuc 0) ≡ true
      go None is none has = absurd (false≢true (sym (ap (λ f. may_have f v) is) ∙ has))
      go (Some b) is none has =
          let row = find_has (λ x. is_bucket_row x ≡ true) (is_named name) t.buckets b (recursion_from_All _ t.buckets filled.buckets.fit) is in
          let mode = mode_none b.mode (and_parts (is_count b.made) _ row).1 none in
          second_true (int_eq b.mode (pos 0)) _ mode (sym (ap (λ f. may_have f v) is) ∙ has)

  nulls : (contents : Contents) → AreSound t → UnversionedAreNull (catalogue_of (encoding contents) t)
  nulls contents sound name key unversioned =
      let here = filter (is_at name key) t.versions in
      let all : AllByRecursion (λ v. int_eq v.id (negsuc 0) ≡ true) here =
      all_passing (λ v. int_eq v.id (negsuc 0) ≡ true) (is_at name key) t.versions
      (all_weaker (λ v. version_fits number t.buckets v ≡ true) (λ v. is_at name key v ≡ true → int_eq v.id (negsuc 0) ≡ true)
      (row_null contents name key (find (is_named name) t.buckets) refl (sym (ap versioning_in (get-catalogue (encoding contents) t name)) ∙ unversioned)) t.versions
      (recursion_from_All _ t.versions filled.versions.fit)) in
      ap (without Null) (rows_tell_versions (encoding contents) t name key sound)
      ∙ none_left (encoding contents) (sort_by newest_first here) (all-sort_by newest_first newest_total (λ v. int_eq v.id (negsuc 0) ≡ true) here all)

  -- the catalogue is sound
  pub catalogue_sound : (contents : Contents) → AreSound t → IsSoundCatalogue (catalogue_of (encoding contents) t) (unsigned_abs number)
  catalogue_sound contents sound = record {
    versions = numbers_below (encoding contents) sound;
    uploads = uploads_below (encoding contents) sound;
    ordered = are_catalogued (encoding contents) t sound;
    null = nulls contents sound;
    parts = parts_rise (encoding contents) t sound;
    filled = are_filled (encoding contents) t;
  }
