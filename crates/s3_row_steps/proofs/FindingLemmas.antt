-- What is told of rows that are found.
use Rattle.std.proofs.Common.{◌≡◌, refl, sym, ap, ◌∙◌, ℕ, ◌<◌, ◌≤◌, ◌^◌, ℤ, pos, Bool, true, int_lt, List, find, Option, Some, None, option_map, arith}
use Rattle.std.proofs.lemmas.Bool.{and_parts}
use Rattle.std.proofs.lemmas.Int.{ints}
use Rattle.std.proofs.lemmas.List.Elements.{recursion_from_All}
use Rattle.sqlite_keyed.specs.Rules.{AllPass}
use Rattle.sqlite_keyed.proofs.KeyedLemmas.{same_int}
use Rattle.s3_columns.specs.Columns.{HasColumn}
use Rattle.s3_names.specs.declared.ids.VersionId.{VersionId}
use Rattle.s3_names.specs.declared.ids.VersionId.TheVariants.{Null, Numbered}
use Rattle.s3_versions.specs.declared.version.Versioning.{Versioning}
use Rattle.s3_versions.specs.declared.version.Versioning.TheVariants.{Unversioned}
use Rattle.s3_versions.specs.Rules.{asked_for}
use Rattle.s3_records.specs.Catalogue.{versions_of, versioning_in, versioning_of}
use Rattle.s3_rows.specs.Columns.{BucketColumns, VersionColumns, UploadColumns, Tables}
use Rattle.s3_rows.specs.Encoding.{Encoding}
use Rattle.s3_rows.specs.Finding.{is_named, id_column, is_at, is_version, is_upload_to, is_upload}
use Rattle.s3_rows.specs.Meaning.{version_of, bucket_of, catalogue_of}
use Rattle.s3_rows.specs.Soundness.{AreSound}
use Rattle.s3_rows.proofs.EditLemmas.{find_passes, find_has}
use Rattle.s3_rows.proofs.MeaningLemmas.{get-catalogue}
use Rattle.s3_rows.proofs.ReadingLemmas.{rows_tell_current, rows_tell_version}
use Rattle.s3_stored_rows.specs.declared.rows.StoredVersion.{StoredVersion}
use Rattle.s3_stored_rows.specs.Changes.{version_columns}
use Rattle.s3_stored_rows.specs.Queries.{newest_version, version_of_id, upload_of_id}
use Rattle.s3_row_steps.specs.Steps.{HaveSmallIds}

-- the version of a row that is there
told_of : (e : Encoding) (o : Option StoredVersion) → option_map (λ (v : StoredVersion). version_of e (version_columns v)) o ≡ option_map (version_of e) (option_map version_columns o)
told_of e None = refl
told_of e (Some v) = refl

module _ (e : Encoding) (t : Tables) (s : AreSound t) (bucket key : List ℕ) (found : Option StoredVersion) where
  -- is the current one, where the row is the newest
  pub current_told : option_map version_columns found ≡ newest_version bucket key t
      → option_map (λ (v : StoredVersion). version_of e (version_columns v)) found ≡ asked_for None (versions_of (catalogue_of e t) bucket key)
  current_told is = told_of e found ∙ ap (option_map (version_of e)) is ∙ sym (rows_tell_current e t bucket key s)

  -- and that of the id that it has
  pub named_told : (id : VersionId) → option_map version_columns found ≡ version_of_id bucket key (id_column id) t
      → option_map (λ (v : StoredVersion). version_of e (version_columns v)) found ≡ asked_for (Some id) (versions_of (catalogue_of e t) bucket key)
  named_told id is = told_of e found ∙ ap (option_map (version_of e)) is ∙ sym (rows_tell_version e t bucket key id s)

-- a number that isn't below one that all are below is that of none
not_less : (m n : ℕ) (a : ℤ) → m ≤ n → a ≡ pos n → int_lt a (pos m) ≡ true → ⊥
not_less m n a large is less = grind (arith, ints)

none_large : {X : Type 0} (id : X → ℤ) (p : X → Bool) (m n : ℕ) (xs : List X) → ((x : X) → p x ≡ true → id x ≡ pos n) → m ≤ n → AllPass (λ x. int_lt (id x) (pos m)) xs → find p xs ≡ None
none_large {X} id p m n xs has large below = go (find p xs) refl
  where
    go : (o : Option X) → find p xs ≡ o → o ≡ None
    go None is = refl
    go (Some x) is =
        absurd (not_less m n (id x) large (has x (find_passes p xs x is)) (find_has (λ y. int_lt (id y) (pos m) ≡ true) p xs x (recursion_from_All (λ y. int_lt (id y) (pos m) ≡ true) xs below) is))

module _ (t : Tables) (small : HaveSmallIds t) (bucket key : List ℕ) (n : ℕ) (large : 2 ^ 63 ≤ n) where
  pub no_large_version : version_of_id bucket key (pos n) t ≡ None
  no_large_version =
      none_large (λ (v : VersionColumns). v.id) (is_version bucket key (pos n)) (2 ^ 63) n t.versions (λ v is. same_int v.id (pos n) (and_parts (is_at bucket key v) _ is).1) large small.versions

  pub no_large_upload : upload_of_id bucket key (pos n) t ≡ None
  no_large_upload =
      none_large (λ (u : UploadColumns). u.id) (is_upload bucket key (pos n)) (2 ^ 63) n t.uploads (λ u is. same_int u.id (pos n) (and_parts (is_upload_to bucket key u) _ is).1) large small.uploads

-- so no row has an id that has no column
pub no_version : (t : Tables) → HaveSmallIds t → (bucket key : List ℕ) (id : VersionId) → (HasColumn id → ⊥) → version_of_id bucket key (id_column id) t ≡ None
no_version t small bucket key Null none = absurd (none tt)
no_version t small bucket key (Numbered n) none = no_large_version t small bucket key n (at_least (2 ^ 63) n none)
  where
    at_least : (m q : ℕ) → (q < m → ⊥) → m ≤ q
    at_least m q not_below = omega arith

-- the versioning of a bucket is that of its row
abbrev pub mode_told : Encoding → Option BucketColumns → Versioning
mode_told e None = Unversioned
mode_told e (Some b) = e.versioning_in b.mode

told_in : (e : Encoding) (t : Tables) (found : Option BucketColumns) → versioning_in (option_map (bucket_of e t) found) ≡ mode_told e found
told_in e t None = refl
told_in e t (Some b) = refl

pub versioning_told : (e : Encoding) (t : Tables) (name : List ℕ) → versioning_of (catalogue_of e t) name ≡ mode_told e (find (is_named name) t.buckets)
versioning_told e t name = ap versioning_in (get-catalogue e t name) ∙ told_in e t (find (is_named name) t.buckets)
