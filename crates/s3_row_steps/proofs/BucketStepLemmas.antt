-- Steps of a bucket.
use Rattle.std.proofs.Common.{◌≡◌, refl, sym, ap, subst, ◌∙◌, ℕ, ℤ, pos, ◌+ℤ◌, true, false, ◌&&◌, int_lt, int_le, List, [], find, Some, option_map, unsigned_abs}
use Rattle.std.proofs.lemmas.Bool.{and_parts, and_from}
use Rattle.std.proofs.lemmas.List.Elements.{recursion_from_All}
use Rattle.std.specs.FinMap as map
use Rattle.sqlite_keyed.specs.Lists.{delete_where}
use Rattle.sqlite_keyed.specs.Rules.{AllPass}
use Rattle.sqlite_keyed.proofs.RuleLemmas.{pass_insert, pass_delete}
use Rattle.s3_columns.specs.Columns.{mode_column}
use Rattle.s3_columns.proofs.ColumnLemmas.{versioning_found}
use Rattle.s3_versions.specs.declared.version.Versioning.{Versioning}
use Rattle.s3_versions.specs.declared.version.Versioning.TheVariants.{Unversioned, Enabled, Suspended}
use Rattle.s3_versions.specs.declared.version.VersioningStatus.{VersioningStatus}
use Rattle.s3_versions.specs.Rules.{versioning_set}
use Rattle.s3_records.specs.Catalogue.{is_empty_bucket}
use Rattle.s3_records.specs.Changes.{BucketAdded, BucketDropped, VersioningSet, changed}
use Rattle.s3_rows.specs.Columns.{BucketColumns, Tables}
use Rattle.s3_rows.specs.Finding.{is_named}
use Rattle.s3_rows.specs.Meaning.{bucket_of, catalogue_of}
use Rattle.s3_rows.specs.Soundness.{bucket_row, is_count, is_bucket_row, has_bucket_row, AreSound}
use Rattle.s3_rows.specs.TableChanges.{bucket_added, bucket_dropped, bucket_replaced}
use Rattle.s3_rows.specs.VersionLaws.{Makes}
use Rattle.s3_rows.proofs.BucketLemmas.{rows_add_buckets, rows_drop_buckets, rows_set_versioning}
use Rattle.s3_rows.proofs.EditLemmas.{find_has, find_passes, has_key_left}
use Rattle.s3_rows.proofs.MeaningLemmas.{same_text-true, get-catalogue}
use Rattle.s3_rows.proofs.VersionLawLemmas.{has_bucket-row}
use Rattle.s3_stored_bodies.specs.Numbers.{Contents}
use Rattle.s3_stored_rows.specs.Bodies.{encoding, numbers_named}
use Rattle.s3_stored_rows.specs.Queries.{bucket_named}
use Rattle.s3_row_changes.specs.Trading.{Trades}
use Rattle.s3_row_values.specs.Values.{IsBucketRow}
use Rattle.s3_row_steps.specs.Steps.{AreKept, Steps}
use Rattle.s3_row_steps.proofs.RowidLemmas.{less_next, next_free, rows_later}

-- buckets name no bodies
bucket_trades : (t : Tables) (bs : List BucketColumns) → Trades t (record t { buckets = bs }) [] []
unfolding numbers_named
bucket_trades t bs n = refl

-- the mode of a versioning is in range
mode_fits : (versioning : Versioning) → (is_count (mode_column versioning) && int_le (mode_column versioning) (pos 2)) ≡ true
mode_fits Unversioned = refl
mode_fits Enabled = refl
mode_fits Suspended = refl

-- the row in the place of one where the versioning is set
abbrev pub with_mode : BucketColumns → ℤ → VersioningStatus → BucketColumns
with_mode old row status = record old { row = row; mode = mode_column (versioning_set status) }

-- the name of a bucket that is found
name_found : (t : Tables) (name : List ℕ) (old : BucketColumns) → bucket_named name t ≡ Some old → old.name ≡ name
name_found t name old found = same_text-true old.name name (find_passes (is_named name) t.buckets old found)

-- the row that goes, by its rowid
pub goes_by_row : (t : Tables) (name other : List ℕ) (old : BucketColumns) (gone : ℤ) → bucket_named name t ≡ Some old → other ≡ old.name → gone ≡ old.row
    → option_map bucket_row (bucket_named other t) ≡ Some gone
goes_by_row t name other old gone found same at = ap (option_map bucket_row) (ap (λ n. bucket_named n t) (same ∙ name_found t name old found) ∙ found) ∙ ap Some (sym at)

module _ (t : Tables) (next : ℤ) (k : AreKept next t) where
  kept_added : (bs : List BucketColumns) (row : BucketColumns) → row.row ≡ next → AreSound (bucket_added row (record t { buckets = bs }))
      → AllPass (λ (b : BucketColumns). int_lt b.row (next +ℤ pos 1)) bs → AreKept (next +ℤ pos 1) (bucket_added row (record t { buckets = bs }))
  kept_added bs row is sound below =
      let later = rows_later next t k.rowids in
      record {
        sound = sound;
        rowids = record {
          buckets = pass_insert bucket_row (λ b. int_lt b.row (next +ℤ pos 1)) bs row (less_next next row.row is) below;
          versions = later.versions;
          uploads = later.uploads;
          parts = later.parts;
        };
        small = record { versions = k.small.versions; uploads = k.small.uploads };
      }

  pub steps_added : (u : Tables) (row : BucketColumns) (name : List ℕ) (m : ℕ) → IsBucketRow row next name m Unversioned → has_bucket_row t.buckets name ≡ false → u ≡ bucket_added row t
      → Steps t u (next +ℤ pos 1) name (λ _. BucketAdded m) [] []
  steps_added u row name m is none new =
      let P : Tables → Type 0 = λ w. Steps t w (next +ℤ pos 1) name (λ _. BucketAdded m) [] [] in
      subst P (sym new) (record {
        kept = kept_added t.buckets row is.row_is (makes map.empty).sound (rows_later next t k.rowids).buckets;
        means = λ contents. (makes contents).means ∙ (λ i. changed (catalogue_of (encoding contents) t) (is.name_is i) (BucketAdded (unsigned_abs (is.made_is i))));
        trades = bucket_trades t (bucket_added row t).buckets;
        store = refl;
      })
    where
      makes : (contents : Contents) → Makes (encoding contents) t (bucket_added row t) row.name (BucketAdded (unsigned_abs row.made))
      makes contents =
          rows_add_buckets (encoding contents) t row k.sound is.fits (next_free bucket_row next t.buckets row.row is.row_is k.rowids.buckets)
          (has_bucket-row (encoding contents) t row.name ∙ ap (has_bucket_row t.buckets) is.name_is ∙ none) is.mode_is

  pub steps_dropped : (u : Tables) (name : List ℕ) → has_bucket_row t.buckets name ≡ true → ((contents : Contents) → is_empty_bucket (catalogue_of (encoding contents) t) name ≡ true) → u ≡ bucket_dropped name t
      → Steps t u next name (λ _. BucketDropped) [] []
  steps_dropped u name there empty new =
      let P : Tables → Type 0 = λ w. Steps t w next name (λ _. BucketDropped) [] [] in
      subst P (sym new) (record {
        kept = record {
          sound = (makes map.empty).sound;
          rowids = record {
            buckets = pass_delete (λ b. int_lt b.row next) (is_named name) t.buckets k.rowids.buckets;
            versions = k.rowids.versions;
            uploads = k.rowids.uploads;
            parts = k.rowids.parts;
          };
          small = record { versions = k.small.versions; uploads = k.small.uploads };
        };
        means = λ contents. (makes contents).means;
        trades = bucket_trades t (bucket_dropped name t).buckets;
        store = refl;
      })
    where
      makes : (contents : Contents) → Makes (encoding contents) t (bucket_dropped name t) name BucketDropped
      makes contents = rows_drop_buckets (encoding contents) t name k.sound (has_bucket-row (encoding contents) t name ∙ there) (empty contents)

  pub steps_set : (u : Tables) (old : BucketColumns) (name : List ℕ) (status : VersioningStatus) → bucket_named name t ≡ Some old → u ≡ bucket_replaced (with_mode old next status) t
      → Steps t u (next +ℤ pos 1) name (λ _. VersioningSet status) [] []
  steps_set u old name status found new =
      let P : Tables → Type 0 = λ w. Steps t w (next +ℤ pos 1) name (λ _. VersioningSet status) [] [] in
      subst P (sym new) (record {
        kept = kept_added (delete_where (is_named old.name) t.buckets) row refl (makes map.empty).sound
            (pass_delete (λ b. int_lt b.row (next +ℤ pos 1)) (is_named old.name) t.buckets (rows_later next t k.rowids).buckets);
        means = λ contents. (makes contents).means ∙ ap (λ n. changed (catalogue_of (encoding contents) t) n (VersioningSet status)) named;
        trades = bucket_trades t (bucket_replaced row t).buckets;
        store = refl;
      })
    where
      row : BucketColumns
      row = with_mode old next status

      named : old.name ≡ name
      named = name_found t name old found

      fits : is_bucket_row (with_mode old next status) ≡ true
      fits =
          let before : is_bucket_row old ≡ true = find_has (λ b. is_bucket_row b ≡ true) (is_named name) t.buckets old (recursion_from_All (λ b. is_bucket_row b ≡ true) t.buckets k.sound.buckets.fit) found in
          and_from (is_count old.made) _ (and_parts (is_count old.made) _ before).0 (mode_fits (versioning_set status))

      makes : (contents : Contents) → Makes (encoding contents) t (bucket_replaced (with_mode old next status) t) old.name (VersioningSet status)
      makes contents =
          rows_set_versioning (encoding contents) t (with_mode old next status) status k.sound fits
          (has_key_left bucket_row (is_named old.name) t.buckets next (next_free bucket_row next t.buckets next refl k.rowids.buckets))
          (ap (option_map (λ b. b.made)) (get-catalogue (encoding contents) t old.name ∙ ap (λ n. option_map (bucket_of (encoding contents) t) (find (is_named n) t.buckets)) named ∙ ap (option_map (bucket_of (encoding contents) t)) found))
          (versioning_found (versioning_set status))
