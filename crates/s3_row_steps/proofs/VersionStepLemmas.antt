-- Steps of the versions under a key.
use Rattle.std.proofs.Common.{◌≡◌, ◌≢◌, refl, sym, ap, ap₂, subst, ◌∙◌, ℕ, ◌+◌, ◌^◌, ℤ, pos, ◌+ℤ◌, true, false, int_lt, List, [], Option, Some, None, option_map}
use Rattle.std.proofs.lemmas.Bool.{and_parts}
use Rattle.std.specs.FinMap as map
use Rattle.sqlite_keyed.specs.Keyed.{has_key}
use Rattle.sqlite_keyed.specs.Lists.{delete_where}
use Rattle.sqlite_keyed.proofs.KeyedLemmas.{same_int}
use Rattle.sqlite_keyed.proofs.RuleLemmas.{pass_insert, pass_delete}
use Rattle.s3_names.specs.declared.ids.VersionId.{VersionId}
use Rattle.s3_names.specs.declared.ids.VersionId.TheVariants.{Null}
use Rattle.s3_versions.specs.declared.version.Content.TheVariants.{DeleteMarker, Stored}
use Rattle.s3_versions.specs.declared.version.Versioning.{Versioning}
use Rattle.s3_versions.specs.declared.version.Versioning.TheVariants.{Unversioned}
use Rattle.s3_versions.specs.Rules.{KeyChange, VersionPut, KeyDeleted, VersionDropped, is_new_number, made, after_change}
use Rattle.s3_records.specs.Catalogue.{Bucket, Catalogue, versions_at, versions_of, versioning_in, versioning_of}
use Rattle.s3_records.specs.Changes.{Change, KeyChanged, changed, with_versions, bucket_after, with_bucket}
use Rattle.s3_rows.specs.Columns.{VersionColumns, Tables}
use Rattle.s3_rows.specs.Finding.{id_column, is_at, is_version}
use Rattle.s3_rows.specs.Meaning.{catalogue_of}
use Rattle.s3_rows.specs.Soundness.{version_row, has_bucket_row, AreSound}
use Rattle.s3_rows.specs.TableChanges.{version_put, version_dropped}
use Rattle.s3_rows.specs.VersionLaws.{Makes, MayStand}
use Rattle.s3_rows.proofs.EditLemmas.{find_passes, has_key_left}
use Rattle.s3_rows.proofs.VersionLawLemmas.{has_bucket-row, rows_put_versions, rows_mark, rows_drop_versions}
use Rattle.s3_stored_bodies.specs.Numbers.{Contents, times}
use Rattle.s3_stored_rows.specs.Bodies.{encoding, version_numbers, numbers_named}
use Rattle.s3_stored_rows.specs.Queries.{version_of_id}
use Rattle.s3_row_changes.specs.Trading.{numbers_of}
use Rattle.s3_row_changes.proofs.LawLemmas.{version_puts, version_drops}
use Rattle.s3_row_changes.proofs.RowLemmas.{none_dropped}
use Rattle.s3_row_values.specs.declared.described.Described.{Described}
use Rattle.s3_row_values.specs.Values.{data_with, IsPlaced, IsVersionRow, IsMarkerRow}
use Rattle.s3_row_steps.specs.Puts.{IsPut}
use Rattle.s3_row_steps.specs.Steps.{AreKept, Steps}
use Rattle.s3_row_steps.proofs.RowidLemmas.{less_next, next_free, rows_later}

-- the id of a version that is found
pub id_found : (t : Tables) (bucket key : List ℕ) (id : ℤ) (v : VersionColumns) → version_of_id bucket key id t ≡ Some v → v.id ≡ id
id_found t bucket key id v found = same_int v.id id (and_parts (is_at bucket key v) _ (find_passes (is_version bucket key id) t.versions v found)).1

-- where there is none, none is taken out
pub none_goes : (t : Tables) (bucket key : List ℕ) (id : ℤ) → version_of_id bucket key id t ≡ None → t ≡ version_dropped bucket key id t
none_goes t bucket key id none = ap (λ vs. record t { versions = vs }) (sym (none_dropped (is_version bucket key id) t.versions none))

-- in an unversioned bucket, to delete a key is to drop its version `null`
dropped_in : (name : List ℕ) (key : List ℕ) (n m : ℕ) (c : Catalogue (List ℕ)) (o : Option (Bucket (List ℕ))) → versioning_in o ≡ Unversioned
    → with_bucket c name (bucket_after (KeyChanged key (VersionDropped Null)) o) ≡ with_bucket c name (bucket_after (KeyChanged key (KeyDeleted n m)) o)
dropped_in name key n m c None is = refl
dropped_in name key n m c (Some b) is =
    ap (λ versioning. map.insert c name (record b { keys = with_versions b.keys key (after_change versioning (VersionDropped Null) (versions_at b.keys key)) })) is
    ∙ sym (ap (λ versioning. map.insert c name (record b { keys = with_versions b.keys key (after_change versioning (KeyDeleted n m) (versions_at b.keys key)) })) is)

pub null_dropped : (c : Catalogue (List ℕ)) (name key : List ℕ) (n m : ℕ) → versioning_of c name ≡ Unversioned → changed c name (KeyChanged key (VersionDropped Null)) ≡ changed c name (KeyChanged key (KeyDeleted n m))
null_dropped c name key n m is = dropped_in name key n m c (map.get c name) is

-- the row that goes, by its rowid
pub goes_by_row : (t : Tables) (bucket key b k : List ℕ) (id i : ℤ) (v : VersionColumns) → version_of_id bucket key id t ≡ Some v → b ≡ bucket → k ≡ key → i ≡ v.id
    → option_map version_row (version_of_id b k i t) ≡ Some v.row
goes_by_row t bucket key b k id i v found same_bucket same_key same_id =
    ap (option_map version_row) ((λ j. version_of_id (same_bucket j) (same_key j) ((same_id ∙ id_found t bucket key id v found) j) t) ∙ found)

-- a put or a step from the same tables
pub same_put : (t before u : Tables) (row : VersionColumns) (gone : List ℕ) → before ≡ t → IsPut before u row gone → IsPut t u row gone
same_put t before u row gone same put = subst (λ w. IsPut w u row gone) same put

pub same_steps : (t before u : Tables) (next later : ℤ) (bucket : List ℕ) (change : Contents → Change (List ℕ)) (less fewer more : List ℕ) → before ≡ t → later ≡ next → fewer ≡ less
    → Steps before u later bucket change fewer more → Steps t u next bucket change less more
same_steps t before u next later bucket change less fewer more same at gone steps =
    subst (λ l. Steps t u next bucket change l more) gone (subst (λ n. Steps t u n bucket change fewer more) at (subst (λ w. Steps w u later bucket change fewer more) same steps))

-- a step is one where the next rowid is a later one, and where the change does the same
pub steps_later : (t u : Tables) (next : ℤ) (bucket : List ℕ) (change other : Contents → Change (List ℕ)) (less more : List ℕ)
    → ((contents : Contents) → changed (catalogue_of (encoding contents) t) bucket (change contents) ≡ changed (catalogue_of (encoding contents) t) bucket (other contents))
    → Steps t u next bucket change less more → Steps t u (next +ℤ pos 1) bucket other less more
steps_later t u next bucket change other less more same s = record {
  kept = record { sound = s.kept.sound; rowids = rows_later next u s.kept.rowids; small = s.kept.small };
  means = λ contents. s.means contents ∙ same contents;
  trades = s.trades;
  store = s.store;
}

module _ (t : Tables) (next : ℤ) (k : AreKept next t) where
  kept_put : (row : VersionColumns) → AreSound (version_put row t) → row.row ≡ next → int_lt row.id (pos (2 ^ 63)) ≡ true → AreKept (next +ℤ pos 1) (version_put row t)
  kept_put row sound is small =
      let later = rows_later next t k.rowids in
      let test = is_version row.bucket row.key row.id in
      record {
        sound = sound;
        rowids = record {
          buckets = later.buckets;
          versions = pass_insert version_row (λ v. int_lt v.row (next +ℤ pos 1)) (delete_where test t.versions) row (less_next next row.row is) (pass_delete (λ v. int_lt v.row (next +ℤ pos 1)) test t.versions later.versions);
          uploads = later.uploads;
          parts = later.parts;
        };
        small = record {
          versions = pass_insert version_row (λ v. int_lt v.id (pos (2 ^ 63))) (delete_where test t.versions) row small (pass_delete (λ v. int_lt v.id (pos (2 ^ 63))) test t.versions k.small.versions);
          uploads = k.small.uploads;
        };
      }

  module _ (bucket key : List ℕ) (versioning : Versioning) (n : ℕ)
      (told : (contents : Contents) → versioning_of (catalogue_of (encoding contents) t) bucket ≡ versioning)
      (there : has_bucket_row t.buckets bucket ≡ true)
      (newer : (contents : Contents) → is_new_number n (versions_of (catalogue_of (encoding contents) t) bucket key) ≡ true)
      (row : VersionColumns) (placed : IsPlaced row next bucket key versioning n) where
    free : has_key version_row (version_dropped row.bucket row.key row.id t).versions row.row ≡ false
    free = has_key_left version_row (is_version row.bucket row.key row.id) t.versions row.row (next_free version_row next t.versions row.row placed.row_is k.rowids.versions)

    may_stand : (contents : Contents) → MayStand (encoding contents) t row n
    may_stand contents = record {
      fits = placed.fits;
      free = free;
      there = has_bucket-row (encoding contents) t row.bucket ∙ ap (has_bucket_row t.buckets) placed.bucket_is ∙ there;
      newer = ap₂ (λ b q. is_new_number n (versions_of (catalogue_of (encoding contents) t) b q)) placed.bucket_is placed.key_is ∙ newer contents;
    }

    told_here : (contents : Contents) → versioning_of (catalogue_of (encoding contents) t) row.bucket ≡ versioning
    told_here contents = ap (versioning_of (catalogue_of (encoding contents) t)) placed.bucket_is ∙ told contents

    -- the step, where the row makes a change
    steps_row : (u : Tables) (what : Contents → KeyChange (List ℕ)) (gone numbers : List ℕ) → version_numbers row ≡ numbers
        → ((contents : Contents) → Makes (encoding contents) t (version_put row t) row.bucket (KeyChanged row.key (what contents))) → IsPut t u row gone
        → Steps t u (next +ℤ pos 1) bucket (λ contents. KeyChanged key (what contents)) gone numbers
    steps_row u what gone numbers names makes put =
        let P : Tables → Type 0 = λ w. Steps t w (next +ℤ pos 1) bucket (λ contents. KeyChanged key (what contents)) gone numbers in
        subst P (sym put.new_is) (record {
          kept = kept_put row (makes map.empty).sound placed.row_is put.small;
          means = λ contents. (makes contents).means ∙ ap₂ (λ b q. changed (catalogue_of (encoding contents) t) b (KeyChanged q (what contents))) placed.bucket_is placed.key_is;
          trades = λ q. ap (λ l. times q (numbers_named (version_put row t)) + times q l) put.gone_is ∙ version_puts t row k.sound free q ∙ ap (λ l. times q (numbers_named t) + times q l) names;
          store = refl;
        })

    pub steps_put : (u : Tables) (m : ℕ) (d : Described) (gone numbers : List ℕ) → IsVersionRow row next bucket key versioning n m d numbers → IsPut t u row gone
        → Steps t u (next +ℤ pos 1) bucket (λ contents. KeyChanged key (VersionPut n m (data_with contents numbers d))) gone numbers
    steps_put u m d gone numbers is put =
        steps_row u (λ contents. VersionPut n m (data_with contents numbers d)) gone numbers is.names
        (λ contents. rows_put_versions (encoding contents) t row n m (data_with contents numbers d) k.sound (may_stand contents)
        (is.means contents ∙ ap (λ v. made v n m (Stored (data_with contents numbers d))) (sym (told_here contents)))) put

    pub steps_mark : (u : Tables) (m : ℕ) (gone : List ℕ) → versioning ≢ Unversioned → IsMarkerRow row next bucket key versioning n m → IsPut t u row gone
        → Steps t u (next +ℤ pos 1) bucket (λ _. KeyChanged key (KeyDeleted n m)) gone []
    steps_mark u m gone versioned is put =
        steps_row u (λ _. KeyDeleted n m) gone [] is.names
        (λ contents. rows_mark (encoding contents) t row n m k.sound (may_stand contents) (λ unversioned. versioned (sym (told_here contents) ∙ unversioned))
        (is.means contents ∙ ap (λ v. made v n m DeleteMarker) (sym (told_here contents)))) put

  -- the row of the version of an id is taken out
  pub steps_drop : (u : Tables) (bucket key : List ℕ) (id : VersionId) → u ≡ version_dropped bucket key (id_column id) t
      → Steps t u next bucket (λ _. KeyChanged key (VersionDropped id)) (numbers_of version_numbers (version_of_id bucket key (id_column id) t)) []
  steps_drop u bucket key id new =
      let P : Tables → Type 0 = λ w. Steps t w next bucket (λ _. KeyChanged key (VersionDropped id)) (numbers_of version_numbers (version_of_id bucket key (id_column id) t)) [] in
      let makes : (contents : Contents) → Makes (encoding contents) t (version_dropped bucket key (id_column id) t) bucket (KeyChanged key (VersionDropped id)) =
      λ contents. rows_drop_versions (encoding contents) t bucket key id k.sound in
      let test = is_version bucket key (id_column id) in
      subst P (sym new) (record {
        kept = record {
          sound = (makes map.empty).sound;
          rowids = record {
            buckets = k.rowids.buckets;
            versions = pass_delete (λ v. int_lt v.row next) test t.versions k.rowids.versions;
            uploads = k.rowids.uploads;
            parts = k.rowids.parts;
          };
          small = record { versions = pass_delete (λ v. int_lt v.id (pos (2 ^ 63))) test t.versions k.small.versions; uploads = k.small.uploads };
        };
        means = λ contents. (makes contents).means;
        trades = version_drops t bucket key (id_column id) k.sound;
        store = refl;
      })
