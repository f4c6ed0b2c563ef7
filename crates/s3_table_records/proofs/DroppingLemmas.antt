-- What is kept after versions are dropped, and after several deletions.
use Rattle.std.proofs.Common.{◌≡◌, refl, sym, ap, ◌∙◌, ℕ, ℤ, pos, ◌<◌, ◌≤◌, ◌^◌, true, List, [], int_lt, Some, SFits, w64, arith}
use Rattle.std.specs.Prelude.{All, Ok, Option}
use Rattle.std.proofs.lemmas.Int.{ints}
use Rattle.sqlite_keyed.proofs.RuleLemmas.{pass_insert, pass_delete}
use Rattle.s3_names.specs.declared.ids.VersionId.{VersionId}
use Rattle.s3_deletions.specs.declared.named.NamedObject.{NamedObject}
use Rattle.s3_rows.specs.Columns.{VersionColumns, Tables}
use Rattle.s3_rows.specs.Finding.{is_version}
use Rattle.s3_rows.specs.Soundness.{version_row, upload_row}
use Rattle.s3_stored_bodies.specs.Numbers.{Contents, times, named_less, KeepsNamed}
use Rattle.s3_stored_rows.specs.Bodies.{version_numbers, numbers_named}
use Rattle.s3_stored_rows.specs.Changes.{version_columns, upload_columns, without_row, changed_by, after_all}
use Rattle.s3_stored_rows.specs.Queries.{version_of_id}
use Rattle.s3_stored_rows.specs.declared.rows.StoredVersion.{StoredVersion}
use Rattle.s3_stored_rows.specs.declared.rows.StoredUpload.{StoredUpload}
use Rattle.s3_stored_rows.specs.declared.rows.TableName.{TableName}
use Rattle.s3_stored_rows.specs.declared.rows.TableName.TheVariants.{Buckets, Versions, Uploads, Parts, Store}
use Rattle.s3_stored_rows.specs.declared.change.Change.{Change}
use Rattle.s3_stored_rows.specs.declared.change.Change.TheVariants.{AddBucket, AddVersion, AddUpload, AddPart, AddStore, DropRow}
use Rattle.s3_row_changes.specs.Trading.{Trades}
use Rattle.s3_row_deletions.specs.Deletions.{AreDeletions}
use Rattle.s3_row_deletions.specs.declared.deletions.Deletions.{Deletions}
use Rattle.s3_row_steps.specs.Steps.{HaveSmallIds}
use Rattle.s3_table_records.specs.Kept.{kept, IsKept, Deletes}
use Rattle.s3_table_records.proofs.KeptLemmas.{AreNamed, none_more, named_after, kept_catalogue}
use Rattle.s3_table_records.proofs.CountedLemmas.{IsAmong, versions_counted, found_has, all_counted}

-- the numbers that go were counted
pub dropped_counted : (old new : Tables) (uses : ℕ → ℕ) (less : List ℕ) → AreNamed uses old → Trades old new less [] → (n : ℕ) → times n less ≤ uses n
dropped_counted old new uses less named trades n = omega (arith, named n, trades n)

-- the numbers of a version's row are counted
pub version_counted : (t : Tables) (uses : ℕ → ℕ) → AreNamed uses t → (bucket key : List ℕ) (id : ℤ) (v : VersionColumns) → version_of_id bucket key id t ≡ Some v → All (λ n. 0 < uses n) (version_numbers v)
version_counted t uses named bucket key id v found =
    all_counted uses (numbers_named t) (version_numbers v) named
    (rw found at (found_has (λ v. IsAmong (version_numbers v) (numbers_named t)) (is_version bucket key id) t.versions (versions_counted t)))

-- rows changed by several deletions, and what they no more name went
module _ (t : Tables) (c : Contents) (u : ℕ → ℕ) (next : ℤ) (before : IsKept (kept t c u next)) (bucket : List ℕ) (n m : ℕ) (objects : List NamedObject) (d : Deletions) (are : AreDeletions t bucket n m objects d) where
  module _ (e : Contents) (v : ℕ → ℕ) (is : v ≡ named_less d.gone.items u) where
    -- each number is counted as often as rows still name it
    still_counted : AreNamed v (after_all d.changes.items t)
    still_counted q = ap (λ uses. uses q) (is ∙ ap (named_less d.gone.items) (sym (none_more u))) ∙ named_after t (after_all d.changes.items t) u d.gone.items [] before.named are.trades q

    -- the objects are deleted, and the same by the values that a call answers
    deleted : HaveSmallIds (after_all d.changes.items t) → KeepsNamed v c e → Deletes (kept t c u next) (kept (after_all d.changes.items t) e v d.next) bucket n m objects (Ok d.markers.items)
    deleted small keeps =
        record {
          kept = record { rows = record { sound = are.sound; rowids = are.rowids; small = small }; named = still_counted };
          ok = kept_catalogue c e v (after_all d.changes.items t) still_counted keeps ∙ are.means c;
          markers = are.told c;
          err = cc;
          store = are.store;
        }

    pub is_all_deleted : HaveSmallIds (after_all d.changes.items t) → KeepsNamed v c e → (new : Tables) (later : ℤ) (markers : List (Option VersionId))
        → new ≡ after_all d.changes.items t → later ≡ d.next → markers ≡ d.markers.items
        → Deletes (kept t c u next) (kept new e v later) bucket n m objects (Ok markers)
    is_all_deleted small keeps new later markers tables rowid told = rw (tables, rowid, told) (deleted small keeps)

-- ---- ids that stay small

module _ (t : Tables) (small : HaveSmallIds t) where
  -- a row of a version comes, or one of an upload, and its id is a number of 64 bits
  pub small_version : (v : StoredVersion) → SFits w64 v.id → HaveSmallIds (changed_by (AddVersion v) t)
  small_version v fits =
      let new : int_lt v.id (pos (2 ^ 63)) ≡ true = grind (arith, ints) in
      record { versions = pass_insert version_row (λ v. int_lt v.id (pos (2 ^ 63))) t.versions (version_columns v) new small.versions; uploads = small.uploads }

  pub small_upload : (u : StoredUpload) → SFits w64 u.id → HaveSmallIds (changed_by (AddUpload u) t)
  small_upload u fits =
      let new : int_lt u.id (pos (2 ^ 63)) ≡ true = grind (arith, ints) in
      record { versions = small.versions; uploads = pass_insert upload_row (λ u. int_lt u.id (pos (2 ^ 63))) t.uploads (upload_columns u) new small.uploads }

  -- neither comes
  small_without : (table : TableName) (row : ℤ) → HaveSmallIds (without_row table row t)
  small_without Buckets row = record { versions = small.versions; uploads = small.uploads }
  small_without Versions row = record { versions = pass_delete (λ v. int_lt v.id (pos (2 ^ 63))) _ t.versions small.versions; uploads = small.uploads }
  small_without Uploads row = record { versions = small.versions; uploads = pass_delete (λ u. int_lt u.id (pos (2 ^ 63))) _ t.uploads small.uploads }
  small_without Parts row = record { versions = small.versions; uploads = small.uploads }
  small_without Store row = record { versions = small.versions; uploads = small.uploads }

  pub small_other : (change : Change) → ((v : StoredVersion) → change ≡ AddVersion v → ⊥) → ((u : StoredUpload) → change ≡ AddUpload u → ⊥) → HaveSmallIds (changed_by change t)
  small_other (AddBucket b) no_version no_upload = record { versions = small.versions; uploads = small.uploads }
  small_other (AddVersion v) no_version no_upload = absurd (no_version v refl)
  small_other (AddUpload u) no_version no_upload = absurd (no_upload u refl)
  small_other (AddPart p) no_version no_upload = record { versions = small.versions; uploads = small.uploads }
  small_other (AddStore s) no_version no_upload = record { versions = small.versions; uploads = small.uploads }
  small_other (DropRow table row) no_version no_upload = small_without table row
