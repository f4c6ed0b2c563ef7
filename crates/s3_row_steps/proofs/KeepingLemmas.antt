-- Rowids and ids after rows were put in and taken out.
use Rattle.std.proofs.Common.{◌≡◌, ◌^◌, ℕ, ℤ, pos, true, List, filter, int_lt, SFits, w64, arith}
use Rattle.std.proofs.lemmas.Int.{ints}
use Rattle.sqlite_keyed.specs.Lists.{delete_where}
use Rattle.sqlite_keyed.proofs.RuleLemmas.{pass_insert, pass_delete}
use Rattle.s3_rows.specs.Columns.{VersionColumns, UploadColumns, PartColumns, Tables}
use Rattle.s3_rows.specs.Finding.{is_version, is_upload, is_part}
use Rattle.s3_rows.specs.Soundness.{version_row, upload_row, part_row}
use Rattle.s3_rows.specs.TableChanges.{version_put, is_sent_to_any, upload_dropped, upload_added, parts_left, part_put}
use Rattle.s3_stored_rows.specs.Rowids.{AreRowsBelow}
use Rattle.s3_row_steps.specs.Steps.{HaveSmallIds}

-- a number of 64 bits
pub small_id : (id : ℤ) → SFits w64 id → int_lt id (pos (2 ^ 63)) ≡ true
small_id id fits = grind (arith, ints)

module _ (t : Tables) where
  module _ (next : ℤ) (below : AreRowsBelow next t) where
    pub below-version_put : (row : VersionColumns) → int_lt row.row next ≡ true → AreRowsBelow next (version_put row t)
    below-version_put row new = record {
      buckets = below.buckets;
      versions = pass_insert version_row (λ v. int_lt v.row next) (delete_where (is_version row.bucket row.key row.id) t.versions) row new
          (pass_delete (λ v. int_lt v.row next) (is_version row.bucket row.key row.id) t.versions below.versions);
      uploads = below.uploads;
      parts = below.parts;
    }

    pub below-upload_dropped : (bucket key : List ℕ) (id : ℤ) → AreRowsBelow next (upload_dropped bucket key id t)
    below-upload_dropped bucket key id = record {
      buckets = below.buckets;
      versions = below.versions;
      uploads = pass_delete (λ u. int_lt u.row next) (is_upload bucket key id) t.uploads below.uploads;
      parts = pass_delete (λ p. int_lt p.row next) (is_sent_to_any (filter (is_upload bucket key id) t.uploads)) t.parts below.parts;
    }

    pub below-upload_added : (row : UploadColumns) → int_lt row.row next ≡ true → AreRowsBelow next (upload_added row t)
    below-upload_added row new = record {
      buckets = below.buckets;
      versions = below.versions;
      uploads = pass_insert upload_row (λ u. int_lt u.row next) t.uploads row new below.uploads;
      parts = below.parts;
    }

    pub below-part_put : (row : PartColumns) → int_lt row.row next ≡ true → AreRowsBelow next (part_put row t)
    below-part_put row new = record {
      buckets = below.buckets;
      versions = below.versions;
      uploads = below.uploads;
      parts = pass_insert part_row (λ p. int_lt p.row next) (parts_left row t) row new
          (pass_delete (λ p. int_lt p.row next) (is_part row.upload row.part) t.parts below.parts);
    }

  module _ (small : HaveSmallIds t) where
    pub small-version_put : (row : VersionColumns) → int_lt row.id (pos (2 ^ 63)) ≡ true → HaveSmallIds (version_put row t)
    small-version_put row new = record {
      versions = pass_insert version_row (λ v. int_lt v.id (pos (2 ^ 63))) (delete_where (is_version row.bucket row.key row.id) t.versions) row new
          (pass_delete (λ v. int_lt v.id (pos (2 ^ 63))) (is_version row.bucket row.key row.id) t.versions small.versions);
      uploads = small.uploads;
    }

    pub small-upload_dropped : (bucket key : List ℕ) (id : ℤ) → HaveSmallIds (upload_dropped bucket key id t)
    small-upload_dropped bucket key id = record {
      versions = small.versions;
      uploads = pass_delete (λ u. int_lt u.id (pos (2 ^ 63))) (is_upload bucket key id) t.uploads small.uploads;
    }

    pub small-upload_added : (row : UploadColumns) → int_lt row.id (pos (2 ^ 63)) ≡ true → HaveSmallIds (upload_added row t)
    small-upload_added row new = record {
      versions = small.versions;
      uploads = pass_insert upload_row (λ u. int_lt u.id (pos (2 ^ 63))) t.uploads row new small.uploads;
    }

    pub small-part_put : (row : PartColumns) → HaveSmallIds (part_put row t)
    small-part_put row = record { versions = small.versions; uploads = small.uploads }
