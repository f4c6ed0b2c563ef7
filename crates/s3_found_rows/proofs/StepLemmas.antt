-- A row that is put while a table is filled.
use Rattle.std.proofs.Common.{◌≡◌, sym, ap, subst, ℤ, List, [], ◌∷◌, ◌++◌}
use Rattle.s3_rows.specs.Columns.{BucketColumns, VersionColumns, UploadColumns, PartColumns, Tables}
use Rattle.s3_rows.specs.Soundness.{bucket_row, version_row, upload_row, part_row, is_bucket_row}
use Rattle.s3_found_rows.specs.Order.{IsFilled}
use Rattle.s3_found_rows.specs.Fitting.{version_fits, upload_fits, part_fits}
use Rattle.s3_found_rows.proofs.AlongLemmas.{IsAlong, along_step}

module _ (first now : Tables) (so : now ≡ record first { buckets = now.buckets }) where
  pub bucket_along : (last row : ℤ) (new : Tables) (x : BucketColumns) (found left rest : List BucketColumns) → row ≡ x.row → IsAlong bucket_row is_bucket_row found last now.buckets left → left ≡ x ∷ rest
      → new ≡ record now { buckets = now.buckets ++ x ∷ [] } → IsFilled bucket_row x.row is_bucket_row (now.buckets ++ x ∷ []) → IsAlong bucket_row is_bucket_row found row new.buckets rest
  bucket_along last row new x found left rest its along step put filled =
      subst (λ (r : ℤ). IsAlong bucket_row is_bucket_row found r new.buckets rest) (sym its)
      (along_step bucket_row is_bucket_row found last now.buckets left x new.buckets rest along step (ap (λ (t : Tables). t.buckets) put) filled)

module _ (first now : Tables) (so : now ≡ record first { versions = now.versions }) where
  pub version_before : (number last : ℤ) → IsFilled version_row last (version_fits number first.buckets) now.versions → IsFilled version_row last (version_fits number now.buckets) now.versions
  version_before number last filled = subst (λ (l : List BucketColumns). IsFilled version_row last (version_fits number l) now.versions) (sym (ap (λ (t : Tables). t.buckets) so)) filled

  pub version_along : (number last row : ℤ) (new : Tables) (x : VersionColumns) (found left rest : List VersionColumns) → row ≡ x.row → IsAlong version_row (version_fits number first.buckets) found last now.versions left → left ≡ x ∷ rest
      → new ≡ record now { versions = now.versions ++ x ∷ [] } → IsFilled version_row x.row (version_fits number now.buckets) (now.versions ++ x ∷ []) → IsAlong version_row (version_fits number first.buckets) found row new.versions rest
  version_along number last row new x found left rest its along step put filled =
      subst (λ (r : ℤ). IsAlong version_row (version_fits number first.buckets) found r new.versions rest) (sym its)
      (along_step version_row (version_fits number first.buckets) found last now.versions left x new.versions rest along step (ap (λ (t : Tables). t.versions) put) (subst (λ (l : List BucketColumns). IsFilled version_row x.row (version_fits number l) (now.versions ++ x ∷ [])) (ap (λ (t : Tables). t.buckets) so) filled))

module _ (first now : Tables) (so : now ≡ record first { uploads = now.uploads }) where
  pub upload_before : (number last : ℤ) → IsFilled upload_row last (upload_fits number first.buckets) now.uploads → IsFilled upload_row last (upload_fits number now.buckets) now.uploads
  upload_before number last filled = subst (λ (l : List BucketColumns). IsFilled upload_row last (upload_fits number l) now.uploads) (sym (ap (λ (t : Tables). t.buckets) so)) filled

  pub upload_along : (number last row : ℤ) (new : Tables) (x : UploadColumns) (found left rest : List UploadColumns) → row ≡ x.row → IsAlong upload_row (upload_fits number first.buckets) found last now.uploads left → left ≡ x ∷ rest
      → new ≡ record now { uploads = now.uploads ++ x ∷ [] } → IsFilled upload_row x.row (upload_fits number now.buckets) (now.uploads ++ x ∷ []) → IsAlong upload_row (upload_fits number first.buckets) found row new.uploads rest
  upload_along number last row new x found left rest its along step put filled =
      subst (λ (r : ℤ). IsAlong upload_row (upload_fits number first.buckets) found r new.uploads rest) (sym its)
      (along_step upload_row (upload_fits number first.buckets) found last now.uploads left x new.uploads rest along step (ap (λ (t : Tables). t.uploads) put) (subst (λ (l : List BucketColumns). IsFilled upload_row x.row (upload_fits number l) (now.uploads ++ x ∷ [])) (ap (λ (t : Tables). t.buckets) so) filled))

module _ (first now : Tables) (so : now ≡ record first { parts = now.parts }) where
  pub part_before : (last : ℤ) → IsFilled part_row last (part_fits first.uploads) now.parts → IsFilled part_row last (part_fits now.uploads) now.parts
  part_before last filled = subst (λ (l : List UploadColumns). IsFilled part_row last (part_fits l) now.parts) (sym (ap (λ (t : Tables). t.uploads) so)) filled

  pub part_along : (last row : ℤ) (new : Tables) (x : PartColumns) (found left rest : List PartColumns) → row ≡ x.row → IsAlong part_row (part_fits first.uploads) found last now.parts left → left ≡ x ∷ rest
      → new ≡ record now { parts = now.parts ++ x ∷ [] } → IsFilled part_row x.row (part_fits now.uploads) (now.parts ++ x ∷ []) → IsAlong part_row (part_fits first.uploads) found row new.parts rest
  part_along last row new x found left rest its along step put filled =
      subst (λ (r : ℤ). IsAlong part_row (part_fits first.uploads) found r new.parts rest) (sym its)
      (along_step part_row (part_fits first.uploads) found last now.parts left x new.parts rest along step (ap (λ (t : Tables). t.parts) put) (subst (λ (l : List UploadColumns). IsFilled part_row x.row (part_fits l) (now.parts ++ x ∷ [])) (ap (λ (t : Tables). t.uploads) so) filled))
