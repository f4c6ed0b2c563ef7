-- One table that grows, and the others that stay.
use Rattle.std.proofs.Common.{◌≡◌, sym, ap, ◌∙◌, List, ◌++◌}
use Rattle.s3_rows.specs.Columns.{BucketColumns, VersionColumns, UploadColumns, PartColumns, Tables}

pub buckets_grow : (t now new : Tables) (xs : List BucketColumns) → now ≡ record t { buckets = now.buckets } → new ≡ record now { buckets = now.buckets ++ xs } → new ≡ record t { buckets = new.buckets }
buckets_grow t now new xs so put = put ∙ ap (λ (u : Tables). record u { buckets = now.buckets ++ xs }) so ∙ ap (λ l. record t { buckets = l }) (sym (ap (λ (u : Tables). u.buckets) put))

-- and these rows of it are all, where they were found
pub buckets_end : (t now : Tables) (xs : List BucketColumns) → now ≡ record t { buckets = now.buckets } → now.buckets ≡ xs → now ≡ record t { buckets = xs }
buckets_end t now xs so is = so ∙ ap (λ l. record t { buckets = l }) is

pub versions_grow : (t now new : Tables) (xs : List VersionColumns) → now ≡ record t { versions = now.versions } → new ≡ record now { versions = now.versions ++ xs } → new ≡ record t { versions = new.versions }
versions_grow t now new xs so put = put ∙ ap (λ (u : Tables). record u { versions = now.versions ++ xs }) so ∙ ap (λ l. record t { versions = l }) (sym (ap (λ (u : Tables). u.versions) put))

-- and these rows of it are all, where they were found
pub versions_end : (t now : Tables) (xs : List VersionColumns) → now ≡ record t { versions = now.versions } → now.versions ≡ xs → now ≡ record t { versions = xs }
versions_end t now xs so is = so ∙ ap (λ l. record t { versions = l }) is

pub uploads_grow : (t now new : Tables) (xs : List UploadColumns) → now ≡ record t { uploads = now.uploads } → new ≡ record now { uploads = now.uploads ++ xs } → new ≡ record t { uploads = new.uploads }
uploads_grow t now new xs so put = put ∙ ap (λ (u : Tables). record u { uploads = now.uploads ++ xs }) so ∙ ap (λ l. record t { uploads = l }) (sym (ap (λ (u : Tables). u.uploads) put))

-- and these rows of it are all, where they were found
pub uploads_end : (t now : Tables) (xs : List UploadColumns) → now ≡ record t { uploads = now.uploads } → now.uploads ≡ xs → now ≡ record t { uploads = xs }
uploads_end t now xs so is = so ∙ ap (λ l. record t { uploads = l }) is

pub parts_grow : (t now new : Tables) (xs : List PartColumns) → now ≡ record t { parts = now.parts } → new ≡ record now { parts = now.parts ++ xs } → new ≡ record t { parts = new.parts }
parts_grow t now new xs so put = put ∙ ap (λ (u : Tables). record u { parts = now.parts ++ xs }) so ∙ ap (λ l. record t { parts = l }) (sym (ap (λ (u : Tables). u.parts) put))

-- and these rows of it are all, where they were found
pub parts_end : (t now : Tables) (xs : List PartColumns) → now ≡ record t { parts = now.parts } → now.parts ≡ xs → now ≡ record t { parts = xs }
parts_end t now xs so is = so ∙ ap (λ l. record t { parts = l }) is
