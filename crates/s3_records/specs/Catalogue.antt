-- The catalogue: which buckets there are, and the versions and the open uploads under their keys (Amazon S3 User Guide,
-- "Buckets overview", "Using versioning in S3 buckets" and "Using multipart upload"). What stands for the bytes is left open: in the state of a server it is the
-- bytes themselves.
use Rattle.std.specs.Prelude.{◌≢◌, ℕ, ◌==◌, ◌&&◌, Bool, true, List, [], ◌∷◌, map as each, Option, Some, None, is_some, option_and_then, option_map}
use Rattle.std.specs.FinMap as map
use Rattle.std.specs.Ordering.{nat_cmp}
use Rattle.s3_text.specs.Order.{byte_order}
use Rattle.s3_names.specs.declared.ids.VersionId.{VersionId}
use Rattle.s3_versions.specs.Rules.{asked_for, stored}
use Rattle.s3_versions.specs.declared.version.Data.{Data}
use Rattle.s3_versions.specs.declared.version.Version.{Version}
use Rattle.s3_versions.specs.declared.version.Versioning.{Versioning}
use Rattle.s3_versions.specs.declared.version.Versioning.TheVariants.{Unversioned}
use Rattle.s3_uploads.specs.declared.upload.Upload.{Upload}
use Rattle.s3_records.specs.declared.records.BucketFacts.{BucketFacts}
use Rattle.s3_records.specs.declared.records.ListedBucket.{ListedBucket}

-- the versions, newest first, under each key that has some
abbrev pub Keys : Type 0 → Type 0
Keys B = map.FinMap byte_order (List (Version B))

-- the uploads that were begun to a key and aren't completed, by their ids: the numbers of the entries that began them
abbrev pub KeyUploads : Type 0 → Type 0
KeyUploads B = map.FinMap nat_cmp (Upload B)

-- those to each key that has some
abbrev pub Uploads : Type 0 → Type 0
Uploads B = map.FinMap byte_order (KeyUploads B)

-- a bucket: when it was made, its versioning, its keys, and its uploads
pub record Bucket (B : Type 0) : Type 0 where
  pub made : ℕ
  pub versioning : Versioning
  pub keys : Keys B
  pub uploads : Uploads B

-- the buckets, by their names
abbrev pub Catalogue : Type 0 → Type 0
Catalogue B = map.FinMap byte_order (Bucket B)

-- a bucket that is made at moment t: unversioned, with nothing in it
abbrev pub new_bucket : {B : Type 0} → ℕ → Bucket B
new_bucket t = record { made = t; versioning = Unversioned; keys = map.empty; uploads = map.empty }

-- the opening catalogue: the named buckets, made at moment 0
abbrev pub opening : {B : Type 0} → List (List ℕ) → Catalogue B
opening [] = map.empty
opening (name ∷ names) = map.insert (opening names) name (new_bucket 0)

-- there is a bucket of this name
abbrev pub has_bucket : {B : Type 0} → Catalogue B → List ℕ → Bool
has_bucket c name = is_some (map.get c name)

-- what is told of a bucket
abbrev pub facts_of : {B : Type 0} → Bucket B → BucketFacts
facts_of b = record { made = b.made; versioning = b.versioning }

abbrev pub facts_in : {B : Type 0} → Catalogue B → List ℕ → Option BucketFacts
facts_in c name = option_map facts_of (map.get c name)

-- all buckets, by name in the order of bytes
abbrev pub listed_bucket : {B : Type 0} → List ℕ × Bucket B → ListedBucket
listed_bucket e = record { name = e.0; made = e.1.made }

abbrev pub listed_buckets : {B : Type 0} → Catalogue B → List ListedBucket
listed_buckets c = each listed_bucket (map.entries c)

-- the versions that were found under a key: a key that is not there has none
abbrev pub found_versions : {B : Type 0} → Option (List (Version B)) → List (Version B)
found_versions None = []
found_versions (Some vs) = vs

-- the versions under a key
abbrev pub versions_at : {B : Type 0} → Keys B → List ℕ → List (Version B)
versions_at keys key = found_versions (map.get keys key)

-- the same, in a bucket that is there or not
abbrev pub versions_in : {B : Type 0} → Option (Bucket B) → List ℕ → List (Version B)
versions_in None key = []
versions_in (Some b) key = versions_at b.keys key

abbrev pub versions_of : {B : Type 0} → Catalogue B → List ℕ → List ℕ → List (Version B)
versions_of c name key = versions_in (map.get c name) key

-- the bytes of the version under a key that is asked for, where it is no delete marker
abbrev pub bytes_asked : {B : Type 0} → Catalogue B → List ℕ → List ℕ → Option VersionId → Option B
bytes_asked {B} c name key asked =
    option_map (λ (what : Data B). what.body) (option_and_then stored (asked_for asked (versions_of c name key)))

-- a key that is there has some
abbrev pub HaveVersions : {B : Type 0} → Keys B → Type 0
HaveVersions keys = (key : List ℕ) → map.get keys key ≢ Some []

-- a bucket's versioning
abbrev pub versioning_in : {B : Type 0} → Option (Bucket B) → Versioning
versioning_in None = Unversioned
versioning_in (Some b) = b.versioning

abbrev pub versioning_of : {B : Type 0} → Catalogue B → List ℕ → Versioning
versioning_of c name = versioning_in (map.get c name)

-- no key has a version
abbrev pub has_no_keys : {B : Type 0} → Keys B → Bool
has_no_keys keys = map.len keys == 0

-- to no key an upload is open
abbrev pub has_no_uploads : {B : Type 0} → Uploads B → Bool
has_no_uploads uploads = map.len uploads == 0

-- nothing is in the bucket
abbrev pub is_empty_in : {B : Type 0} → Option (Bucket B) → Bool
is_empty_in None = true
is_empty_in (Some b) = has_no_keys b.keys && has_no_uploads b.uploads

abbrev pub is_empty_bucket : {B : Type 0} → Catalogue B → List ℕ → Bool
is_empty_bucket c name = is_empty_in (map.get c name)
