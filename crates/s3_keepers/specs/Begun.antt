-- With what records a server begins that goes on with a folder.
use Rattle.std.specs.Prelude.{◌≡◌, ℕ, List, [], ◌∷◌, true, if◌then◌else◌}
use Rattle.std.specs.List.{AllByRecursion}
use Rattle.s3_records.specs.Catalogue.{Catalogue, has_bucket}
use Rattle.s3_records.specs.Changes.{BucketAdded, changed}

-- there is a bucket of each of these names
abbrev pub HasBuckets : List (List ℕ) → Catalogue (List ℕ) → Type 0
HasBuckets names catalogue = AllByRecursion (λ name. has_bucket catalogue name ≡ true) names

-- a catalogue with a bucket of this name, which is made where there is none: unversioned and empty, at moment 0
abbrev pub with_bucket : Catalogue (List ℕ) → List ℕ → Catalogue (List ℕ)
with_bucket catalogue name = if has_bucket catalogue name then catalogue else changed catalogue name (BucketAdded 0)

-- the same with a bucket of each of these names, one after another
abbrev pub with_buckets : List (List ℕ) → Catalogue (List ℕ) → Catalogue (List ℕ)
with_buckets [] catalogue = catalogue
with_buckets (name ∷ names) catalogue = with_buckets names (with_bucket catalogue name)
