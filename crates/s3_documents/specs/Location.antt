-- The region of a bucket (Amazon S3 API Reference, GetBucketLocation).
use Rattle.std.specs.Prelude.{ℕ, if◌then◌else◌, List, [], ◌∷◌, codes}
use Rattle.std.specs.Str.{bytes_eq}
use Rattle.s3_documents.specs.Tree.{text, Fields}

-- the constraint that buckets of a region have: its name, and nothing in us-east-1
abbrev pub constraint_told : List ℕ → List ℕ
constraint_told region = if bytes_eq region (codes "us-east-1") then [] else region

-- the same under its name, as a tree has it; it is never told as JSON
abbrev pub location_fields : List ℕ → Fields
location_fields region = (codes "LocationConstraint", text (constraint_told region)) ∷ []
