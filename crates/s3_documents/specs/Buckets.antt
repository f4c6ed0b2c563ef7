-- The list of buckets (Amazon S3 API Reference, ListBuckets).
use Rattle.std.specs.Prelude.{List, [], ◌∷◌, map, codes}
use Rattle.s3_records.specs.declared.records.ListedBucket.{ListedBucket}
use Rattle.s3_documents.specs.Tree.{text, moment, Fields, rows, Tree}

-- a bucket's row: when it was made, and its name
abbrev pub bucket_row : ListedBucket → Fields
bucket_row bucket = (codes "CreationDate", moment bucket.made) ∷ (codes "Name", text bucket.name) ∷ []

-- the rows of the buckets, in their order
abbrev pub buckets_tree : List ListedBucket → Tree
buckets_tree buckets = (codes "Buckets", rows (map bucket_row buckets)) ∷ []
