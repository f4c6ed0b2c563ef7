use Rattle.std.proofs.Common.{◌≡◌, ◌++◌, map}
use Rattle.s3_records.specs.Catalogue.{listed_bucket}
use Rattle.s3_records.proofs.listing.bucket_rows.Given as goal

-- the rows so far, and those of the buckets that are left, are all
abbrev pub invariant-loop-name : goal.invariant-loop-name
invariant-loop-name l = l.rows.items ++ map listed_bucket l.name-iterator ≡ map listed_bucket l.buckets.entries
