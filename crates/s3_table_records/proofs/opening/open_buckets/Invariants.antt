use Rattle.std.proofs.Common.{◌≡◌, take}
use Rattle.s3_records.specs.Catalogue.{opening}
use Rattle.s3_table_records.proofs.opening.open_buckets.Given as goal

-- the buckets so far are there
abbrev pub invariant-loop-name : goal.invariant-loop-name
invariant-loop-name g l = g.K.Records.catalogue l.records ≡ opening (take l.name-index l.names)
