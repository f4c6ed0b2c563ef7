use Rattle.std.proofs.Common.{◌≡◌, take}
use Rattle.s3_records.specs.Catalogue.{opening}
use Rattle.s3_records.proofs.map_records.MapRecords.of_buckets.Given as goal

-- the buckets so far are there
abbrev pub invariant-loop-name : goal.invariant-loop-name
invariant-loop-name l = l.records ≡ opening (take l.name-index l.names)
