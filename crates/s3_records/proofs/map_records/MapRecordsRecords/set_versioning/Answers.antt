use Rattle.std.proofs.Common.{ap, Some}
use Rattle.s3_records.specs.Changes.{VersioningSet}
use Rattle.s3_records.proofs.CatalogueLemmas.{not_absent, bucket_written}
use Rattle.s3_records.proofs.map_records.MapRecordsRecords.set_versioning.Goals as goal

-- the bucket is there
pub unreachable-requires : goal.unreachable-requires
unreachable-requires c = not_absent c.self.inside.by_name c.args.self.now c.args.name.now c.self.view_is c.in-None.ensures.value c.requires

pub returns-clause-ok : goal.returns-clause-ok
returns-clause-ok c =
    bucket_written c.self.inside.by_name (c.get_mut.follows.lender c.set_versioning.new.self) c.args.self.now c.args.name.now c.in-Some.bucket.now c.set_versioning.new.self (VersioningSet c.args.status) c.self.view_is c.in-Some.ensures.value (c.get_mut.follows.holds c.set_versioning.new.self) (ap Some c.set_versioning.ensures)
