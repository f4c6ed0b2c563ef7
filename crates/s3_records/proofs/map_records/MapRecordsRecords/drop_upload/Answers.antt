use Rattle.std.proofs.Common.{ap, Some}
use Rattle.s3_records.specs.Changes.{UploadDropped}
use Rattle.s3_records.proofs.CatalogueLemmas.{not_absent, bucket_written}
use Rattle.s3_text.proofs.MapLemmas.{get_by_tree}
use Rattle.s3_records.proofs.map_records.MapRecordsRecords.drop_upload.Goals as goal

-- the bucket is there
pub unreachable-requires : goal.unreachable-requires
unreachable-requires c = not_absent c.self.inside.by_name c.args.self.now c.args.bucket.now c.self.view_is c.in-None.ensures.value c.requires

pub returns-clause-ok : goal.returns-clause-ok
returns-clause-ok c =
    bucket_written c.self.inside.by_name (c.get_mut.follows.lender c.drop_upload.new.self) c.args.self.now c.args.bucket.now c.in-Some.bucket.now c.drop_upload.new.self (UploadDropped c.args.key.now c.args.id) c.self.view_is c.in-Some.ensures.value (c.get_mut.follows.holds c.drop_upload.new.self) (ap Some c.drop_upload.ensures.value)

pub returns-clause-gone : goal.returns-clause-gone
returns-clause-gone c =
    let there = get_by_tree c.self.inside.by_name.entries c.args.self.now c.args.bucket.now (Some c.in-Some.bucket.now) c.self.view_is c.in-Some.ensures.value in
    rw there c.drop_upload.ensures.gone
