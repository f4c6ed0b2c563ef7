use Rattle.std.proofs.Common.{ap, Some}
use Rattle.s3_records.specs.Changes.{UploadAdded}
use Rattle.s3_records.proofs.CatalogueLemmas.{not_absent, bucket_written}
use Rattle.s3_records.proofs.KeyLemmas.{then_ok, then_err, left}
use Rattle.s3_records.proofs.map_records.MapRecordsRecords.add_upload.Goals as goal

-- the bucket is there
pub unreachable-requires : goal.unreachable-requires
unreachable-requires c = not_absent c.self.inside.by_name c.args.self.now c.args.bucket.now c.self.view_is c.in-None.ensures.value c.requires.there

pub returns-clause-ok : goal.returns-clause-ok
returns-clause-ok c =
    then_ok c.add_upload.result (λ is. bucket_written c.self.inside.by_name (c.get_mut.follows.lender c.add_upload.new.self) c.args.self.now c.args.bucket.now c.in-Some.bucket.now c.add_upload.new.self (UploadAdded c.args.key c.args.id c.args.upload) c.self.view_is c.in-Some.ensures.value (c.get_mut.follows.holds c.add_upload.new.self) (ap Some is)) c.add_upload.ensures.ok

pub returns-clause-err : goal.returns-clause-err
returns-clause-err c =
    then_err c.add_upload.result (left c.self.inside.by_name (c.get_mut.follows.lender c.add_upload.new.self) c.args.self.now c.args.bucket.now c.in-Some.bucket.now c.add_upload.new.self c.self.view_is c.in-Some.ensures.value (c.get_mut.follows.holds c.add_upload.new.self)) c.add_upload.ensures.err
