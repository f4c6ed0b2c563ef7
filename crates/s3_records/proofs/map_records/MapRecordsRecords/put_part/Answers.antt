use Rattle.std.proofs.Common.{ap, subst, IsTrue, Some, is_some}
use Rattle.s3_uploads.specs.Parts.{part_at}
use Rattle.s3_records.specs.Changes.{PartPut}
use Rattle.s3_records.specs.OpenUploads.{upload_in, parts_sent}
use Rattle.s3_records.proofs.CatalogueLemmas.{not_absent, bucket_written}
use Rattle.s3_records.proofs.KeyLemmas.{then_ok, then_err, left}
use Rattle.s3_text.proofs.MapLemmas.{get_by_tree}
use Rattle.s3_records.proofs.map_records.MapRecordsRecords.put_part.Goals as goal

-- the bucket is there
pub unreachable-requires : goal.unreachable-requires
unreachable-requires c = not_absent c.self.inside.by_name c.args.self.now c.args.bucket.now c.self.view_is c.in-None.ensures.value c.requires.there

pub put_part-requires : goal.put_part-requires
put_part-requires c =
    let there = get_by_tree c.self.inside.by_name.entries c.args.self.now c.args.bucket.now (Some c.in-Some.bucket.now) c.self.view_is c.in-Some.ensures.value in
    subst (λ found. IsTrue (is_some (upload_in found c.args.key.now c.args.id))) there c.requires.begun

pub returns-clause-ok : goal.returns-clause-ok
returns-clause-ok c =
    then_ok c.put_part.result (λ is. bucket_written c.self.inside.by_name (c.get_mut.follows.lender c.put_part.new.self) c.args.self.now c.args.bucket.now c.in-Some.bucket.now c.put_part.new.self (PartPut c.args.key.now c.args.id c.args.number c.args.part) c.self.view_is c.in-Some.ensures.value (c.get_mut.follows.holds c.put_part.new.self) (ap Some is)) c.put_part.ensures.ok

pub returns-clause-former : goal.returns-clause-former
returns-clause-former c =
    let there = get_by_tree c.self.inside.by_name.entries c.args.self.now c.args.bucket.now (Some c.in-Some.bucket.now) c.self.view_is c.in-Some.ensures.value in
    rw (ap (λ found. part_at c.args.number (parts_sent (upload_in found c.args.key.now c.args.id))) there) c.put_part.ensures.former

pub returns-clause-err : goal.returns-clause-err
returns-clause-err c =
    then_err c.put_part.result (left c.self.inside.by_name (c.get_mut.follows.lender c.put_part.new.self) c.args.self.now c.args.bucket.now c.in-Some.bucket.now c.put_part.new.self c.self.view_is c.in-Some.ensures.value (c.get_mut.follows.holds c.put_part.new.self)) c.put_part.ensures.err

pub returns-clause-memory : goal.returns-clause-memory
returns-clause-memory c =
    let there = get_by_tree c.self.inside.by_name.entries c.args.self.now c.args.bucket.now (Some c.in-Some.bucket.now) c.self.view_is c.in-Some.ensures.value in
    rw (ap (λ found. part_at c.args.number (parts_sent (upload_in found c.args.key.now c.args.id))) there) (then_err c.put_part.result (λ none in_memory. none) c.put_part.ensures.memory)
