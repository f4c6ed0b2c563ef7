use Rattle.std.proofs.Common.{sym, subst, ◌∙◌, IsTrue, Some}
use Rattle.s3_versions.specs.Rules.{is_new_number}
use Rattle.s3_text.proofs.MapLemmas.{get_by_tree}
use Rattle.s3_records.specs.Catalogue.{versions_in}
use Rattle.s3_records.specs.Deletions.{bucket_deleted}
use Rattle.s3_records.proofs.BucketDeletionLemmas.{all_in_bucket, markers_in_bucket}
use Rattle.s3_records.proofs.CatalogueLemmas.{not_absent}
use Rattle.s3_records.proofs.KeyLemmas.{then_ok, then_err, written, left}
use Rattle.s3_records.proofs.map_records.MapRecordsRecords.delete_all.Goals as goal

-- the bucket is there
pub unreachable-requires : goal.unreachable-requires
unreachable-requires c = not_absent c.self.inside.by_name c.args.self.now c.args.bucket.now c.self.view_is c.in-None.ensures.value c.requires.there

pub delete_all-requires : goal.delete_all-requires
delete_all-requires c = λ key.
    let there = get_by_tree c.self.inside.by_name.entries c.args.self.now c.args.bucket.now (Some c.in-Some.bucket.now) c.self.view_is c.in-Some.ensures.value in
    subst (λ found. IsTrue (is_new_number c.args.number (versions_in found key))) there (c.requires.below c.args.bucket.now key)

pub returns-clause-ok : goal.returns-clause-ok
returns-clause-ok c =
    let s = c.args.self.now in
    let name = c.args.bucket.now in
    let old = c.in-Some.bucket.now in
    let new = c.delete_all.new.self in
    let there = get_by_tree c.self.inside.by_name.entries s name (Some old) c.self.view_is c.in-Some.ensures.value in
    then_ok c.delete_all.result
    (λ is. written c.self.inside.by_name (c.get_mut.follows.lender new) s name old new (bucket_deleted c.args.number c.args.moment c.args.objects.now old) c.self.view_is c.in-Some.ensures.value (c.get_mut.follows.holds new) is
    ∙ sym (all_in_bucket name c.args.number c.args.moment c.args.objects.now s old there))
    c.delete_all.ensures.ok

pub returns-clause-markers : goal.returns-clause-markers
returns-clause-markers c =
    let there = get_by_tree c.self.inside.by_name.entries c.args.self.now c.args.bucket.now (Some c.in-Some.bucket.now) c.self.view_is c.in-Some.ensures.value in
    rw (markers_in_bucket c.args.bucket.now c.args.number c.args.moment c.args.objects.now c.args.self.now c.in-Some.bucket.now there) c.delete_all.ensures.markers

pub returns-clause-err : goal.returns-clause-err
returns-clause-err c =
    then_err c.delete_all.result (left c.self.inside.by_name (c.get_mut.follows.lender c.delete_all.new.self) c.args.self.now c.args.bucket.now c.in-Some.bucket.now c.delete_all.new.self c.self.view_is c.in-Some.ensures.value (c.get_mut.follows.holds c.delete_all.new.self)) c.delete_all.ensures.err
