use Rattle.std.proofs.Common.{sym, ap, Some}
use Rattle.s3_versions.specs.Rules.{VersionPut}
use Rattle.s3_records.specs.Catalogue.{versions_in}
use Rattle.s3_records.specs.Changes.{UploadCompleted}
use Rattle.s3_records.proofs.CatalogueLemmas.{not_absent, bucket_written}
use Rattle.s3_records.proofs.KeyLemmas.{then_ok, then_err, left}
use Rattle.s3_text.proofs.MapLemmas.{get_by_tree}
use Rattle.s3_records.proofs.map_records.MapRecordsRecords.complete.Goals as goal

-- the bucket is there
pub unreachable-requires : goal.unreachable-requires
unreachable-requires c = not_absent c.self.inside.by_name c.args.self.now c.args.bucket.now c.self.view_is c.in-None.ensures.value c.requires.there

pub complete-gone-requires : goal.complete-gone-requires
complete-gone-requires c =
    let there = get_by_tree c.self.inside.by_name.entries c.args.self.now c.args.bucket.now (Some c.in-Some.bucket.now) c.self.view_is c.in-Some.ensures.value in
    rw (sym (ap (λ found. versions_in found c.args.key) there)) c.requires.newer

pub returns-clause-ok : goal.returns-clause-ok
returns-clause-ok c =
    then_ok c.complete-gone.result (λ is. bucket_written c.self.inside.by_name (c.get_mut.follows.lender c.complete-gone.new.self) c.args.self.now c.args.bucket.now c.in-Some.bucket.now c.complete-gone.new.self (UploadCompleted c.args.key c.args.id (VersionPut c.args.number c.args.moment c.args.stored)) c.self.view_is c.in-Some.ensures.value (c.get_mut.follows.holds c.complete-gone.new.self) (ap Some is)) c.complete-gone.ensures.ok

pub returns-clause-gone : goal.returns-clause-gone
returns-clause-gone c =
    let there = get_by_tree c.self.inside.by_name.entries c.args.self.now c.args.bucket.now (Some c.in-Some.bucket.now) c.self.view_is c.in-Some.ensures.value in
    rw there c.complete-gone.ensures.gone

pub returns-clause-err : goal.returns-clause-err
returns-clause-err c =
    then_err c.complete-gone.result (left c.self.inside.by_name (c.get_mut.follows.lender c.complete-gone.new.self) c.args.self.now c.args.bucket.now c.in-Some.bucket.now c.complete-gone.new.self c.self.view_is c.in-Some.ensures.value (c.get_mut.follows.holds c.complete-gone.new.self)) c.complete-gone.ensures.err

pub returns-clause-memory : goal.returns-clause-memory
returns-clause-memory c =
    let there = get_by_tree c.self.inside.by_name.entries c.args.self.now c.args.bucket.now (Some c.in-Some.bucket.now) c.self.view_is c.in-Some.ensures.value in
    rw there (then_err c.complete-gone.result (λ none in_memory. none) c.complete-gone.ensures.memory)
