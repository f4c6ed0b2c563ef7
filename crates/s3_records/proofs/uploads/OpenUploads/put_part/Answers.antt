use Rattle.std.proofs.Common.{sym, ap, subst, ◌∙◌, IsTrue, is_some, Some}
use Rattle.std.specs.Cmp.{nat_cmp_total}
use Rattle.std.specs.FinMap as map
use Rattle.s3_uploads.specs.Parts.{part_at}
use Rattle.s3_records.specs.OpenUploads.{parts_sent}
use Rattle.s3_records.proofs.KeyLemmas.{then_ok, then_err}
use Rattle.s3_records.proofs.OrderedLemmas.{got, not_none, wrote_again}
use Rattle.s3_records.proofs.UploadLemmas.{part_written}
use Rattle.s3_records.proofs.uploads.OpenUploads.put_part.Goals as goal

-- the upload is there
pub unreachable-requires : goal.unreachable-requires
unreachable-requires c =
    not_none nat_cmp_total c.self.inside.by_id.entries c.args.self.now c.number.result c.self.view_is c.in-None.ensures.value
    (subst (λ id. IsTrue (is_some (map.get c.args.self.now id))) (sym c.number.ensures.value) c.requires)

pub returns-clause-ok : goal.returns-clause-ok
returns-clause-ok c =
    then_ok c.put_part.result
    (part_written c.self.inside.by_id (c.get_mut.follows.lender c.put_part.new.self) c.args.self.now c.number.result c.args.id c.in-Some.upload.now c.put_part.new.self c.args.number c.args.part c.self.view_is c.in-Some.ensures.value (c.get_mut.follows.holds c.put_part.new.self) c.number.ensures.value)
    c.put_part.ensures.ok

pub returns-clause-err : goal.returns-clause-err
returns-clause-err c =
    then_err c.put_part.result
    (wrote_again nat_cmp_total map.nat_cmp-IsAntisymmetric c.self.inside.by_id (c.get_mut.follows.lender c.put_part.new.self) c.args.self.now c.number.result c.in-Some.upload.now c.put_part.new.self c.self.view_is c.in-Some.ensures.value (c.get_mut.follows.holds c.put_part.new.self))
    c.put_part.ensures.err

pub returns-clause-former : goal.returns-clause-former
returns-clause-former c =
    let there = ap (map.get c.args.self.now) (sym c.number.ensures.value) ∙ got nat_cmp_total c.self.inside.by_id.entries c.args.self.now c.number.result (Some c.in-Some.upload.now) c.self.view_is c.in-Some.ensures.value in
    rw (ap (λ found. part_at c.args.number (parts_sent found)) there) c.put_part.ensures.former

pub returns-clause-memory : goal.returns-clause-memory
returns-clause-memory c =
    let there = ap (map.get c.args.self.now) (sym c.number.ensures.value) ∙ got nat_cmp_total c.self.inside.by_id.entries c.args.self.now c.number.result (Some c.in-Some.upload.now) c.self.view_is c.in-Some.ensures.value in
    rw (ap (λ found. part_at c.args.number (parts_sent found)) there) c.put_part.ensures.memory
