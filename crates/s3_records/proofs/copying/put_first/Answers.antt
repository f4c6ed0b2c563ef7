use Rattle.std.proofs.Common.{sym, ◌∙◌}
use Rattle.s3_records.proofs.CopyLemmas.{is_newest, put_again}
use Rattle.s3_records.proofs.KeyLemmas.{then_ok}
use Rattle.s3_records.proofs.copying.put_first.Goals as goal

pub add-requires : goal.add-requires
add-requires c = is_newest c.in-Ok.version c.args.versions.now (rw c.in-Ok.is at c.requires)

pub returns-in-Ok : goal.returns-in-Ok
returns-in-Ok c = λ version is.
    let same = rw c.in-Ok.is at is in
    rw (sym same) (then_ok c.add.result (λ added. added ∙ put_again c.versioning_of.result c.in-Ok.version c.args.versions.now c.versioning_of.ensures (rw c.in-Ok.is at c.requires)) c.add.ensures.ok)
