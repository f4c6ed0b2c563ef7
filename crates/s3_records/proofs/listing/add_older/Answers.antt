use Rattle.std.proofs.Common.{◌∙◌, false}
use Rattle.s3_records.specs.Rows.{version_row}
use Rattle.s3_records.proofs.KeyLemmas.{then_ok, then_err}
use Rattle.s3_records.proofs.ListLemmas.{cut_mapped_behind, cut_mapped_some}
use Rattle.s3_records.proofs.listing.add_older.Goals as goal

pub returns-clause-ok : goal.returns-clause-ok
returns-clause-ok c =
    then_ok c.add_rows.result (λ is. is ∙ cut_mapped_behind (version_row c.args.key.now false) c.args.most c.len.result c.args.rows.now.items c.args.older.now c.at_most.result.now (c.len.ensures ∙ c.args.rows.now.ok.0) c.requires c.at_most.ensures) c.add_rows.ensures.ok

pub returns-clause-memory : goal.returns-clause-memory
returns-clause-memory c =
    then_err c.add_rows.result (cut_mapped_some (version_row c.args.key.now false) c.args.most c.len.result c.args.older.now c.at_most.result.now c.at_most.ensures) c.add_rows.ensures.memory
