use Rattle.std.proofs.Common.{◌≡◌, ◌∙◌, pos, SFits, w64, to_z-of_z, rules}
use Rattle.s3_table_records.specs.Numbered.{row_of}
use Rattle.s3_table_records.proofs.NumberLemmas.{store_row_put}
use Rattle.s3_table_records.proofs.numbering.replace_row.Goals as goal

pub returns-clause-ok : goal.returns-clause-ok
returns-clause-ok g c =
    let fits : SFits w64 c.in-Ok.number = search rules in
    let is : c.in-Ok.number ≡ pos c.args.number = search rules in
    (rw (to_z-of_z fits, is) at c.in_ok-apply.ensures.ok) ∙ store_row_put (g.R.StoredRows.tables c.args.rows.now) c.requires.0 (row_of c.args.number) c.requires.1
