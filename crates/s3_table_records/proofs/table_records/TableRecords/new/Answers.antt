use Rattle.std.proofs.Common.{sym, ap, subst, ◌∙◌, pos, refl}
use Rattle.s3_table_records.specs.Kept.{kept, IsKept, catalogue}
use Rattle.s3_table_records.specs.Numbered.{row_of}
use Rattle.s3_table_records.proofs.FreshLemmas.{fresh_kept, fresh_opens}
use Rattle.s3_table_records.proofs.NumberLemmas.{numbered_first, opening_above}
use Rattle.s3_table_records.proofs.table_records.TableRecords.new.Goals as goal

pub returns : goal.returns
returns g c =
    ap (λ t. catalogue (kept t (g.B.StoredBodies.contents c.args.bodies) (g.B.StoredBodies.uses c.args.bodies) (pos 1))) c.requires.rows
    ∙ fresh_opens c.rows_open.ensures (row_of 0) (g.B.StoredBodies.contents c.args.bodies) (g.B.StoredBodies.uses c.args.bodies)

pub invariant_of-result : goal.invariant_of-result
invariant_of-result g c =
    let k = kept (g.R.StoredRows.tables c.args.rows) (g.B.StoredBodies.contents c.args.bodies) (g.B.StoredBodies.uses c.args.bodies) (pos 1) in
    numbered_first (g.R.StoredRows.leaves c.args.rows) 0 k
    (subst (λ t. IsKept (kept t (g.B.StoredBodies.contents c.args.bodies) (g.B.StoredBodies.uses c.args.bodies) (pos 1))) (sym c.requires.rows)
    (fresh_kept c.rows_open.ensures (row_of 0) (g.B.StoredBodies.contents c.args.bodies) (g.B.StoredBodies.uses c.args.bodies) c.requires.bodies))
    (row_of 0, refl, refl, ap (λ t. t.store) c.requires.rows) (opening_above 0 (catalogue k) (returns g c)) c.requires.left
