use Rattle.std.proofs.Common.{to_z-of_z, ◌∷◌, [], option_map}
use Rattle.std.specs.Option.{option_copied}
use Rattle.s3_records.specs.Changes.{PartPut}
use Rattle.s3_row_values.specs.Values.{part_with}
use Rattle.s3_row_changes.specs.Trading.{numbers_of}
use Rattle.s3_stored_rows.specs.Bodies.{part_numbers}
use Rattle.s3_stored_rows.specs.Changes.{part_columns}
use Rattle.s3_table_records.proofs.KeptLemmas.{is_put, is_back}
use Rattle.s3_table_records.proofs.DataLemmas.{part_put_same}
use Rattle.s3_table_records.proofs.parts.put_found.Goals as goal

pub returns-in-Ok-put_part-clause-changes : goal.returns-in-Ok-put_part-clause-changes
returns-in-Ok-put_part-clause-changes g c =
    is_put (g.R.StoredRows.tables c.args.rows.now) (g.B.StoredBodies.contents c.args.bodies.now) (g.B.StoredBodies.uses c.args.bodies.now) c.args.next c.requires.kept c.args.bucket.now _
    (g.B.StoredBodies.contents c.give_up_all.new.bodies) (g.B.StoredBodies.uses c.give_up_all.new.bodies) c.in-Ok.held c.args.body (g.met.B.StoredBodies.named_where_there c.args.bodies.now) c.in-Ok.ensures.new_or_same
    _ (g.R.StoredRows.tables c.put_part.new.rows) (λ contents. PartPut c.args.key.now c.args.id c.args.number (part_with contents (c.in-Ok.held ∷ []) c.args.described.now))
    (numbers_of part_numbers (option_map part_columns (option_copied c.args.gone))) (rw (to_z-of_z c.ranges.next) at c.in-Ok-put_part.ensures.ok)
    (part_put_same c.args.key.now c.args.id c.args.number c.args.described.now (g.B.StoredBodies.contents c.args.bodies.now) c.in-Ok.held c.args.body)
    (rw (c.requires.names, c.in-Ok.ensures.uses) at c.give_up_all.ensures.uses)
    (rw c.in-Ok.ensures.contents at c.give_up_all.ensures.contents)

pub returns-in-Err-put_part-clause-changes : goal.returns-in-Err-put_part-clause-changes
returns-in-Err-put_part-clause-changes g c =
    rw c.in-Err-put_part.ensures.err
    (is_back (g.R.StoredRows.tables c.args.rows.now) (g.B.StoredBodies.contents c.args.bodies.now) (g.B.StoredBodies.uses c.args.bodies.now) c.args.next c.requires.kept c.args.bucket.now _
    (g.B.StoredBodies.contents c.give_up.new.self) (g.B.StoredBodies.uses c.give_up.new.self) c.in-Ok.held c.args.body (g.met.B.StoredBodies.named_where_there c.args.bodies.now) c.in-Ok.ensures.new_or_same
    _ (rw c.in-Ok.ensures.uses at c.give_up.ensures.uses) (rw c.in-Ok.ensures.contents at c.give_up.ensures.contents))
