use Rattle.std.proofs.Common.{SFits, w64, to_z-of_z, rules}
use Rattle.s3_stored_rows.specs.Changes.{part_columns}
use Rattle.s3_tables.proofs.StatementLemmas.{part_added}
use Rattle.s3_tables.proofs.changing.add_part.Goals as goal

pub returns-clause-advances : goal.returns-clause-advances
returns-clause-advances g c =
    let row : SFits w64 c.args.part.now.row = search rules in
    let upload : SFits w64 c.args.part.now.upload = search rules in
    let part : SFits w64 c.args.part.now.part = search rules in
    let moment : SFits w64 c.args.part.now.moment = search rules in
    let size : SFits w64 c.args.part.now.size = search rules in
    part_added g.S.Store c.args.tx.now.conn.now c.execute.new.self.conn.now c.execute.result c.execute.ensures.ended c.execute.ensures.survives (part_columns c.args.part.now)
    (rw (c.params-to_sql.ensures, c.params-to_sql-2.ensures, c.params-to_sql-3.ensures, c.params-to_sql-4.ensures, c.params-to_sql-5.ensures, c.params-to_sql-6.ensures, c.params-to_sql-7.ensures, c.as_slice.ensures.value, c.as_slice-2.ensures.value, to_z-of_z row, to_z-of_z upload, to_z-of_z part, to_z-of_z moment, to_z-of_z size) at c.execute.ensures.runs)
