use Rattle.std.proofs.Common.{SFits, w64, to_z-of_z, rules}
use Rattle.s3_stored_rows.specs.Changes.{upload_columns}
use Rattle.s3_tables.proofs.StatementLemmas.{upload_added}
use Rattle.s3_tables.proofs.changing.add_upload.Goals as goal

pub returns-clause-advances : goal.returns-clause-advances
returns-clause-advances g c =
    let row : SFits w64 c.args.upload.now.row = search rules in
    let id : SFits w64 c.args.upload.now.id = search rules in
    let moment : SFits w64 c.args.upload.now.moment = search rules in
    upload_added g.S.Store c.args.tx.now.conn.now c.execute.new.self.conn.now c.execute.result c.execute.ensures.ended c.execute.ensures.survives (upload_columns c.args.upload.now)
    (rw (c.params-to_sql.ensures, c.params-to_sql-2.ensures, c.params-to_sql-3.ensures, c.params-to_sql-4.ensures, c.params-to_sql-5.ensures, c.params-to_sql-6.ensures, c.as_slice.ensures.value, c.as_slice-2.ensures.value, c.as_slice-3.ensures.value, to_z-of_z row, to_z-of_z id, to_z-of_z moment) at c.execute.ensures.runs)
