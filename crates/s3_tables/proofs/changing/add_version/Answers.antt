use Rattle.std.proofs.Common.{SFits, w64, to_z-of_z, rules}
use Rattle.s3_stored_rows.specs.Changes.{version_columns}
use Rattle.s3_tables.proofs.StatementLemmas.{version_added}
use Rattle.s3_tables.proofs.changing.add_version.Goals as goal

pub returns-clause-advances : goal.returns-clause-advances
returns-clause-advances g c =
    let row : SFits w64 c.args.version.now.row = search rules in
    let number : SFits w64 c.args.version.now.number = search rules in
    let id : SFits w64 c.args.version.now.id = search rules in
    let moment : SFits w64 c.args.version.now.moment = search rules in
    let marker : SFits w64 c.args.version.now.marker = search rules in
    let size : SFits w64 c.args.version.now.size = search rules in
    version_added g.S.Store c.args.tx.now.conn.now c.execute.new.self.conn.now c.execute.result c.execute.ensures.ended c.execute.ensures.survives (version_columns c.args.version.now)
    (rw (c.params-to_sql.ensures, c.params-to_sql-2.ensures, c.params-to_sql-3.ensures, c.params-to_sql-4.ensures, c.params-to_sql-5.ensures, c.params-to_sql-6.ensures, c.params-to_sql-7.ensures, c.params-to_sql-8.ensures, c.params-to_sql-9.ensures, c.params-to_sql-10.ensures, c.params-to_sql-11.ensures, c.as_slice.ensures.value, c.as_slice-2.ensures.value, c.as_slice-3.ensures.value, c.as_slice-4.ensures.value, c.as_slice-5.ensures.value, to_z-of_z row, to_z-of_z number, to_z-of_z id, to_z-of_z moment, to_z-of_z marker, to_z-of_z size) at c.execute.ensures.runs)
