use Rattle.std.proofs.Common.{SFits, w64, to_z-of_z, rules}
use Rattle.s3_stored_rows.specs.Changes.{store_columns}
use Rattle.s3_tables.proofs.StatementLemmas.{store_added}
use Rattle.s3_tables.proofs.changing.add_store.Goals as goal

pub returns-clause-advances : goal.returns-clause-advances
returns-clause-advances g c =
    let row : SFits w64 c.args.store.now.row = search rules in
    let form : SFits w64 c.args.store.now.form = search rules in
    let number : SFits w64 c.args.store.now.number = search rules in
    store_added g.S.Store c.args.tx.now.conn.now c.execute.new.self.conn.now c.execute.result c.execute.ensures.ended c.execute.ensures.survives (store_columns c.args.store.now)
    (rw (c.params-to_sql.ensures, c.params-to_sql-2.ensures, c.params-to_sql-3.ensures, to_z-of_z row, to_z-of_z form, to_z-of_z number) at c.execute.ensures.runs)
