use Rattle.std.proofs.Common.{to_z-of_z}
use Rattle.s3_tables.proofs.StatementLemmas.{dropped}
use Rattle.s3_tables.proofs.changing.drop_row.Goals as goal

pub returns-clause-advances : goal.returns-clause-advances
returns-clause-advances g c =
    dropped g.S.Store c.args.tx.now.conn.now c.execute.new.self.conn.now c.execute.result c.execute.ensures.ended c.execute.ensures.survives c.args.table c.args.row
    (rw (c.drop_text.ensures, c.params-to_sql.ensures, to_z-of_z c.ranges.row) at c.execute.ensures.runs)
