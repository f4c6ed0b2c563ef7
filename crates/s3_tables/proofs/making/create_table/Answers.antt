use Rattle.s3_tables.proofs.MakingLemmas.{table_created}
use Rattle.s3_tables.proofs.making.create_table.Goals as goal

pub returns-clause-builds : goal.returns-clause-builds
returns-clause-builds g c =
    table_created g.S.Store c.args.tx.now.conn.now c.execute.new.self.conn.now c.execute.result c.execute.ensures.ended c.execute.ensures.survives c.args.table (rw c.create_text.ensures at c.execute.ensures.runs)
