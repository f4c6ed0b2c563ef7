use Rattle.std.proofs.Common.{SFits, w64, to_z-of_z, rules}
use Rattle.s3_stored_rows.specs.Changes.{bucket_columns}
use Rattle.s3_tables.proofs.StatementLemmas.{bucket_added}
use Rattle.s3_tables.proofs.changing.add_bucket.Goals as goal

pub returns-clause-advances : goal.returns-clause-advances
returns-clause-advances g c =
    let row : SFits w64 c.args.bucket.now.row = search rules in
    let made : SFits w64 c.args.bucket.now.made = search rules in
    let mode : SFits w64 c.args.bucket.now.mode = search rules in
    bucket_added g.S.Store c.args.tx.now.conn.now c.execute.new.self.conn.now c.execute.result c.execute.ensures.ended c.execute.ensures.survives (bucket_columns c.args.bucket.now)
    (rw (c.params-to_sql.ensures, c.params-to_sql-2.ensures, c.params-to_sql-3.ensures, c.params-to_sql-4.ensures, c.as_slice.ensures.value, to_z-of_z row, to_z-of_z made, to_z-of_z mode) at c.execute.ensures.runs)
