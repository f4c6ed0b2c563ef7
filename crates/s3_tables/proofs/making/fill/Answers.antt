use Rattle.sqlite.specs.Held.{state}
use Rattle.s3_tables.specs.Schema.{no_schema, schema}
use Rattle.s3_stored_rows.specs.Changes.{store_columns}
use Rattle.s3_tables.specs.Making.{first_tables}
use Rattle.s3_tables.proofs.MakingLemmas.{filled, fills_short}
use Rattle.s3_tables.proofs.making.fill.Goals as goal

pub returns-in_err-create_all-clause-fills : goal.returns-in_err-create_all-clause-fills
returns-in_err-create_all-clause-fills g c =
    fills_short no_schema schema (first_tables (store_columns c.args.store.now)) (state g.S.Store c.args.tx.now.conn.now) (state g.S.Store c.create_all.new.tx.conn.now) c.create_all.result c.create_all.ensures.builds c.from_residual.result
    c.from_residual.ensures.0

pub returns-clause-fills : goal.returns-clause-fills
returns-clause-fills g c =
    filled (store_columns c.args.store.now) (state g.S.Store c.args.tx.now.conn.now) (state g.S.Store c.create_all.new.tx.conn.now) (state g.S.Store c.add_store.new.tx.conn.now) c.in_ok-create_all.field-0
    c.in_ok-create_all.ensures.builds c.add_store.result c.add_store.ensures.advances
