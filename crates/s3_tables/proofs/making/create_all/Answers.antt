use Rattle.std.proofs.Common.{Ok}
use Rattle.sqlite.specs.Held.{state}
use Rattle.s3_tables.specs.Schema.{no_schema, with_buckets, with_versions, with_uploads, with_parts, schema}
use Rattle.s3_tables.proofs.MakingLemmas.{builds_then, builds_short}
use Rattle.s3_tables.proofs.making.create_all.Goals as goal

pub returns-in_err-create_table-clause-builds : goal.returns-in_err-create_table-clause-builds
returns-in_err-create_table-clause-builds g c =
    let to_1 = c.create_table.ensures.builds in
    builds_short no_schema with_buckets schema (state g.S.Store c.args.tx.now.conn.now) (state g.S.Store c.create_table.new.tx.conn.now) c.create_table.result to_1 c.from_residual.result c.from_residual.ensures.0

pub returns-in_err-create_table-2-clause-builds : goal.returns-in_err-create_table-2-clause-builds
returns-in_err-create_table-2-clause-builds g c =
    let to_1 = c.in_ok-create_table.ensures.builds in
    let to_2 = builds_then (state g.S.Store c.args.tx.now.conn.now) (state g.S.Store c.create_table.new.tx.conn.now) (state g.S.Store c.create_table-2.new.tx.conn.now) no_schema with_buckets with_versions c.in_ok-create_table.field-0 to_1 c.create_table-2.result c.create_table-2.ensures.builds in
    builds_short no_schema with_versions schema (state g.S.Store c.args.tx.now.conn.now) (state g.S.Store c.create_table-2.new.tx.conn.now) c.create_table-2.result to_2 c.from_residual-in_err-create_table-2.result c.from_residual-in_err-create_table-2.ensures.0

pub returns-in_err-create_table-3-clause-builds : goal.returns-in_err-create_table-3-clause-builds
returns-in_err-create_table-3-clause-builds g c =
    let to_1 = c.in_ok-create_table.ensures.builds in
    let to_2 = builds_then (state g.S.Store c.args.tx.now.conn.now) (state g.S.Store c.create_table.new.tx.conn.now) (state g.S.Store c.create_table-2.new.tx.conn.now) no_schema with_buckets with_versions c.in_ok-create_table.field-0 to_1 (Ok c.in_ok-create_table-2.field-0) c.in_ok-create_table-2.ensures.builds in
    let to_3 = builds_then (state g.S.Store c.args.tx.now.conn.now) (state g.S.Store c.create_table-2.new.tx.conn.now) (state g.S.Store c.create_table-3.new.tx.conn.now) no_schema with_versions with_uploads c.in_ok-create_table-2.field-0 to_2 c.create_table-3.result c.create_table-3.ensures.builds in
    builds_short no_schema with_uploads schema (state g.S.Store c.args.tx.now.conn.now) (state g.S.Store c.create_table-3.new.tx.conn.now) c.create_table-3.result to_3 c.from_residual-in_err-create_table-3.result c.from_residual-in_err-create_table-3.ensures.0

pub returns-in_err-create_table-4-clause-builds : goal.returns-in_err-create_table-4-clause-builds
returns-in_err-create_table-4-clause-builds g c =
    let to_1 = c.in_ok-create_table.ensures.builds in
    let to_2 = builds_then (state g.S.Store c.args.tx.now.conn.now) (state g.S.Store c.create_table.new.tx.conn.now) (state g.S.Store c.create_table-2.new.tx.conn.now) no_schema with_buckets with_versions c.in_ok-create_table.field-0 to_1 (Ok c.in_ok-create_table-2.field-0) c.in_ok-create_table-2.ensures.builds in
    let to_3 = builds_then (state g.S.Store c.args.tx.now.conn.now) (state g.S.Store c.create_table-2.new.tx.conn.now) (state g.S.Store c.create_table-3.new.tx.conn.now) no_schema with_versions with_uploads c.in_ok-create_table-2.field-0 to_2 (Ok c.in_ok-create_table-3.field-0) c.in_ok-create_table-3.ensures.builds in
    let to_4 = builds_then (state g.S.Store c.args.tx.now.conn.now) (state g.S.Store c.create_table-3.new.tx.conn.now) (state g.S.Store c.create_table-4.new.tx.conn.now) no_schema with_uploads with_parts c.in_ok-create_table-3.field-0 to_3 c.create_table-4.result c.create_table-4.ensures.builds in
    builds_short no_schema with_parts schema (state g.S.Store c.args.tx.now.conn.now) (state g.S.Store c.create_table-4.new.tx.conn.now) c.create_table-4.result to_4 c.from_residual-in_err-create_table-4.result c.from_residual-in_err-create_table-4.ensures.0

pub returns-clause-builds : goal.returns-clause-builds
returns-clause-builds g c =
    let to_1 = c.in_ok-create_table.ensures.builds in
    let to_2 = builds_then (state g.S.Store c.args.tx.now.conn.now) (state g.S.Store c.create_table.new.tx.conn.now) (state g.S.Store c.create_table-2.new.tx.conn.now) no_schema with_buckets with_versions c.in_ok-create_table.field-0 to_1 (Ok c.in_ok-create_table-2.field-0) c.in_ok-create_table-2.ensures.builds in
    let to_3 = builds_then (state g.S.Store c.args.tx.now.conn.now) (state g.S.Store c.create_table-2.new.tx.conn.now) (state g.S.Store c.create_table-3.new.tx.conn.now) no_schema with_versions with_uploads c.in_ok-create_table-2.field-0 to_2 (Ok c.in_ok-create_table-3.field-0) c.in_ok-create_table-3.ensures.builds in
    let to_4 = builds_then (state g.S.Store c.args.tx.now.conn.now) (state g.S.Store c.create_table-3.new.tx.conn.now) (state g.S.Store c.create_table-4.new.tx.conn.now) no_schema with_uploads with_parts c.in_ok-create_table-3.field-0 to_3 (Ok c.in_ok-create_table-4.field-0) c.in_ok-create_table-4.ensures.builds in
    let to_5 = builds_then (state g.S.Store c.args.tx.now.conn.now) (state g.S.Store c.create_table-4.new.tx.conn.now) (state g.S.Store c.create_table-5.new.tx.conn.now) no_schema with_parts schema c.in_ok-create_table-4.field-0 to_4 c.create_table-5.result c.create_table-5.ensures.builds in
    to_5
