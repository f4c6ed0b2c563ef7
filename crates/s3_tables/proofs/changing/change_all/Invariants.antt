use Rattle.std.proofs.Common.{◌≡◌, Ok, take}
use Rattle.sqlite.specs.Held.{state}
use Rattle.s3_stored_rows.specs.Changes.{after_all}
use Rattle.s3_tables.specs.Keeping.{Advances}
use Rattle.s3_tables.proofs.changing.change_all.Given as goal

abbrev pub invariant-loop-change : goal.invariant-loop-change
invariant-loop-change g l = record {
  same_reference : l.tx.conn.ghost_name ≡ l.fn.tx.conn.ghost_name;
  advances : Advances {X = Unit {0}} (after_all (take l.change-index l.changes)) (state g.S.Store l.fn.tx.conn.now) (state g.S.Store l.tx.conn.now) (Ok tt);
}
