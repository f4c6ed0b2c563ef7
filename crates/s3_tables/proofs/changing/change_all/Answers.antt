use Rattle.std.proofs.Common.{Ok, List, take, take_all, refl, subst, ◌∙◌}
use Rattle.sqlite.specs.Held.{state}
use Rattle.s3_stored_rows.specs.declared.change.Change.{Change}
use Rattle.s3_stored_rows.specs.Changes.{changed_by, after_all}
use Rattle.s3_tables.specs.Keeping.{Advances}
use Rattle.s3_tables.proofs.ApplyLemmas.{no_advance, one_more, stopped_short}
use Rattle.s3_tables.proofs.changing.change_all.Goals as goal

pub loop-change-init : goal.loop-change-init
loop-change-init g c = record { same_reference = refl; advances = no_advance (state g.S.Store c.args.tx.now.conn.now) tt }

pub loop-change-preserved : goal.loop-change-preserved
loop-change-preserved g c = record {
  same_reference = c.in_ok-change_inside.ensures.same_reference ∙ c.loop-change.invariant.same_reference;
  advances = one_more c.args.changes.now c.loop-change.change-index c.change-item.result c.loop-change-test.true c.change-item.is (state g.S.Store c.args.tx.now.conn.now) (state g.S.Store c.loop-change.tx.conn.now)
      (state g.S.Store c.change_inside.new.tx.conn.now) tt c.in_ok-change_inside.field-0 tt c.loop-change.invariant.advances c.in_ok-change_inside.ensures.advances;
}

pub returns-in_err-change_inside-clause-same_reference : goal.returns-in_err-change_inside-clause-same_reference
returns-in_err-change_inside-clause-same_reference g c = c.change_inside.ensures.same_reference ∙ c.loop-change.invariant.same_reference

pub returns-in_err-change_inside-clause-advances : goal.returns-in_err-change_inside-clause-advances
returns-in_err-change_inside-clause-advances g c =
    stopped_short (after_all (take c.loop-change.change-index c.args.changes.now)) (changed_by c.change-item.result) (after_all c.args.changes.now) (state g.S.Store c.args.tx.now.conn.now)
    (state g.S.Store c.loop-change.tx.conn.now) (state g.S.Store c.change_inside.new.tx.conn.now) tt c.loop-change.invariant.advances c.change_inside.result c.change_inside.ensures.advances c.from_residual.result
    c.from_residual.ensures.0

pub returns-clause-advances : goal.returns-clause-advances
returns-clause-advances g c =
    subst (λ (l : List Change). Advances {X = Unit {0}} (after_all l) (state g.S.Store c.args.tx.now.conn.now) (state g.S.Store c.loop-change.tx.conn.now) (Ok tt))
    (take_all c.loop-change.change-index c.args.changes.now c.loop-change-test.false) c.loop-change.invariant.advances
