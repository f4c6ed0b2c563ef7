use Rattle.std.proofs.Common.{sym, ◌∙◌, arith}
use Rattle.sqlite.specs.Held.{state}
use Rattle.sqlite.specs.View.{IsClean}
use Rattle.s3_tables.proofs.FoundLemmas.{reopened_keeps}
use Rattle.s3_tables.proofs.table_file.TableFile.over.Goals as goal

pub returns-clause-keeps : goal.returns-clause-keeps
returns-clause-keeps g c clean =
    let v = g.S.Store.view c.args.store in
    let early : IsClean v = omega (arith, c.in-Ok.ensures.clean) in
    let unbroken = (c.requires early).sound in
    let opened = c.in-Ok.ensures.opens clean in
    reopened_keeps v (state g.S.Store c.in-Ok.conn) (g.met.S.Alter.listed c.args.store unbroken) (g.met.S.Store.ordered c.args.store unbroken) (c.in-Ok.ensures.trees clean) opened.0 opened.1
    (λ up db left. g.met.S.Store.settled c.in-Ok.conn.store db up left) (sym c.schema.ensures.value ∙ c.is_ours.ensures c.if-not-is_ours.false)

pub returns-clause-open : goal.returns-clause-open
returns-clause-open g c clean = (c.in-Ok.ensures.opens clean).0.is_open

pub invariant_of-result : goal.invariant_of-result
invariant_of-result g c =
    let v = g.S.Store.view c.args.store in
    record {
      keeps = λ clean.
          let early : IsClean v = omega (arith, c.in-Ok.ensures.clean) in
          let unbroken = (c.requires early).sound in
          let opened = c.in-Ok.ensures.opens clean in
          reopened_keeps v (state g.S.Store c.in-Ok.conn) (g.met.S.Alter.listed c.args.store unbroken) (g.met.S.Store.ordered c.args.store unbroken) (c.in-Ok.ensures.trees clean) opened.0 opened.1
          (λ up db left. g.met.S.Store.settled c.in-Ok.conn.store db up left) (sym c.schema.ensures.value ∙ c.is_ours.ensures c.if-not-is_ours.false);
      answers = λ _ clean. (c.in-Ok.ensures.opens clean).0.is_open;
    }
