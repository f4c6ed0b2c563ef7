use Rattle.std.proofs.Common.{refl, arith}
use Rattle.sqlite.specs.Held.{state}
use Rattle.sqlite.specs.State.{HasCleanDisk}
use Rattle.s3_tables.proofs.StepLemmas.{served_since}
use Rattle.s3_tables.proofs.table_file.TableFile.query.Goals as goal

pub returns-clause-shown : goal.returns-clause-shown
returns-clause-shown g c clean =
    let asked : HasCleanDisk (state g.S.Store c.ask.new.self) = omega (arith, c.query_once.ensures.reads.survives.clean) in
    let before : HasCleanDisk (state g.S.Store c.args.self.now) = omega (arith, c.ask.ensures.reads.survives.clean) in
    let same = c.if-not-ask.ensures.same refl asked in
    served_since (state g.S.Store c.args.self.now) (state g.S.Store c.ask.new.self) (state g.S.Store c.query_once.new.self) _ _ c.query_once.result ((c.ask.ensures.kept before).serves same.0.was_open) same c.requires
    (c.query_once.ensures.shown clean)
