use Rattle.std.proofs.Common.{arith}
use Rattle.sqlite.specs.Held.{state}
use Rattle.sqlite.specs.State.{HasCleanDisk}
use Rattle.s3_tables.proofs.StepLemmas.{reads_rows, stays_open, shown_serving}
use Rattle.s3_tables.proofs.querying.query_in.Goals as goal

pub returns-clause-shown : goal.returns-clause-shown
returns-clause-shown g c clean =
    let early : HasCleanDisk (state g.S.Store c.args.conn.now) = omega (arith, c.query_all.ensures.survives.clean) in
    shown_serving _ _ (state g.S.Store c.args.conn.now) (state g.S.Store c.query_all.new.self) c.query_all.result ((c.requires.keeps early).serves (c.requires.open early)) (c.query_all.ensures.ok clean)

pub returns-clause-stays : goal.returns-clause-stays
returns-clause-stays g c clean =
    let early : HasCleanDisk (state g.S.Store c.args.conn.now) = omega (arith, c.query_all.ensures.survives.clean) in
    stays_open _ _ (state g.S.Store c.args.conn.now) (state g.S.Store c.query_all.new.self) c.query_all.result c.requires.plain ((c.requires.keeps early).serves (c.requires.open early)) (c.query_all.ensures.ok clean)

pub returns-clause-reads : goal.returns-clause-reads
returns-clause-reads g c =
    reads_rows (state g.S.Store c.args.conn.now) (state g.S.Store c.query_all.new.self) (λ up db left. g.met.S.Store.settled c.query_all.new.self.store db up left) c.requires.keeps c.requires.open _ _ c.requires.plain
    c.query_all.result c.query_all.ensures.ok c.query_all.ensures.err c.query_all.ensures.survives
