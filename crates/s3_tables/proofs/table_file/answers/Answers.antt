use Rattle.sqlite.specs.Held.{state}
use Rattle.s3_tables.proofs.StepLemmas.{reads, prepared_leaves}
use Rattle.s3_tables.proofs.table_file.answers.Goals as goal

pub returns-clause-reads : goal.returns-clause-reads
returns-clause-reads g c =
    reads (state g.S.Store c.args.conn.now) (state g.S.Store c.prepare.new.self) (λ up db left. g.met.S.Store.settled c.prepare.new.self.store db up left) c.requires
    (λ clean. prepared_leaves _ _ _ _ c.prepare.result (c.prepare.ensures.ok clean) (c.prepare.ensures.err clean)) c.prepare.ensures.survives
