use Rattle.std.proofs.Common.{sym, subst}
use Rattle.s3_table_records.specs.Numbered.{SaysNumber}
use Rattle.s3_file_records.proofs.FoundLemmas.{said_same, asked_same, asked_was}
use Rattle.s3_file_records.proofs.numbers.asked.Goals as goal

pub returns-clause-says : goal.returns-clause-says
returns-clause-says g c = subst (λ n. SaysNumber n c.args.memory.now) (sym (said_same c.args.number c.requires.begun)) c.requires.store

pub returns-clause-same : goal.returns-clause-same
returns-clause-same g c = asked_same (g.F.LastingTables.state c.args.file.now) (g.F.LastingTables.state c.wake.new.self) c.args.memory.now c.wake.ensures.reads c.requires.same c.in_ok-wake.ensures.live

pub returns-clause-was : goal.returns-clause-was
returns-clause-was g c = asked_was (g.F.LastingTables.state c.args.file.now) (g.F.LastingTables.state c.wake.new.self) c.wake.ensures.reads c.in_ok-wake.ensures.live
