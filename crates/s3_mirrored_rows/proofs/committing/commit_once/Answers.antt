use Rattle.std.proofs.Common.{arith}
use Rattle.s3_mirrored_rows.proofs.MirrorLemmas.{read_awaits, commits_unasked, commits_none, commits_asked, none_where}
use Rattle.s3_mirrored_rows.proofs.committing.commit_once.Goals as goal

pub returns-in-Err : goal.returns-in-Err
returns-in-Err g c = λ t awaits. commits_unasked (g.F.LastingTables.state c.args.file.now) (g.F.LastingTables.state c.wake.new.self) c.wake.ensures.reads c.in-Err.fault c.args.waiting.now.items t awaits

pub returns-then-is_empty : goal.returns-then-is_empty
returns-then-is_empty g c = λ t awaits.
    commits_none (g.F.LastingTables.state c.args.file.now) (g.F.LastingTables.state c.wake.new.self) c.wake.ensures.reads c.stored_tables_are_one.ensures.shown tt c.args.waiting.now.items t
    (none_where c.args.waiting.now.items (grind (arith, c.is_empty.ensures))) c.in-Ok.ensures.live awaits

pub returns-else-is_empty : goal.returns-else-is_empty
returns-else-is_empty g c = λ t awaits.
    commits_asked (g.F.LastingTables.state c.args.file.now) (g.F.LastingTables.state c.wake.new.self) c.wake.ensures.reads (g.F.LastingTables.state c.make.new.file) c.make.new.waiting.items t c.make.result
    (c.make.ensures t (read_awaits (g.F.LastingTables.state c.args.file.now) (g.F.LastingTables.state c.wake.new.self) c.wake.ensures.reads c.args.waiting.now.items t awaits))
