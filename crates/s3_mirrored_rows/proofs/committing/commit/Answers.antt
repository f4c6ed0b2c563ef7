use Rattle.s3_mirrored_rows.proofs.MirrorLemmas.{commits_again, commits_told}
use Rattle.s3_mirrored_rows.proofs.committing.commit.Goals as goal

pub returns-then-not-lacks_room : goal.returns-then-not-lacks_room
returns-then-not-lacks_room g c = λ t awaits.
    commits_told (g.F.LastingTables.state c.args.file.now) (g.F.LastingTables.state c.commit_once-first.new.file) c.commit_once-first.new.waiting.items t c.commit_once-first.result c.told.result c.told.ensures (c.commit_once-first.ensures t awaits)

pub returns : goal.returns
returns g c = λ t awaits.
    let one = c.commit_once-first.ensures t awaits in
    commits_told (g.F.LastingTables.state c.args.file.now) (g.F.LastingTables.state c.commit_once.new.file) c.commit_once.new.waiting.items t c.commit_once.result c.told-2.result c.told-2.ensures
    (commits_again (g.F.LastingTables.state c.args.file.now) (g.F.LastingTables.state c.commit_once-first.new.file) (g.F.LastingTables.state c.commit_once.new.file) c.commit_once-first.new.waiting.items c.commit_once.new.waiting.items t
    c.commit_once-first.result c.commit_once.result one (c.commit_once.ensures t one.awaits))
