use Rattle.std.proofs.Common.{sym, subst}
use Rattle.sqlite_disk.specs.Disk.{Holds}
use Rattle.s3_block_bodies.proofs.FileLemmas.{holds_more}
use Rattle.s3_block_bodies.proofs.reading.read_piece.Goals as goal

pub returns-clause-read : goal.returns-clause-read
returns-clause-read g c = λ clean start place holds.
    subst (Holds (g.D.Disk.seen c.args.disk.now) start) (sym c.in_ok-take.ensures.taken)
    (holds_more (g.D.Disk.seen c.args.disk.now) c.args.builder.now c.fill.new.buf start c.args.at (sym place) holds (c.in_ok-fill.ensures.read clean c.requires.some))
