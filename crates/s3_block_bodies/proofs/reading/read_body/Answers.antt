use Rattle.std.proofs.Common.{sym, subst, ◌+◌, ◌*◌, arith}
use Rattle.sqlite_disk.specs.Disk.{Holds}
use Rattle.s3_block_bodies.proofs.ReadingLemmas.{read_stored}
use Rattle.s3_block_bodies.proofs.reading.read_body.Goals as goal

pub returns-clause-stored : goal.returns-clause-stored
returns-clause-stored g c = λ clean.
    let body = c.in_ok-body.body in
    let header = c.in_ok-header.header in
    read_stored (g.D.Disk.seen c.args.disk.now) body c.args.number header.size header.sum (sym c.in_ok-body.ensures.size) (omega (arith, c.sum_of_body.ensures, c.if-sum_of_body-header.false))
    (c.in_ok-header.ensures.stands (c.read_bytes.ensures.clean clean))
    (subst (λ file. Holds file (c.args.number * 4096 + 32) body) c.read_header.ensures.seen (c.in_ok-body.ensures.read clean))
