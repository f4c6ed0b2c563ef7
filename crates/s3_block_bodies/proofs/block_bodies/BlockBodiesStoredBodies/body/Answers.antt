use Rattle.std.proofs.Common.{sym, subst}
use Rattle.s3_block_file.specs.BlockFile.{disk_of, uses_of}
use Rattle.s3_block_bodies.specs.Stored.{IsSound}
use Rattle.s3_block_bodies.proofs.block_bodies.BlockBodiesStoredBodies.body.Goals as goal

pub invariant_of-self : goal.invariant_of-self
invariant_of-self g c =
    subst (λ contents. IsSound g.D.Disk.seen g.D.Disk.may_leave g.D.Disk.is_clean contents c.self.inside.waiting.items c.self.inside.is_synced (disk_of c.self.inside.file) (uses_of c.self.inside.file))
    (sym c.body.ensures.contents) c.self.invariant
