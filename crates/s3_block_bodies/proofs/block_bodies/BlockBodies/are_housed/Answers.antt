use Rattle.s3_block_file.specs.BlockFile.{disk_of, uses_of}
use Rattle.s3_block_bodies.proofs.SameLemmas.{found_again}
use Rattle.s3_block_bodies.proofs.block_bodies.BlockBodies.are_housed.Goals as goal

pub returns-clause-found : goal.returns-clause-found
returns-clause-found g c = rw (← c.self.view_is)
    (λ clean number bytes addressable is named.
    found_again (g.D.Disk.seen (disk_of c.self.inside.file)) c.self.inside.memory (uses_of c.self.inside.file) c.self.invariant.housed (c.self.invariant.now clean) number bytes addressable is named)
