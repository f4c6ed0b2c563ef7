use Rattle.s3_stored_bodies.specs.Held.{contents_of}
use Rattle.s3_block_file.specs.BlockFile.{disk_of, uses_of}
use Rattle.s3_block_bodies.proofs.MapLemmas.{was_there}
use Rattle.s3_block_bodies.proofs.SoundLemmas.{sound_less}
use Rattle.s3_block_bodies.proofs.block_bodies.BlockBodiesStoredBodies.give_up.Goals as goal

pub invariant_of-self : goal.invariant_of-self
invariant_of-self g c =
    let it = c.self.inside in
    sound_less (contents_of it.memory) (contents_of c.give_up.new.memory) it.waiting.items c.give_up.new.waiting.items it.is_synced (disk_of it.file) (uses_of it.file)
    (was_there it.memory c.give_up.new.memory c.give_up.ensures.contents) c.give_up.ensures.waits c.self.invariant
