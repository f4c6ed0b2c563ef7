use Rattle.std.proofs.Common.{ap, subst, ◌∙◌}
use Rattle.std.specs.FinMap as map
use Rattle.s3_stored_bodies.specs.Numbers.{Contents}
use Rattle.s3_stored_bodies.specs.Held.{contents_of}
use Rattle.s3_block_file.specs.BlockFile.{disk_of, uses_of}
use Rattle.s3_block_bodies.specs.Parts.{contents_in}
use Rattle.s3_block_bodies.specs.Stored.{IsSound}
use Rattle.s3_block_bodies.proofs.SoundLemmas.{sound_synced, sound_asked, settled_asked, all_settled}
use Rattle.s3_block_bodies.proofs.block_bodies.BlockBodiesStoredBodies.settle.Goals as goal

pub returns-then-self-clause-settled : goal.returns-then-self-clause-settled
returns-then-self-clause-settled g c = λ n b there.
    let it = c.self.inside in
    rw (← c.self.view_is)
    (all_settled (contents_of it.memory) it.waiting.items (disk_of it.file) (uses_of it.file)
    (subst (λ is_synced. IsSound g.D.Disk.seen g.D.Disk.may_leave g.D.Disk.is_clean (contents_of it.memory) it.waiting.items is_synced (disk_of it.file) (uses_of it.file)) c.if-self.true c.self.invariant)
    n b (ap (λ (contents : Contents). map.get contents n) (ap contents_in c.self.view_is) ∙ there))

pub invariant_of-self : goal.invariant_of-self
invariant_of-self g c =
    let it = c.self.inside in
    sound_synced (contents_of it.memory) it.waiting.items it.is_synced it.file c.sync.new.self c.sync.ensures.seen c.in-Ok.ensures.settled c.sync.ensures.clean c.sync.ensures.live c.self.invariant

pub invariant_of-self-in-Err : goal.invariant_of-self-in-Err
invariant_of-self-in-Err g c =
    let it = c.self.inside in
    sound_asked (contents_of it.memory) it.waiting.items it.is_synced it.file c.sync.new.self c.sync.ensures.seen c.sync.ensures.crash c.sync.ensures.clean c.sync.ensures.live c.self.invariant

pub returns-in-Ok-clause-settled : goal.returns-in-Ok-clause-settled
returns-in-Ok-clause-settled g c =
    let it = c.self.inside in
    all_settled (contents_of it.memory) it.waiting.items (disk_of c.sync.new.self) (uses_of c.sync.new.self)
    (sound_synced (contents_of it.memory) it.waiting.items it.is_synced it.file c.sync.new.self c.sync.ensures.seen c.in-Ok.ensures.settled c.sync.ensures.clean c.sync.ensures.live c.self.invariant)

pub returns-in-Ok-clause-outlives : goal.returns-in-Ok-clause-outlives
returns-in-Ok-clause-outlives g c = rw (← c.self.view_is) (settled_asked c.self.inside.file c.sync.new.self c.sync.ensures.crash c.sync.ensures.clean c.sync.ensures.live)

pub returns-in-Err-clause-outlives : goal.returns-in-Err-clause-outlives
returns-in-Err-clause-outlives g c = rw (← c.self.view_is) (settled_asked c.self.inside.file c.sync.new.self c.sync.ensures.crash c.sync.ensures.clean c.sync.ensures.live)
