use Rattle.std.proofs.Common.{◌∙◌, ap, sym, subst, false, arith}
use Rattle.std.proofs.lemmas.Result.{IfOk-weaker}
use Rattle.std.specs.FinMap as map
use Rattle.s3_stored_bodies.specs.Numbers.{Contents}
use Rattle.s3_stored_bodies.specs.Held.{contents_of}
use Rattle.s3_block_file.specs.BlockFile.{disk_of, uses_of}
use Rattle.s3_block_bodies.specs.Parts.{contents_in}
use Rattle.s3_block_bodies.specs.Stored.{IsSound}
use Rattle.s3_block_bodies.proofs.MapLemmas.{has_named}
use Rattle.s3_block_bodies.proofs.SoundLemmas.{sound_unsynced}
use Rattle.s3_block_bodies.proofs.block_bodies.BlockBodiesStoredBodies.keep.Goals as goal

-- there was no memory for the room
pub invariant_of-self : goal.invariant_of-self
invariant_of-self g c =
    let it = c.self.inside in
    subst (λ waiting. IsSound g.D.Disk.seen g.D.Disk.may_leave g.D.Disk.is_clean (contents_of it.memory) waiting it.is_synced (disk_of it.file) (uses_of it.file)) (sym c.reserve.ensures.items) c.self.invariant

pub keep-requires : goal.keep-requires
keep-requires g c =
    let it = c.self.inside in
    record {
      sound = subst (λ waiting. IsSound g.D.Disk.seen g.D.Disk.may_leave g.D.Disk.is_clean (contents_of it.memory) waiting false (disk_of it.file) (uses_of it.file)) (sym (c.as_slice.ensures.value ∙ c.reserve.ensures.items))
          (sound_unsynced (contents_of it.memory) it.waiting.items it.is_synced (disk_of it.file) (uses_of it.file) c.self.invariant);
    }

pub invariant_of-self-2 : goal.invariant_of-self-2
invariant_of-self-2 g c =
    subst (λ waiting. IsSound g.D.Disk.seen g.D.Disk.may_leave g.D.Disk.is_clean (contents_of c.keep.new.memory) waiting false (disk_of c.keep.new.file) (uses_of c.keep.new.file)) c.as_slice.ensures.value
    c.keep.ensures.sound

-- nothing stood under the number
pub returns-clause-new_or_same : goal.returns-clause-new_or_same
returns-clause-new_or_same g c =
    IfOk-weaker c.keep.result _ _
    (λ number unnamed bytes there.
    absurd (omega (arith, unnamed, has_named c.self.inside.memory number bytes (ap (λ (contents : Contents). map.get contents number) (ap contents_in c.self.view_is) ∙ there))))
    c.keep.ensures.unnamed

pub returns-clause-outlives : goal.returns-clause-outlives
returns-clause-outlives g c = rw (← c.self.view_is) c.keep.ensures.settled
