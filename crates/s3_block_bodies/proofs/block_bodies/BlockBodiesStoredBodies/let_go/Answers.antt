use Rattle.std.proofs.Common.{◌≡◌, ◌≤◌, ◌+◌, ap, sym, subst, ◌∙◌, slice_index}
use Rattle.std.specs.FinMap as map
use Rattle.std.specs.Prelude.{count_by}
use Rattle.s3_stored_bodies.specs.Numbers.{Contents}
use Rattle.s3_stored_bodies.specs.Held.{contents_of}
use Rattle.s3_block_file.specs.Extent.{lies_in}
use Rattle.s3_block_file.specs.BlockFile.{disk_of, uses_of}
use Rattle.s3_block_bodies.specs.Parts.{contents_in}
use Rattle.s3_block_bodies.specs.Stored.{IsSound}
use Rattle.s3_block_bodies.proofs.SoundLemmas.{sound_let_go, settled_let_go}
use Rattle.s3_block_bodies.proofs.block_bodies.BlockBodiesStoredBodies.let_go.Goals as goal

pub free_all-requires : goal.free_all-requires
free_all-requires g c = λ k. subst (λ waiting. count_by (lies_in k) waiting ≤ slice_index (uses_of c.self.inside.file) k) (sym c.as_slice.ensures.value) (c.self.invariant.waits.counted k)

pub invariant_of-self : goal.invariant_of-self
invariant_of-self g c =
    let it = c.self.inside in
    subst (λ waiting. IsSound g.D.Disk.seen g.D.Disk.may_leave g.D.Disk.is_clean (contents_of it.memory) waiting it.is_synced (disk_of c.free_all.new.self) (uses_of c.free_all.new.self)) (sym c.clear.ensures.items)
    (sound_let_go (contents_of it.memory) it.waiting.items it.is_synced it.file c.free_all.new.self
    (λ k. subst (λ waiting. slice_index (uses_of c.free_all.new.self) k + count_by (lies_in k) waiting ≡ slice_index (uses_of it.file) k) c.as_slice.ensures.value (c.free_all.ensures.gives k))
    c.free_all.ensures.disk c.self.invariant)

pub returns-clause-outlives : goal.returns-clause-outlives
returns-clause-outlives g c = λ n b there settled.
    let it = c.self.inside in
    let is : map.get (contents_of it.memory) n ≡ _ = ap (λ (contents : Contents). map.get contents n) (ap contents_in c.self.view_is) ∙ there in
    settled_let_go (contents_of it.memory) (disk_of it.file) (disk_of c.free_all.new.self) (uses_of it.file) (uses_of c.free_all.new.self)
    (sound_let_go (contents_of it.memory) it.waiting.items it.is_synced it.file c.free_all.new.self
    (λ k. subst (λ waiting. slice_index (uses_of c.free_all.new.self) k + count_by (lies_in k) waiting ≡ slice_index (uses_of it.file) k) c.as_slice.ensures.value (c.free_all.ensures.gives k))
    c.free_all.ensures.disk c.self.invariant).housed
    c.free_all.ensures.disk n b is (rw (← c.self.view_is) at settled)
