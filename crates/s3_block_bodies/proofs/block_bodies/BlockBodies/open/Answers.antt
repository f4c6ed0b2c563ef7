use Rattle.std.proofs.Common.{sym, subst, true, ◌∙◌}
use Rattle.sqlite_disk.specs.Disk.{Only}
use Rattle.s3_stored_bodies.specs.Held.{contents_of}
use Rattle.s3_block_file.specs.BlockFile.{disk_of, uses_of}
use Rattle.s3_block_bodies.specs.Stored.{IsSound}
use Rattle.s3_block_bodies.specs.Loading.{AreListed}
use Rattle.s3_block_bodies.proofs.SoundLemmas.{sound_opened}
use Rattle.s3_block_bodies.proofs.block_bodies.BlockBodies.open.Goals as goal

pub invariant_of-result : goal.invariant_of-result
invariant_of-result g c =
    let loaded = c.in_ok-loaded.loaded in
    let file = c.in_ok-file.file in
    subst (λ waiting. IsSound g.D.Disk.seen g.D.Disk.may_leave g.D.Disk.is_clean (contents_of loaded.memory) waiting true (disk_of file) (uses_of file)) (sym c.in_ok-waiting.ensures.items)
    (sound_opened (contents_of loaded.memory) c.as_slice.result.now file (g.D.Disk.seen c.args.disk)
    (subst (AreListed (contents_of loaded.memory)) (sym c.as_slice.ensures.value) c.in_ok-loaded.ensures.listed)
    c.in_ok-file.ensures.listed c.in_ok-file.ensures.disjoint c.in_ok-file.ensures.addressable
    (c.in_ok-file.ensures.seen ∙ c.load_all.ensures.seen)
    (subst (λ bytes. Only bytes (g.D.Disk.may_leave (disk_of file))) c.load_all.ensures.seen c.in_ok-file.ensures.settled)
    (λ clean. c.in_ok-loaded.ensures.stored (c.in_ok-file.ensures.clean clean)))
