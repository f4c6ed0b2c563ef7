use Rattle.std.proofs.Common.{sym, subst, false}
use Rattle.s3_stored_bodies.specs.Held.{contents_of}
use Rattle.s3_block_file.specs.BlockFile.{disk_of, uses_of}
use Rattle.s3_block_bodies.specs.Stored.{IsSound}
use Rattle.s3_block_bodies.proofs.SoundLemmas.{sound_freed, sound_more}
use Rattle.s3_block_bodies.proofs.changing.hold.Goals as goal

pub returns-in-Ok-clause-sound : goal.returns-in-Ok-clause-sound
returns-in-Ok-clause-sound g c =
    subst (λ contents. IsSound g.D.Disk.seen g.D.Disk.may_leave g.D.Disk.is_clean contents c.args.waiting.now false (disk_of c.args.file.now) (uses_of c.args.file.now)) (sym c.in-Ok.ensures.contents)
    (sound_more (contents_of c.args.memory.now) c.args.waiting.now c.args.file.now c.args.extent c.args.body c.requires.size c.requires.addressable c.requires.live c.requires.apart c.requires.none_waits c.requires.stored c.requires.sound)

pub returns-in-Err-clause-sound : goal.returns-in-Err-clause-sound
returns-in-Err-clause-sound g c =
    subst (λ held. IsSound g.D.Disk.seen g.D.Disk.may_leave g.D.Disk.is_clean (contents_of held) c.args.waiting.now false (disk_of c.free.new.self) (uses_of c.free.new.self)) (sym c.in-Err.ensures.err)
    (sound_freed (contents_of c.args.memory.now) c.args.waiting.now c.args.file.now c.free.new.self c.args.extent c.requires.apart c.requires.none_waits c.free.ensures.keeps c.free.ensures.gives c.free.ensures.disk c.requires.sound)
