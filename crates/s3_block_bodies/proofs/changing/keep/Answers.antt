use Rattle.std.proofs.Common.{ap, length, ◌∙◌, arith}
use Rattle.std.proofs.lemmas.Result.{on_err_weaker, IfOk-weaker}
use Rattle.s3_stored_bodies.specs.Held.{contents_of, uses_of as count_of}
use Rattle.s3_block_file.specs.Extent.{granules_for}
use Rattle.s3_block_file.specs.BlockFile.{uses_of}
use Rattle.s3_block_bodies.specs.Stored.{extent_of}
use Rattle.s3_block_bodies.proofs.RoomLemmas.{room_back}
use Rattle.s3_block_bodies.proofs.SoundLemmas.{sound_spared, settled_spared, settled_freed, fresh_unnamed, one_more, none_where_free}
use Rattle.s3_block_bodies.proofs.changing.keep.Goals as goal

-- it couldn't be written
pub returns-in-Err-clause-sound : goal.returns-in-Err-clause-sound
returns-in-Err-clause-sound g c =
    sound_spared (contents_of c.args.memory.now) c.args.waiting.now c.args.file.now c.store.new.file c.store.ensures.spares (λ k. omega (arith, c.in-Err.ensures.room k)) c.requires.sound

pub returns-in-Err-clause-settled : goal.returns-in-Err-clause-settled
returns-in-Err-clause-settled g c = settled_spared c.args.file.now c.store.new.file c.store.ensures.spares

-- it was written
pub hold-requires-clause-sound : goal.hold-requires-clause-sound
hold-requires-clause-sound g c =
    let e = c.in-Ok.extent in
    sound_spared (contents_of c.args.memory.now) c.args.waiting.now c.args.file.now c.store.new.file c.store.ensures.spares
    (one_more e.first (granules_for e.size) (uses_of c.args.file.now) (uses_of c.store.new.file) c.in-Ok.ensures.takes) c.requires.sound

pub hold-requires-clause-apart : goal.hold-requires-clause-apart
hold-requires-clause-apart g c = λ n b there. c.in-Ok.ensures.apart (extent_of n (length b)) (c.requires.sound.housed.taken n b there)

pub hold-requires-clause-none_waits : goal.hold-requires-clause-none_waits
hold-requires-clause-none_waits g c = none_where_free (contents_of c.args.memory.now) c.args.waiting.now (uses_of c.args.file.now) c.in-Ok.extent c.in-Ok.ensures.fresh c.requires.sound.waits

pub hold-requires-clause-unnamed : goal.hold-requires-clause-unnamed
hold-requires-clause-unnamed g c = fresh_unnamed c.args.memory.now (uses_of c.args.file.now) c.in-Ok.extent (omega (arith, c.in-Ok.ensures.size)) c.in-Ok.ensures.fresh c.requires.sound.housed

pub returns-in-Ok-clause-unnamed : goal.returns-in-Ok-clause-unnamed
returns-in-Ok-clause-unnamed g c =
    let e = c.in-Ok.extent in
    IfOk-weaker c.hold.result _ _
    (λ number is. ap (count_of c.args.memory.now) is ∙ fresh_unnamed c.args.memory.now (uses_of c.args.file.now) e (omega (arith, c.in-Ok.ensures.size)) c.in-Ok.ensures.fresh c.requires.sound.housed)
    c.hold.ensures.number

pub returns-in-Ok-clause-below : goal.returns-in-Ok-clause-below
returns-in-Ok-clause-below g c = IfOk-weaker c.hold.result _ _ (λ number is. omega (arith, is, c.in-Ok.ensures.addressable.0)) c.hold.ensures.number

pub returns-in-Ok-clause-room : goal.returns-in-Ok-clause-room
returns-in-Ok-clause-room g c =
    let e = c.in-Ok.extent in
    on_err_weaker c.hold.result
    (λ back. room_back e.first (granules_for e.size) (uses_of c.args.file.now) (uses_of c.store.new.file) (uses_of c.hold.new.file) c.in-Ok.ensures.takes back)
    c.hold.ensures.room

pub returns-in-Ok-clause-settled : goal.returns-in-Ok-clause-settled
returns-in-Ok-clause-settled g c = λ n b settled.
    settled_freed c.store.new.file c.hold.new.file c.in-Ok.extent n b c.hold.ensures.keeps c.hold.ensures.disk
    (c.in-Ok.ensures.apart (extent_of n (length b)) settled.taken)
    (settled_spared c.args.file.now c.store.new.file c.store.ensures.spares n b settled)
