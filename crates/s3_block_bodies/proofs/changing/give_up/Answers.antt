use Rattle.std.proofs.Common.{arith}
use Rattle.std.specs.Prelude.{is_ok}
use Rattle.s3_stored_bodies.specs.Held.{contents_of, uses_of as count_of}
use Rattle.s3_block_file.specs.BlockFile.{uses_of}
use Rattle.s3_block_bodies.specs.Stored.{extent_of}
use Rattle.s3_block_bodies.proofs.MapLemmas.{was_there, unnamed_if}
use Rattle.s3_block_bodies.proofs.SoundLemmas.{waits_less, waits_pushed, apart_from_gone, taken_where, none_waits_where}
use Rattle.s3_block_bodies.proofs.changing.give_up.Goals as goal

-- another row names it
pub returns-then-is_named-clause-waits : goal.returns-then-is_named-clause-waits
returns-then-is_named-clause-waits g c =
    waits_less (contents_of c.args.memory.now) (contents_of c.give_up.new.self) c.args.waiting.now.items (uses_of c.args.file.now)
    (was_there c.args.memory.now c.give_up.new.self c.give_up.ensures.contents) c.requires.waits

pub overflow_add-room : goal.overflow_add-room
overflow_add-room g c =
    let is = taken_where c.args.memory.now (uses_of c.args.file.now) c.args.number c.size-size.result c.requires.named c.size-size.ensures c.requires.housed in
    omega (arith, is.1.1)

-- no row names it any more
pub returns-clause-waits : goal.returns-clause-waits
returns-clause-waits g c =
    let new = c.give_up.new.self in
    let granules = uses_of c.args.file.now in
    let gone = unnamed_if c.is_named.result (count_of new c.args.number) c.is_named.ensures c.if-is_named.false in
    waits_pushed (contents_of new) c.args.waiting.now.items c.push.new.self.items granules (extent_of c.args.number c.size-size.result) (is_ok c.push.result) c.push.ensures.items
    (none_waits_where c.args.memory.now c.args.waiting.now.items granules c.args.number c.size-size.result c.requires.named c.size-size.ensures c.requires.waits)
    (taken_where c.args.memory.now granules c.args.number c.size-size.result c.requires.named c.size-size.ensures c.requires.housed).0
    (apart_from_gone c.args.memory.now new granules c.args.number c.size-size.result c.give_up.ensures.contents c.requires.named gone c.size-size.ensures c.requires.housed)
    (waits_less (contents_of c.args.memory.now) (contents_of new) c.args.waiting.now.items granules (was_there c.args.memory.now new c.give_up.ensures.contents) c.requires.waits)
