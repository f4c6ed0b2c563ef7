use Rattle.std.proofs.Common.{sym, subst, IsTrue}
use Rattle.s3_block_file.specs.Extent.{granules_for}
use Rattle.s3_block_file.specs.Uses.{OneMore, AreTaken}
use Rattle.s3_block_file.specs.BlockFile.{uses_of}
use Rattle.s3_block_bodies.proofs.RoomLemmas.{room_back}
use Rattle.s3_block_bodies.proofs.SparesLemmas.{spares_room, spares_none, spares_back}
use Rattle.s3_block_bodies.proofs.writing.store.Goals as goal

-- no room was found
pub returns-in_err-extent-clause-spares : goal.returns-in_err-extent-clause-spares
returns-in_err-extent-clause-spares g c = spares_none c.args.file.now c.reserve.new.self c.reserve.ensures.keeps c.reserve.ensures.disk

pub write-requires-clause-usable : goal.write-requires-clause-usable
write-requires-clause-usable g c = subst (λ disk. IsTrue (g.D.Disk.is_usable disk)) (sym c.reserve.ensures.disk) c.requires

-- what was taken is given back
pub free-requires : goal.free-requires
free-requires g c =
    subst (λ uses. AreTaken uses c.in_ok-extent.extent.first (granules_for c.in_ok-extent.extent.size)) (sym c.write.ensures.spares.uses) c.in_ok-extent.ensures.live

pub returns-in-Err-clause-spares : goal.returns-in-Err-clause-spares
returns-in-Err-clause-spares g c =
    let e = c.in_ok-extent.extent in
    spares_back e c.args.file.now c.write.new.file c.free.new.self c.in_ok-extent.ensures.apart c.free.ensures.keeps c.free.ensures.disk
    (spares_room e c.args.file.now c.reserve.new.self c.write.new.file c.in_ok-extent.ensures.apart c.reserve.ensures.keeps c.reserve.ensures.disk c.write.ensures.spares)

pub returns-in-Err-clause-room : goal.returns-in-Err-clause-room
returns-in-Err-clause-room g c =
    let e = c.in_ok-extent.extent in
    room_back e.first (granules_for e.size) (uses_of c.args.file.now) (uses_of c.reserve.new.self) (uses_of c.free.new.self) c.in_ok-extent.ensures.takes
    (subst (OneMore e.first (granules_for e.size) (uses_of c.free.new.self)) c.write.ensures.spares.uses c.free.ensures.gives)

pub returns-in-Ok-clause-takes : goal.returns-in-Ok-clause-takes
returns-in-Ok-clause-takes g c =
    let e = c.in_ok-extent.extent in
    subst (OneMore e.first (granules_for e.size) (uses_of c.args.file.now)) (sym c.write.ensures.spares.uses) c.in_ok-extent.ensures.takes

pub returns-in-Ok-clause-live : goal.returns-in-Ok-clause-live
returns-in-Ok-clause-live g c =
    subst (λ uses. AreTaken uses c.in_ok-extent.extent.first (granules_for c.in_ok-extent.extent.size)) (sym c.write.ensures.spares.uses) c.in_ok-extent.ensures.live

pub returns-in-Ok-clause-spares : goal.returns-in-Ok-clause-spares
returns-in-Ok-clause-spares g c =
    spares_room c.in_ok-extent.extent c.args.file.now c.reserve.new.self c.write.new.file c.in_ok-extent.ensures.apart c.reserve.ensures.keeps c.reserve.ensures.disk c.write.ensures.spares
