use Rattle.s3_cli.proofs.FaultsLemmas.{next_told, none_next, told_of}
use Rattle.s3_cli.proofs.events.tell_one.Goals as goal

pub returns-in-Some : goal.returns-in-Some
returns-in-Some g c moments happened before s t =
    let world = c.args.world.now in
    next_told world moments happened c.print_fault.result c.args.connection c.fault.result before _ _
    (told_of world moments happened c.args.connection c.fault.result s c.requires (c.fault.ensures.some moments happened s) c.fault.ensures.over (c.fault.ensures.none moments happened s))
    t (rw c.in-Some.is c.print_fault.ensures.line)

pub returns-in-None : goal.returns-in-None
returns-in-None g c moments happened before s t =
    let world = c.args.world.now in
    none_next world moments happened c.args.connection c.fault.result before _
    (told_of world moments happened c.args.connection c.fault.result s c.requires (c.fault.ensures.some moments happened s) c.fault.ensures.over (c.fault.ensures.none moments happened s))
    t c.in-None.is
