use Rattle.std.proofs.Common.{Some, None}
use Rattle.std.specs.FinMap as map
use Rattle.s3_stored_bodies.proofs.TreeLemmas.{got}
use Rattle.s3_stored_bodies.proofs.HeldLemmas.{named_there}
use Rattle.s3_stored_bodies.proofs.memory_bodies.MemoryBodies.found.Goals as goal

-- a number that is named has a body
pub unreachable-requires : goal.unreachable-requires
unreachable-requires c =
    named_there (map.get c.args.self.now c.args.number) c.requires
    (got c.self.inside.by_number.entries c.args.self.now c.args.number None c.self.view_is c.in-None.ensures.value)

pub returns : goal.returns
returns c = got c.self.inside.by_number.entries c.args.self.now c.args.number (Some c.in-Some.held.now) c.self.view_is c.in-Some.ensures.value
