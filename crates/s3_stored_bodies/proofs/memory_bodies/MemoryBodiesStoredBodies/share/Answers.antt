use Rattle.std.proofs.Common.{ap, ◌∙◌, arith}
use Rattle.s3_stored_bodies.specs.Held.{contents_of, uses_of, uses_in}
use Rattle.s3_stored_bodies.proofs.HeldLemmas.{contents_counted, uses_put_more}
use Rattle.s3_stored_bodies.proofs.memory_bodies.MemoryBodiesStoredBodies.share.Goals as goal

pub returns-clause-contents : goal.returns-clause-contents
returns-clause-contents c =
    ap contents_of (c.set_more.ensures c.found.result.now c.found.ensures)
    ∙ contents_counted c.args.self.now c.args.number c.found.result.now c.in-Some.more c.found.ensures

pub returns-clause-uses : goal.returns-clause-uses
returns-clause-uses c =
    let there = ap uses_in c.found.ensures in
    ap uses_of (c.set_more.ensures c.found.result.now c.found.ensures)
    ∙ uses_put_more c.args.self.now c.args.number (record { body = c.found.result.now.body; more = c.in-Some.more }) (grind (arith, there, c.in-Some.ensures))
