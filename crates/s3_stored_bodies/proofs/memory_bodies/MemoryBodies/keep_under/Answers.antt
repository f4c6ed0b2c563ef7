use Rattle.std.proofs.Common.{sym, ap, ◌∙◌}
use Rattle.s3_stored_bodies.specs.Held.{contents_of, uses_of}
use Rattle.s3_stored_bodies.proofs.HeldLemmas.{contents_put, uses_put_more, then_ok}
use Rattle.s3_stored_bodies.proofs.memory_bodies.MemoryBodies.keep_under.Goals as goal

pub returns-clause-contents : goal.returns-clause-contents
returns-clause-contents c = then_ok c.put.result (λ is. ap contents_of is ∙ contents_put c.args.self.now c.args.number (record { body = c.args.body; more = 0 })) c.put.ensures.ok

pub returns-clause-uses : goal.returns-clause-uses
returns-clause-uses c =
    then_ok c.put.result (λ is. ap uses_of is ∙ uses_put_more c.args.self.now c.args.number (record { body = c.args.body; more = 0 }) (sym c.requires.unnamed)) c.put.ensures.ok
