use Rattle.std.proofs.Common.{sym, ap, ◌∙◌}
use Rattle.std.proofs.lemmas.Option.{none-some}
use Rattle.s3_stored_bodies.specs.Held.{contents_of, uses_of, uses_in, get-contents_of}
use Rattle.s3_stored_bodies.proofs.HeldLemmas.{bytes_in, contents_put, uses_put_more, if_ok, if_both}
use Rattle.s3_stored_bodies.proofs.memory_bodies.MemoryBodiesStoredBodies.keep.Goals as goal

pub returns-clause-contents : goal.returns-clause-contents
returns-clause-contents c = if_ok c.add.result (λ number is. ap contents_of is ∙ contents_put c.args.self.now number (record { body = c.args.body; more = 0 })) c.add.ensures.ok

pub returns-clause-uses : goal.returns-clause-uses
returns-clause-uses c =
    if_both c.add.result
    (λ number is none. ap uses_of is ∙ uses_put_more c.args.self.now number (record { body = c.args.body; more = 0 }) (sym (ap uses_in none)))
    c.add.ensures.ok c.add.ensures.new

-- nothing stands under the number
pub returns-clause-new_or_same : goal.returns-clause-new_or_same
returns-clause-new_or_same c =
    if_ok c.add.result
    (λ number none bytes there. absurd (none-some bytes (sym (get-contents_of c.args.self.now number ∙ ap bytes_in none) ∙ there)))
    c.add.ensures.new
