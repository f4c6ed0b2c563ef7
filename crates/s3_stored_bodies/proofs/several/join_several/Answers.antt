use Rattle.std.proofs.Common.{ap, ◌∙◌}
use Rattle.std.specs.List.{concat}
use Rattle.s3_stored_bodies.specs.Numbers.{bytes_under}
use Rattle.s3_stored_bodies.proofs.HeldLemmas.{if_ok}
use Rattle.s3_stored_bodies.proofs.JoinLemmas.{concat-each}
use Rattle.s3_stored_bodies.proofs.several.join_several.Goals as goal

pub returns-clause-value : goal.returns-clause-value
returns-clause-value g c =
    if_ok c.join.result
    (λ body is. is ∙ ap concat (c.as_slice.ensures.value ∙ c.in_ok-parts.ensures.value) ∙ concat-each (bytes_under (g.B.StoredBodies.contents c.args.bodies.now)) c.args.numbers.now)
    c.join.ensures
