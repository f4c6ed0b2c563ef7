use Rattle.std.proofs.Common.{◌∙◌}
use Rattle.s3_outbox.proofs.WovenLemmas.{none_waits}
use Rattle.s3_outbox.proofs.pending.Pending.give_back.Goals as goal

pub returns-clause-freed : goal.returns-clause-freed
returns-clause-freed c = λ none.
    let p = c.args.self.now in
    let sizes = none_waits p.text.items p.at p.taken p.bodies.items c.requires.sound none in
    (c.shrink_to_fit.ensures.frees (p.text.ok.0 ∙ sizes.0), c.shrink_to_fit-2.ensures.frees (p.bodies.ok.0 ∙ sizes.1))
