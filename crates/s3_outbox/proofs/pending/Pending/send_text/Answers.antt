use Rattle.std.proofs.Common.{◌∙◌, arith}
use Rattle.s3_outbox.proofs.WovenLemmas.{within, text_in_order, text_sent}
use Rattle.s3_outbox.proofs.pending.Pending.send_text.Goals as goal

pub overflow_add-self : goal.overflow_add-self
overflow_add-self c =
    let p = c.args.self.now in
    let order = text_in_order p.text.items p.at p.taken c.args.count p.bodies.items c.requires.sound c.requires.fits in
    omega (arith, within _ _ p.bodies.items order, p.text.ok.0, p.text.ok.1, p.text.small)

pub returns-clause-sent : goal.returns-clause-sent
returns-clause-sent c =
    let p = c.args.self.now in
    c.rewind.ensures.same ∙ text_sent p.text.items p.at p.taken c.args.count p.bodies.items c.requires.sound c.requires.fits
