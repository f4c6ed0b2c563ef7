use Rattle.std.proofs.Common.{ℕ, ◌∙◌, ◌++◌, ap}
use Rattle.s3_outbox.specs.Pending.{placed, bytes_of}
use Rattle.s3_outbox.proofs.WovenLemmas.{reply_sound, reply_waits}
use Rattle.s3_outbox.proofs.pending.Pending.print.Goals as goal

pub returns-clause-sound : goal.returns-clause-sound
returns-clause-sound g c =
    let p = c.args.self.now in
    let head = c.print-body.ensures.printed in
    let bodies = c.place.ensures.items ∙ ap (λ (n : ℕ). placed p.bodies.items n c.print-body.result) (c.len.ensures ∙ c.print-body.new.out.ok.0) in
    reply_sound p.text.items head.0 p.at p.taken p.bodies.items c.print-body.result _ _ c.requires.sound head.1 bodies

pub returns-clause-printed : goal.returns-clause-printed
returns-clause-printed g c =
    let p = c.args.self.now in
    let head = c.print-body.ensures.printed in
    let bodies = c.place.ensures.items ∙ ap (λ (n : ℕ). placed p.bodies.items n c.print-body.result) (c.len.ensures ∙ c.print-body.new.out.ok.0) in (
      head.0 ++ bytes_of c.print-body.result,
      head.2,
      reply_waits p.text.items head.0 p.at p.taken p.bodies.items c.print-body.result _ _ c.requires.sound head.1 bodies,
    )
