use Rattle.std.proofs.Common.{ℕ, ◌∙◌, ap, refl}
use Rattle.std.proofs.lemmas.Slice.{pushed}
use Rattle.s3_outbox.specs.Pending.{placed}
use Rattle.s3_outbox.proofs.WovenLemmas.{reply_sound, reply_waits}
use Rattle.s3_outbox.proofs.pending.Pending.push.Goals as goal

pub returns-clause-sound : goal.returns-clause-sound
returns-clause-sound c =
    let p = c.args.self.now in
    let grown = pushed c.args.head.now refl c.in-Ok.is c.extend_from_slice.ensures.items in
    let bodies = c.place.ensures.items ∙ ap (λ (n : ℕ). placed p.bodies.items n c.args.body) (c.len.ensures ∙ c.extend_from_slice.new.self.ok.0) in
    reply_sound p.text.items c.args.head.now p.at p.taken p.bodies.items c.args.body _ _ c.requires.sound grown bodies

pub returns-clause-pushed : goal.returns-clause-pushed
returns-clause-pushed c =
    let p = c.args.self.now in
    let grown = pushed c.args.head.now refl c.in-Ok.is c.extend_from_slice.ensures.items in
    let bodies = c.place.ensures.items ∙ ap (λ (n : ℕ). placed p.bodies.items n c.args.body) (c.len.ensures ∙ c.extend_from_slice.new.self.ok.0) in
    reply_waits p.text.items c.args.head.now p.at p.taken p.bodies.items c.args.body _ _ c.requires.sound grown bodies
