use Rattle.std.proofs.Common.{◌≡◌, ◌+◌, ◌<◌, ◌∙◌, length, arith}
use Rattle.s3_outbox.specs.Pending.{body_size}
use Rattle.s3_outbox.proofs.SendLemmas.{part_sound, part_sent, rest_in_order, body_sent}
use Rattle.s3_outbox.proofs.WovenLemmas.{none_gone}
use Rattle.s3_outbox.proofs.pending.Pending.send_body.Goals as goal

pub returns-then-count-body_size-clause-sound : goal.returns-then-count-body_size-clause-sound
returns-then-count-body_size-clause-sound c =
    let p = c.args.self.now in
    let some : p.taken + c.args.count < body_size p.bodies.items = omega (arith, c.if-count-body_size.true, c.body_size.ensures.value) in
    part_sound p.text.items p.at p.taken c.args.count p.bodies.items c.requires.sound c.requires.behind some

pub returns-then-count-body_size-clause-sent : goal.returns-then-count-body_size-clause-sent
returns-then-count-body_size-clause-sent c =
    let p = c.args.self.now in
    let some : p.taken + c.args.count < body_size p.bodies.items = omega (arith, c.if-count-body_size.true, c.body_size.ensures.value) in
    part_sent p.text.items p.at p.taken c.args.count p.bodies.items c.requires.behind some

pub rewind-requires : goal.rewind-requires
rewind-requires c =
    let p = c.args.self.now in
    let order = rest_in_order p.text.items p.at p.taken p.bodies.items _ c.requires.sound c.requires.behind c.pop_front-sent.ensures.rest in
    record { in_order = order; part_gone = none_gone (length p.text.items) p.at _ order }

pub returns-clause-sent : goal.returns-clause-sent
returns-clause-sent c =
    let p = c.args.self.now in
    let whole : p.taken + c.args.count ≡ body_size p.bodies.items = omega (arith, c.if-count-body_size.false, c.body_size.ensures.value, c.requires.fits) in
    c.rewind.ensures.same ∙ body_sent p.text.items p.at p.taken c.args.count p.bodies.items _ c.requires.sound c.requires.behind c.requires.some whole c.pop_front-sent.ensures.rest
