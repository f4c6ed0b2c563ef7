use Rattle.std.proofs.Common.{arith}
use Rattle.s3_outbox.proofs.WovenLemmas.{front_fits}
use Rattle.s3_outbox.proofs.pending.Pending.send_front.Goals as goal

pub returns-then-text-gt0-clause-fits : goal.returns-then-text-gt0-clause-fits
returns-then-text-gt0-clause-fits c =
    let p = c.args.self.now in
    let le = front_fits p.text.items p.at p.taken p.bodies.items c.requires.sound in
    grind (arith, le)
