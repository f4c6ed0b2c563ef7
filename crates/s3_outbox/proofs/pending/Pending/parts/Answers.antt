use Rattle.std.proofs.Common.{length, arith}
use Rattle.s3_outbox.proofs.WovenLemmas.{first_within}
use Rattle.s3_outbox.proofs.pending.Pending.parts.Goals as goal

pub slice_bounds-with_body-end : goal.slice_bounds-with_body-end
slice_bounds-with_body-end c =
    let p = c.args.self.now in
    let le = first_within (length p.text.items) p.at p.bodies.items c.in-Some.first.now _ c.in-Some.ensures.first c.requires.sound.in_order in
    omega (arith, le, p.text.ok.0, c.deref-in-Some.ensures.len)
