use Rattle.std.proofs.Common.{sym, ap, subst, IsTrue, ℕ, ◌<◌}
use Rattle.s3_block_bodies.proofs.SameLemmas.{found_again}
use Rattle.s3_block_bodies.proofs.surviving.opened_after_crash.Goals as goal

pub returns-clause-survive : goal.returns-clause-survive
returns-clause-survive g c = λ clean number bytes settled named.
    let after = c.in_ok-after.after in
    let file = g.D.Disk.seen c.crash.new.self in
    let was_clean : IsTrue (g.D.Disk.is_clean c.args.bodies.disk) = subst (λ disk. IsTrue (g.D.Disk.is_clean disk)) c.into_disk-disk.ensures (c.crash.ensures.clean (c.in_ok-after.ensures.clean clean)) in
    let left : g.D.Disk.may_leave c.args.bodies.disk file = subst (λ disk. g.D.Disk.may_leave disk file) c.into_disk-disk.ensures c.crash.ensures.left in
    found_again file after.held after.granules c.are_housed.ensures.housed (c.in_ok-after.ensures.found clean) number bytes settled.addressable (settled.later was_clean file left)
    (subst (λ count. 0 < count) (sym (ap (λ (uses : ℕ → ℕ). uses number) c.in_ok-after.ensures.uses)) named)
