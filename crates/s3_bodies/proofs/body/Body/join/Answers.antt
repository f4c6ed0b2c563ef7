use Rattle.std.proofs.Common.{ℕ, List, ap, length, arith}
use Rattle.std.specs.Borrow.{Bor}
use Rattle.std.proofs.lemmas.List.Folds.{length-flat_map-take}
use Rattle.s3_bodies.proofs.PartLemmas.{on_err}
use Rattle.s3_bodies.proofs.body.Body.join.Goals as goal

pub returns-in_err-add_to-clause-memory : goal.returns-in_err-add_to-clause-memory
returns-in_err-add_to-clause-memory c =
    let within = length-flat_map-take (λ (body : Bor (List ℕ)). body.now) c.args.bodies.now c.loop-body.body-index c.body-item.result c.loop-body-test.true in
    let same = ap (λ (body : Bor (List ℕ)). length body.now) c.body-item.is in
    let some = c.in_err-add_to.ensures.memory in
    on_err c.from_residual.result (omega (arith, within, same, some))
