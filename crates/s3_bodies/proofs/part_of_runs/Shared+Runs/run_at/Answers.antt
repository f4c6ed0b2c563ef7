use Rattle.std.proofs.Common.{ap, ◌∙◌, ◌-◌, min}
use Rattle.s3_bodies.proofs.PartLemmas.{run_of_part}
use Rattle.s3_bodies.proofs.part_of_runs.Shared+Runs.run_at.Goals as goal

pub returns : goal.returns
returns c =
    run_of_part _ _ _ _ c.self.invariant c.self.view_is _ _ _ c.args.at c.min-size.result c.requires c.deref.ensures c.in_ok-run.ensures
    (c.min-size.ensures ∙ ap (λ n. min n (c.self.inside.size - c.args.at)) c.size.ensures) c.slice.ensures
