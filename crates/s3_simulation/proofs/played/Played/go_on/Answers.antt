use Rattle.std.proofs.Common.{[], ◌++◌, ℕ, subst, sym}
use Rattle.s3_session.specs.Session.{moment_if}
use Rattle.s3_connection.specs.Holds.{Holds}
use Rattle.s3_simulation.specs.Moments.{handed}
use Rattle.s3_simulation.specs.Played.{Playing, Carries}
use Rattle.s3_simulation.proofs.PlayedLemmas.{plays_on}
use Rattle.s3_simulation.proofs.played.Played.go_on.Goals as goal

pub returns-clause-carries : goal.returns-clause-carries
returns-clause-carries c moments input entries h =
    let settings = c.args.config.now in
    let has = c.go_on-has_moment.result in
    let held = subst (λ (p : Playing). Carries p settings moments input entries) (sym c.self.view_is) h in
    plays_on _ _ settings moments input input entries has held c.left-self-inside.ensures
    (subst (λ (now : ℕ). Holds c.go_on-has_moment.new.self settings input (handed moments held.count ++ moment_if has now) entries []) c.next-now.ensures
    (c.go_on-has_moment.ensures.holds input (handed moments held.count) entries [] held.holds))
