use Rattle.std.proofs.Common.{[], ◌++◌, ℕ, subst, sym}
use Rattle.s3_session.specs.Session.{moment_if}
use Rattle.s3_connection.specs.Connection.{received}
use Rattle.s3_connection.specs.Holds.{Holds}
use Rattle.s3_simulation.specs.Moments.{handed}
use Rattle.s3_simulation.specs.Played.{Playing, Plays}
use Rattle.s3_simulation.proofs.PlayedLemmas.{plays_on}
use Rattle.s3_simulation.proofs.played.Played.feed.Goals as goal

pub returns-clause-plays : goal.returns-clause-plays
returns-clause-plays c moments input entries h =
    let settings = c.args.config.now in
    let later = received input c.args.piece.now in
    let has = c.in_ok-has_moment.has_moment in
    let held = subst (λ (p : Playing). Plays p settings moments input entries) (sym c.self.view_is) h in (
      plays_on _ _ settings moments input later entries has held.0 c.left-self-inside.ensures
          (subst (λ (now : ℕ). Holds c.piece.new.self settings later (handed moments held.0.count ++ moment_if has now) entries []) c.next-now.ensures
          (c.in_ok-has_moment.ensures.holds input (handed moments held.0.count) entries [] held.0.holds)),
      c.in_ok-has_moment.ensures.next held.1,
    )
