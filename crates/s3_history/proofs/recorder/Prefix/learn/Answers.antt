use Rattle.std.proofs.Common.{subst}
use mathlib.Core.List.{IsPrefix}
use Rattle.s3_history.specs.Log.{Trace, told}
use Rattle.s3_history.proofs.LineLemmas.{told-prefix}
use Rattle.s3_history.proofs.recorder.Prefix.learn.Goals as goal

pub returns-clause-kept : goal.returns-clause-kept
returns-clause-kept g c =
    let new = c.learn.new.self.log in
    subst (λ (t : Trace g.row.E.Denot). IsPrefix t.entries (told new)) c.self.view_is (told-prefix c.self.inside.seen.log new c.learn.ensures.2)

pub returns-clause-learned : goal.returns-clause-learned
returns-clause-learned g c =
    let new = c.learn.new.self.log in
    subst (λ (t : Trace g.row.E.Denot). IsPrefix t.entries (told new)) c.other.view_is (told-prefix c.other.inside.seen.log new c.learn.ensures.3)
