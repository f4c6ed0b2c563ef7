use Rattle.std.proofs.Common.{◌≡◌, ◌⊎◌, ap, subst}
use mathlib.Core.List.{IsPrefix}
use Rattle.s3_history.specs.Log.{Trace, told}
use Rattle.s3_history.proofs.LineLemmas.{told-prefix, prefix-either}
use Rattle.s3_history.proofs.recorder.Prefix.meet.Goals as goal

pub returns : goal.returns
returns g c =
    let one = c.self.inside.seen.log in
    let two = c.other.inside.seen.log in
    let both = c.learn.new.self.log in
    let begins : IsPrefix one both = subst (λ l. IsPrefix l both) (ap (λ s. s.log) c.again-both.ensures) c.learn.ensures.2 in
    let either = prefix-either (told one) (told two) (told both) (told-prefix one both begins) (told-prefix two both c.learn.ensures.3) in
    subst (λ (t : Trace g.row.E.Denot). IsPrefix t.entries c.args.other.now.entries ⊎ IsPrefix c.args.other.now.entries t.entries) c.self.view_is
    (subst (λ (t : Trace g.row.E.Denot). IsPrefix (told one) t.entries ⊎ IsPrefix t.entries (told one)) c.other.view_is either)
