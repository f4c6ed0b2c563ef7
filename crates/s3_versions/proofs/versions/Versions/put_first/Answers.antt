use Rattle.std.proofs.Common.{◌≡◌, sym, ap, subst, ◌∙◌, ◌∷◌, OnOk, OnErr}
use Rattle.std.specs.List.{remove}
use Rattle.s3_versions.specs.Rules.{without}
use Rattle.s3_versions.proofs.versions.Versions.put_first.Goals as goal

pub returns-in-None-clause-ok : goal.returns-in-None-clause-ok
returns-in-None-clause-ok g c =
    subst (λ behind. OnOk c.insert_first.result (c.insert_first.new.versions.items ≡ c.args.version ∷ behind))
    (c.self.view_is ∙ sym c.in-None.ensures.all ∙ ap (λ id. without id c.args.self.now) c.id.ensures)
    c.insert_first.ensures.ok

pub returns-in-None-clause-err : goal.returns-in-None-clause-err
returns-in-None-clause-err g c =
    subst (λ old. OnErr c.insert_first.result (c.insert_first.new.versions.items ≡ old)) c.self.view_is c.insert_first.ensures.err

pub returns-in-Some-clause-ok : goal.returns-in-Some-clause-ok
returns-in-Some-clause-ok g c =
    c.replace_at.ensures ∙ ap (λ versions. c.args.version ∷ remove versions c.in-Some.place) c.self.view_is
    ∙ ap (λ versions. c.args.version ∷ versions) (c.in-Some.ensures.left ∙ ap (λ id. without id c.args.self.now) c.id.ensures)
