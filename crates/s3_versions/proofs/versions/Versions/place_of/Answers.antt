use Rattle.std.proofs.Common.{ap, subst, ◌∙◌, ◌<◌, IfSome, IsTrue, length}
use Rattle.std.specs.List.{position}
use Rattle.s3_versions.specs.Rules.{are_versions, is_under}
use Rattle.s3_versions.proofs.VersionLemmas.{place-absent, place-all, place-found, place-left, without-valid}
use Rattle.s3_versions.proofs.versions.Versions.place_of.Goals as goal

pub returns-clause-absent : goal.returns-clause-absent
returns-clause-absent g c =
    place-absent c.args.id c.args.self.now c.first_under.result
    (c.first_under.ensures.value ∙ ap (position (is_under c.args.id)) (c.deref.ensures.value ∙ c.self.view_is))

pub returns-clause-all : goal.returns-clause-all
returns-clause-all g c =
    place-all c.args.id c.args.self.now c.first_under.result
    (c.first_under.ensures.value ∙ ap (position (is_under c.args.id)) (c.deref.ensures.value ∙ c.self.view_is))

pub returns-clause-within : goal.returns-clause-within
returns-clause-within g c =
    subst (λ versions. IfSome c.first_under.result (λ place. place < length versions)) (c.deref.ensures.value ∙ c.self.view_is) c.first_under.ensures.bound

pub returns-clause-found : goal.returns-clause-found
returns-clause-found g c =
    place-found c.args.id c.args.self.now c.first_under.result
    (c.first_under.ensures.value ∙ ap (position (is_under c.args.id)) (c.deref.ensures.value ∙ c.self.view_is))

pub returns-clause-left : goal.returns-clause-left
returns-clause-left g c =
    place-left c.args.id c.args.self.now c.first_under.result
    (subst (λ versions. IsTrue (are_versions versions)) c.self.view_is c.self.invariant)
    (c.first_under.ensures.value ∙ ap (position (is_under c.args.id)) (c.deref.ensures.value ∙ c.self.view_is))

pub returns-clause-valid : goal.returns-clause-valid
returns-clause-valid g c =
    without-valid c.args.id c.args.self.now (subst (λ versions. IsTrue (are_versions versions)) c.self.view_is c.self.invariant)
