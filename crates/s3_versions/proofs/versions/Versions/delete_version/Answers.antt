use Rattle.std.proofs.Common.{ap, ◌∙◌, sym}
use Rattle.std.specs.List.{remove, slice_get}
use Rattle.s3_versions.proofs.versions.Versions.delete_version.Goals as goal

pub returns-in-Some-clause-value : goal.returns-in-Some-clause-value
returns-in-Some-clause-value g c =
    c.take_at.ensures.items ∙ ap (λ versions. remove versions c.in-Some.place) c.self.view_is ∙ c.in-Some.ensures.left

pub returns-in-Some-clause-gone : goal.returns-in-Some-clause-gone
returns-in-Some-clause-gone g c =
    sym c.take_at.ensures.gone ∙ ap (λ versions. slice_get versions c.in-Some.place) c.self.view_is ∙ sym c.in-Some.ensures.found
