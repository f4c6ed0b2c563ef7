use Rattle.std.proofs.Common.{sym, ◌∙◌}
use Rattle.s3_versions.specs.Rules.{is_under}
use Rattle.s3_records.proofs.ListLemmas.{behind_none, behind_some}
use Rattle.s3_records.proofs.listing.behind.Goals as goal

pub returns-in-None : goal.returns-in-None
returns-in-None c = sym (behind_none (is_under c.args.id) c.args.versions.now (sym c.place_of.ensures.value ∙ c.in-None.is))

pub returns-in-Some : goal.returns-in-Some
returns-in-Some c = behind_some (is_under c.args.id) c.args.versions.now c.in-Some.place (sym c.place_of.ensures.value ∙ c.in-Some.is)
