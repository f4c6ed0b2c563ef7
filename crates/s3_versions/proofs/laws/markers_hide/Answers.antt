use Rattle.s3_versions.proofs.LawLemmas.{enabled_takes_nothing, only_null_goes}
use Rattle.s3_versions.proofs.laws.markers_hide.Goals as goal

pub returns-clause-kept : goal.returns-clause-kept
returns-clause-kept g c = enabled_takes_nothing

pub returns-clause-others : goal.returns-clause-others
returns-clause-others g c = only_null_goes
