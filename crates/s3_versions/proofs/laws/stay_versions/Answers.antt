use Rattle.s3_versions.proofs.LawLemmas.{changes_leave_versions, numbers_stay_new, later_is_new}
use Rattle.s3_versions.proofs.laws.stay_versions.Goals as goal

pub returns-clause-leave : goal.returns-clause-leave
returns-clause-leave g c = changes_leave_versions

pub returns-clause-new : goal.returns-clause-new
returns-clause-new g c = numbers_stay_new

pub returns-clause-later : goal.returns-clause-later
returns-clause-later g c = later_is_new
