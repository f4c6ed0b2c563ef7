use Rattle.std.proofs.Common.{refl}
use Rattle.s3_conditions.specs.Conditions.{judged, unmet, unchanged, selected}
use Rattle.s3_conditions.proofs.laws.plain_reads_show_all.Goals as goal

pub returns : goal.returns
unfolding judged unmet unchanged selected
returns c = λ moment tag size. refl
