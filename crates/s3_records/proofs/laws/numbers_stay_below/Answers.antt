use Rattle.s3_records.proofs.PlaceLemmas.{numbers_stay_below, later_is_below, opening_is_below}
use Rattle.s3_records.proofs.laws.numbers_stay_below.Goals as goal

pub returns-clause-stay : goal.returns-clause-stay
returns-clause-stay g c = numbers_stay_below c.stay_versions.ensures.new

pub returns-clause-later : goal.returns-clause-later
returns-clause-later g c = later_is_below c.stay_versions.ensures.later

pub returns-clause-opening : goal.returns-clause-opening
returns-clause-opening g c = opening_is_below _
