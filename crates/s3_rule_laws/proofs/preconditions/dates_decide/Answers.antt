use Rattle.s3_rule_laws.proofs.PreconditionLemmas.{same_second_is_met, same_second_is_unchanged, later_dates_are_met, later_dates_are_unchanged, dates_are_opposite}
use Rattle.s3_rule_laws.proofs.preconditions.dates_decide.Goals as goal

pub returns-clause-same_met : goal.returns-clause-same_met
returns-clause-same_met c = same_second_is_met

pub returns-clause-same_unchanged : goal.returns-clause-same_unchanged
returns-clause-same_unchanged c = same_second_is_unchanged

pub returns-clause-later_met : goal.returns-clause-later_met
returns-clause-later_met c = later_dates_are_met

pub returns-clause-later_unchanged : goal.returns-clause-later_unchanged
returns-clause-later_unchanged c = later_dates_are_unchanged

pub returns-clause-opposite : goal.returns-clause-opposite
returns-clause-opposite c = dates_are_opposite
