use Rattle.s3_rule_laws.proofs.TagLemmas.{own_tag_is_met, other_tags_are_refused, own_tag_is_unchanged, other_tags_are_shown}
use Rattle.s3_rule_laws.proofs.tags.tags_decide.Goals as goal

pub returns-clause-own_met : goal.returns-clause-own_met
returns-clause-own_met c = own_tag_is_met

pub returns-clause-others_refused : goal.returns-clause-others_refused
returns-clause-others_refused c = other_tags_are_refused

pub returns-clause-own_unchanged : goal.returns-clause-own_unchanged
returns-clause-own_unchanged c = own_tag_is_unchanged

pub returns-clause-others_shown : goal.returns-clause-others_shown
returns-clause-others_shown c = other_tags_are_shown
