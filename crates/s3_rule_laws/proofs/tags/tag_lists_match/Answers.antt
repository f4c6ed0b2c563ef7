use Rattle.s3_rule_laws.proofs.TagLemmas.{lists_name_tags, any_tag_matches}
use Rattle.s3_rule_laws.proofs.tags.tag_lists_match.Goals as goal

pub returns-clause-named : goal.returns-clause-named
returns-clause-named c = lists_name_tags

pub returns-clause-any : goal.returns-clause-any
returns-clause-any c = any_tag_matches
