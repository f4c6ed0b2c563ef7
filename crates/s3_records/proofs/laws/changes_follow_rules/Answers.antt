use Rattle.s3_records.proofs.LawLemmas.{changes_follow_rules, completions_follow_rules, completions_do_both, switches_keep_keys}
use Rattle.s3_records.proofs.laws.changes_follow_rules.Goals as goal

pub returns-clause-rules : goal.returns-clause-rules
returns-clause-rules g c = changes_follow_rules

pub returns-clause-switches : goal.returns-clause-switches
returns-clause-switches g c = switches_keep_keys

pub returns-clause-completions : goal.returns-clause-completions
returns-clause-completions g c = completions_follow_rules

pub returns-clause-both : goal.returns-clause-both
returns-clause-both g c = completions_do_both
