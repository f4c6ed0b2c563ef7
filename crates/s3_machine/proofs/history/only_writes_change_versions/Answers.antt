use Rattle.s3_machine.proofs.EffectLemmas.{FollowRules}
use Rattle.s3_machine.proofs.TellingLemmas.{only_writes_change_versions}
use Rattle.s3_machine.proofs.history.only_writes_change_versions.Goals as goal

pub returns : goal.returns
returns c =
    let follow : FollowRules =
    record { keys = c.changes_follow_rules.ensures.rules; completions = c.changes_follow_rules.ensures.completions } in
    only_writes_change_versions c.changes_are_by_place.ensures.places follow
