use Rattle.s3_machine.proofs.EffectLemmas.{FollowRules}
use Rattle.s3_machine.proofs.MarkerLemmas.{dropped_versions_are_gone, dropped_versions_are_not_found}
use Rattle.s3_machine.proofs.ids.dropped_versions_are_gone.Goals as goal

pub returns : goal.returns
returns c =
    let places = c.changes_are_by_place.ensures.places in
    let follow : FollowRules =
    record { keys = c.changes_follow_rules.ensures.rules; completions = c.changes_follow_rules.ensures.completions } in
    record { gone = dropped_versions_are_gone places follow; read = dropped_versions_are_not_found places follow }
