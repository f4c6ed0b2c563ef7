use Rattle.s3_machine.proofs.EffectLemmas.{FollowRules, quiet_steps_change_nothing, steps_stay_below}
use Rattle.s3_machine.proofs.laws.steps_keep.Goals as goal

pub returns-clause-quiet : goal.returns-clause-quiet
returns-clause-quiet c =
    let follow : FollowRules =
    record { keys = c.changes_follow_rules.ensures.rules; completions = c.changes_follow_rules.ensures.completions } in
    quiet_steps_change_nothing c.changes_are_by_place.ensures.places follow

pub returns-clause-numbers : goal.returns-clause-numbers
returns-clause-numbers c =
    let follow : FollowRules =
    record { keys = c.changes_follow_rules.ensures.rules; completions = c.changes_follow_rules.ensures.completions } in
    steps_stay_below c.changes_are_by_place.ensures.places follow
    c.numbers_stay_below.ensures.stay c.numbers_stay_below.ensures.later
