use Rattle.s3_machine.proofs.EffectLemmas.{FollowRules}
use Rattle.s3_machine.proofs.MarkerLemmas.{undeleted_keys_come_back, undeleted_keys_are_given}
use Rattle.s3_machine.proofs.StateLemmas.{Numbers}
use Rattle.s3_machine.proofs.ids.undeleted_keys_come_back.Goals as goal

pub returns : goal.returns
returns c =
    let follow : FollowRules =
    record { keys = c.changes_follow_rules.ensures.rules; completions = c.changes_follow_rules.ensures.completions } in
    let numbers : Numbers =
    record { stay = c.numbers_stay_below.ensures.stay; later = c.numbers_stay_below.ensures.later; opening = c.numbers_stay_below.ensures.opening } in
    let versions = undeleted_keys_come_back c.changes_are_by_place.ensures.places follow numbers in
    record { versions = versions; read = undeleted_keys_are_given versions }
