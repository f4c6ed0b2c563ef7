use Rattle.s3_machine.proofs.DeletedLemmas.{named_keys_are_gone, named_versions_are_gone, other_versions_stay, deletions_are_told, markers_are_told_once}
use Rattle.s3_machine.proofs.EffectLemmas.{FollowRules}
use Rattle.s3_machine.proofs.StateLemmas.{Numbers}
use Rattle.s3_machine.proofs.history.named_objects_are_gone.Goals as goal

pub returns : goal.returns
returns c =
    let places = c.changes_are_by_place.ensures.places in
    let follow : FollowRules =
    record { keys = c.changes_follow_rules.ensures.rules; completions = c.changes_follow_rules.ensures.completions } in
    let numbers : Numbers =
    record { stay = c.numbers_stay_below.ensures.stay; later = c.numbers_stay_below.ensures.later; opening = c.numbers_stay_below.ensures.opening } in
    record {
      keys = named_keys_are_gone places follow numbers c.markers_hide.ensures.hidden;
      versions = named_versions_are_gone places follow numbers;
      others = other_versions_stay places;
      told = deletions_are_told;
      once = markers_are_told_once places;
    }
