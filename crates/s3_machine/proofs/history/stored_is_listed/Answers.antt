use Rattle.s3_machine.proofs.EffectLemmas.{FollowRules}
use Rattle.s3_machine.proofs.ListLemmas.{listed_is_current, stored_is_listed, listed_is_stored}
use Rattle.s3_machine.proofs.StateLemmas.{Numbers}
use Rattle.s3_machine.proofs.history.stored_is_listed.Goals as goal

pub returns : goal.returns
returns c =
    let law = listed_is_current c.listed_keys_are_read.ensures.read in
    let places = c.changes_are_by_place.ensures.places in
    let follow : FollowRules =
    record { keys = c.changes_follow_rules.ensures.rules; completions = c.changes_follow_rules.ensures.completions } in
    let numbers : Numbers =
    record { stay = c.numbers_stay_below.ensures.stay; later = c.numbers_stay_below.ensures.later; opening = c.numbers_stay_below.ensures.opening } in
    record {
      listed = stored_is_listed law places follow c.puts_are_current.ensures;
      nothing_else = listed_is_stored law places follow numbers c.ids_differ.ensures.told;
    }
