use Rattle.s3_machine.proofs.EffectLemmas.{FollowRules}
use Rattle.s3_machine.proofs.OriginLemmas.{only_stored_stands, only_stored_is_given}
use Rattle.s3_machine.proofs.AnswerLemmas.{reads_give_or_fail, replies_say_what_is_asked}
use Rattle.s3_machine.proofs.BroughtLemmas.{stored_was_brought}
use Rattle.s3_machine.proofs.ShownLemmas.{reads_are_judged}
use Rattle.s3_machine.proofs.StateLemmas.{Numbers}
use Rattle.s3_machine.proofs.history.only_stored_is_given.Goals as goal

pub returns : goal.returns
returns c =
    let places = c.changes_are_by_place.ensures.places in
    let follow : FollowRules =
    record { keys = c.changes_follow_rules.ensures.rules; completions = c.changes_follow_rules.ensures.completions } in
    let numbers : Numbers =
    record { stay = c.numbers_stay_below.ensures.stay; later = c.numbers_stay_below.ensures.later; opening = c.numbers_stay_below.ensures.opening } in
    let ids = c.ids_differ.ensures.told in
    record {
      stands = only_stored_stands places follow numbers;
      given = only_stored_is_given places follow numbers ids;
      brought = stored_was_brought places follow numbers ids c.completions_join_what_was_sent.ensures;
      or_fails = reads_give_or_fail;
      judged = reads_are_judged;
      said = replies_say_what_is_asked;
    }
