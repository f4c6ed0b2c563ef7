use Rattle.s3_machine.proofs.BaseLemmas.{LawsOfChanges, opening_is_sound, opening_has_nothing, histories_leave_sound}
use Rattle.s3_machine.proofs.EffectLemmas.{FollowRules}
use Rattle.s3_machine.proofs.StateLemmas.{Numbers}
use Rattle.s3_machine.proofs.history.histories_leave_sound_bases.Goals as goal

pub returns : goal.returns
returns c =
    let follow : FollowRules =
    record { keys = c.changes_follow_rules.ensures.rules; completions = c.changes_follow_rules.ensures.completions } in
    let numbers : Numbers =
    record { stay = c.numbers_stay_below.ensures.stay; later = c.numbers_stay_below.ensures.later; opening = c.numbers_stay_below.ensures.opening } in
    let filled = c.empty_has_nothing.ensures.filled in
    let laws : LawsOfChanges =
    record {
      places = c.changes_are_by_place.ensures.places;
      follow = follow;
      numbers = numbers;
      versions = c.versions_stay_in_order.ensures.stay;
      uploads = c.changes_are_by_upload.ensures;
      puts = c.puts_are_under_one_number.ensures.puts;
      order = c.puts_are_under_one_number.ensures.order;
      filled = filled;
    } in
    let empty = c.versions_stay_in_order.ensures.opening in
    record { opening = opening_is_sound numbers empty filled; nothing = opening_has_nothing empty; left = histories_leave_sound laws }
