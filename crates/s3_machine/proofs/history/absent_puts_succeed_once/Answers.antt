use Rattle.s3_machine.proofs.ConditionalLemmas.{accepted_finds_none, refused_finds_one, stored_keeps_others_out, one_is_accepted}
use Rattle.s3_machine.proofs.EffectLemmas.{FollowRules}
use Rattle.s3_machine.proofs.history.absent_puts_succeed_once.Goals as goal

pub returns : goal.returns
returns c =
    let follow : FollowRules =
    record { keys = c.changes_follow_rules.ensures.rules; completions = c.changes_follow_rules.ensures.completions } in
    let law = stored_keeps_others_out c.changes_are_by_place.ensures.places follow c.puts_are_current.ensures in
    record {
      accepted = accepted_finds_none;
      refused = refused_finds_one c.steps_keep.ensures.quiet;
      stored = law;
      once = one_is_accepted law;
    }
