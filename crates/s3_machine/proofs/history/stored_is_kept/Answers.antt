use Rattle.s3_machine.proofs.EffectLemmas.{FollowRules}
use Rattle.s3_machine.proofs.KeptLemmas.{stored_is_kept, versions_are_kept, stored_is_told}
use Rattle.s3_machine.proofs.history.stored_is_kept.Goals as goal

pub returns : goal.returns
returns c =
    let places = c.changes_are_by_place.ensures.places in
    let follow : FollowRules =
    record { keys = c.changes_follow_rules.ensures.rules; completions = c.changes_follow_rules.ensures.completions } in
    record {
      by_key = stored_is_kept places follow c.puts_are_current.ensures;
      by_version = versions_are_kept places follow;
      told = stored_is_told places follow;
    }
