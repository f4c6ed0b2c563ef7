use Rattle.s3_machine.proofs.AnswerLemmas.{markers_hide}
use Rattle.s3_machine.proofs.EffectLemmas.{FollowRules}
use Rattle.s3_machine.proofs.history.delete_markers_hide.Goals as goal

pub returns : goal.returns
returns c =
    let follow : FollowRules =
    record { keys = c.changes_follow_rules.ensures.rules; completions = c.changes_follow_rules.ensures.completions } in
    record { hidden = markers_hide c.changes_are_by_place.ensures.places follow c.markers_hide.ensures.hidden }
