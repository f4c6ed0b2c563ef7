use Rattle.s3_machine.proofs.EffectLemmas.{FollowRules}
use Rattle.s3_machine.proofs.MarkerLemmas.{markers_answer_to_their_id, markers_are_deleted_by_their_id}
use Rattle.s3_machine.proofs.ids.markers_answer_to_their_id.Goals as goal

pub returns : goal.returns
returns c =
    let places = c.changes_are_by_place.ensures.places in
    let local = c.changes_are_local.ensures.buckets in
    let follow : FollowRules =
    record { keys = c.changes_follow_rules.ensures.rules; completions = c.changes_follow_rules.ensures.completions } in
    record {
      read = markers_answer_to_their_id places follow local;
      deleted = markers_are_deleted_by_their_id places follow local;
    }
