use Rattle.s3_replies.proofs.ReplyLemmas.{success_is_shown, objects_are_carried, parts_are_carried, regions_are_told, heads_tell_of_replies}
use Rattle.s3_replies.proofs.UnbrokenLemmas.{tags_are_unbroken}
use Rattle.s3_replies.proofs.laws.replies_show_what_came.Goals as goal

pub returns : goal.returns
returns c = record {
  success = success_is_shown;
  objects = objects_are_carried;
  parts = parts_are_carried;
  regions = regions_are_told;
  heads = heads_tell_of_replies;
  tags = tags_are_unbroken;
}
