use Rattle.s3_machine.proofs.IdLemmas.{version_ids_are_told_once, version_ids_are_new, upload_ids_are_told_once, upload_ids_are_new}
use Rattle.s3_machine.proofs.ids.ids_are_told_once.Goals as goal

pub returns : goal.returns
returns c =
    let left = c.histories_leave_sound_bases.ensures.left in
    record {
      versions = version_ids_are_told_once;
      new_versions = version_ids_are_new left c.numbers_stay_below.ensures.later;
      uploads = upload_ids_are_told_once;
      new_uploads = upload_ids_are_new left;
    }
