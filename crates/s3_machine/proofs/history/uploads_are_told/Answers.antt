use Rattle.s3_machine.proofs.TellingLemmas.{begun_is_told, sent_is_told, copied_part_is_told, completed_is_told}
use Rattle.s3_machine.proofs.history.uploads_are_told.Goals as goal

pub returns : goal.returns
returns c =
    let law = c.changes_are_by_upload.ensures in
    let puts = c.puts_are_under_one_number.ensures.puts in
    record {
      begun = begun_is_told law puts;
      sent = sent_is_told law puts;
      copied = copied_part_is_told;
      completed = completed_is_told;
    }
