use Rattle.s3_machine.proofs.OpenLemmas.{parts_are_kept, only_sent_stands}
use Rattle.s3_machine.proofs.RowLemmas.{parts_are_listed_while_standing}
use Rattle.s3_machine.proofs.history.parts_are_kept.Goals as goal

pub returns : goal.returns
returns c =
    let law = c.changes_are_by_upload.ensures in
    let puts = c.puts_are_under_one_number.ensures.puts in
    let kept = parts_are_kept law puts in
    let only = only_sent_stands law puts in
    record {
      kept = kept;
      nothing_else = only;
      listed = parts_are_listed_while_standing law puts c.puts_are_under_one_number.ensures.order kept only;
    }
