use Rattle.s3_machine.proofs.OpenLemmas.{uploads_are_open_until_ended}
use Rattle.s3_machine.proofs.TellingLemmas.{uploads_are_listed_while_open}
use Rattle.s3_machine.proofs.history.uploads_are_open_until_ended.Goals as goal

pub returns : goal.returns
returns c =
    let law = uploads_are_open_until_ended c.changes_are_by_upload.ensures c.puts_are_under_one_number.ensures.puts in
    record { begun = law; listed = uploads_are_listed_while_open c.uploads_are_listed.ensures.listed law }
