use Rattle.sqlite.specs.State.{HasCleanDisk}
use Rattle.s3_file_records.specs.Found.{WasOpen}
use Rattle.s3_file_records.proofs.FoundLemmas.{so_of_same}
use Rattle.s3_file_records.proofs.opening.over_both.Goals as goal

pub returns-in-Ok-clause-was : goal.returns-in-Ok-clause-was
returns-in-Ok-clause-was g c =
    so_of_same (λ opened. opened.first.value.rows) c.in-Ok.rows (λ rows. HasCleanDisk (g.F.LastingTables.state rows.file) → WasOpen (g.F.LastingTables.state c.args.file)) c.begin_with.result c.begin_with.ensures.rows
    c.in-Ok.ensures.was
