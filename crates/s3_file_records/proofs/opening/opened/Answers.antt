use Rattle.std.specs.Prelude.{IsTrue}
use Rattle.sqlite_wal.specs.Files.{image_at}
use Rattle.sqlite.specs.Files.{file_state}
use Rattle.s3_block_bodies.specs.Parts.{contents_in, disk_in}
use Rattle.s3_table_files.specs.Blocks.{file_is_clean}
use Rattle.s3_file_records.proofs.HeldLemmas.{all_held}
use Rattle.s3_file_records.proofs.opening.opened.Goals as goal

pub returns-clause-held : goal.returns-clause-held
returns-clause-held g c =
    let read = c.in_ok-file in
    all_held (image_at g.S.Start) g.T.Start.db (file_state read.file.tables) read.memory read.found.bodies.items read.found.number read.ensures.found.named read.ensures.store
    read.ensures.held
    c.over_file.result (λ opened. file_state opened.first.value.rows.file.tables) (λ opened. IsTrue (file_is_clean g.T.Start (disk_in opened.first.value.bodies))) (λ opened. opened.first.value.rows.memory)
    (λ opened. contents_in opened.first.value.bodies) (λ opened. opened.number) c.over_file.ensures.first c.over_file.ensures.number
