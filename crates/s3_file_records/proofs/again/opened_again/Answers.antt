use Rattle.std.proofs.Common.{ap, subst, ◌∙◌}
use Rattle.std.specs.Prelude.{IsTrue}
use Rattle.sqlite_wal.specs.Files.{image_at}
use Rattle.sqlite.specs.State.{HasCleanDisk}
use Rattle.sqlite.specs.Files.{file_state}
use Rattle.s3_tables.specs.Keeping.{Keeps}
use Rattle.s3_block_bodies.specs.Parts.{disk_in}
use Rattle.s3_table_files.specs.Blocks.{file_is_clean, file_may_leave}
use Rattle.s3_file_records.specs.Found.{catalogue_in}
use Rattle.s3_file_records.proofs.HeldLemmas.{all_left_found, all_late}
use Rattle.s3_file_records.proofs.again.opened_again.Goals as goal

pub returns-clause-found : goal.returns-clause-found
returns-clause-found g c =
    let keeps = subst (λ file. HasCleanDisk (file_state file.tables) → Keeps (file_state file.tables)) (c.file.ensures ∙ ap (λ rows. rows.file) c.rows.ensures.value) c.is_live-is_live.ensures.keeps in
    all_left_found (file_may_leave g.Q.Start) (file_is_clean g.Q.Start) (disk_in c.args.former.bodies) c.args.former.bodies.granules (file_state c.args.former.rows.file.tables) keeps c.rows.ensures.numbered (image_at g.S.Start) g.T.Start.db
    c.open.result (λ opened. file_state opened.first.value.rows.file.tables) (λ opened. IsTrue (file_is_clean g.T.Start (disk_in opened.first.value.bodies))) (λ opened. catalogue_in opened.first.value) (λ opened. opened.number)
    c.open.ensures.held

pub returns-clause-numbered : goal.returns-clause-numbered
returns-clause-numbered g c =
    let keeps = subst (λ file. HasCleanDisk (file_state file.tables) → Keeps (file_state file.tables)) (c.file.ensures ∙ ap (λ rows. rows.file) c.rows.ensures.value) c.is_live-is_live.ensures.keeps in
    all_late (file_may_leave g.Q.Start) (file_is_clean g.Q.Start) (disk_in c.args.former.bodies) c.args.former.bodies.granules (file_state c.args.former.rows.file.tables) keeps c.rows.ensures.numbered (image_at g.S.Start) g.T.Start.db
    c.open.result (λ opened. file_state opened.first.value.rows.file.tables) (λ opened. IsTrue (file_is_clean g.T.Start (disk_in opened.first.value.bodies))) (λ opened. catalogue_in opened.first.value) (λ opened. opened.number)
    c.open.ensures.held
