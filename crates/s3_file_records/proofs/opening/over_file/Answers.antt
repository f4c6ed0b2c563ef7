use Rattle.std.specs.Prelude.{IsTrue}
use Rattle.s3_block_bodies.specs.Parts.{contents_in, disk_in}
use Rattle.s3_table_files.specs.Blocks.{file_is_clean}
use Rattle.s3_file_records.proofs.HeldLemmas.{all_as_found}
use Rattle.s3_file_records.proofs.opening.over_file.Goals as goal

pub returns-in-Ok-clause-first : goal.returns-in-Ok-clause-first
returns-in-Ok-clause-first g c =
    all_as_found g.T.Start.db (g.F.LastingTables.state c.args.file) c.args.memory c.args.found.now.bodies.items (λ opened. g.F.LastingTables.state opened.first.value.rows.file) (λ opened. opened.first.value.rows.memory)
    (λ opened. opened.first.value.bodies) c.in-Ok.bodies (λ bodies. IsTrue (file_is_clean g.T.Start (disk_in bodies))) contents_in c.over_both.result c.over_both.ensures.rows c.over_both.ensures.was c.over_both.ensures.bodies
    c.in-Ok.ensures.found
