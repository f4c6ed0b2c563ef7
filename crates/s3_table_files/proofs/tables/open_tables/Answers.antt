use Rattle.sqlite_wal.specs.Files.{image_at}
use Rattle.sqlite.specs.Files.{over_files, file_state}
use Rattle.s3_table_files.proofs.OpeningLemmas.{all_taken, all_found}
use Rattle.s3_table_files.proofs.tables.open_tables.Goals as goal

pub returns-clause-taken : goal.returns-clause-taken
returns-clause-taken g c =
    all_taken over_files (image_at g.S.Start) (file_state c.in_ok-conn.conn) c.in_ok-conn.ensures.found c.in_ok-conn.ensures.opened c.tables_of.result c.tables_of.ensures.falls c.tables_of.ensures.takes

pub returns-clause-found : goal.returns-clause-found
returns-clause-found g c =
    all_found over_files (image_at g.S.Start) (file_state c.in_ok-conn.conn) c.in_ok-conn.ensures.found c.in_ok-conn.ensures.opened c.stored_tables_are_one.ensures.shown c.tables_of.result c.tables_of.ensures.falls
    c.tables_of.ensures.takes
