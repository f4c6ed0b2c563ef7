use Rattle.sqlite.specs.Files.{file_state}
use Rattle.s3_table_files.proofs.ReadingLemmas.{none_read}
use Rattle.s3_table_files.proofs.file_tables.FileTablesLastingTables.wake.Goals as goal

pub returns-then-is_live-clause-reads : goal.returns-then-is_live-clause-reads
returns-then-is_live-clause-reads g c = none_read (file_state c.args.self.now.tables) c.is_live.ensures.keeps
