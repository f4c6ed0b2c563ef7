use Rattle.sqlite.specs.Files.{file_state}
use Rattle.s3_rows.specs.Columns.{Tables}
use Rattle.s3_found_rows.specs.declared.loading.Found.{Found}
use Rattle.s3_found_rows.specs.Found.{tables_of}
use Rattle.s3_file_records.proofs.FoundLemmas.{loaded_same, always_so}
use Rattle.s3_file_records.proofs.opening.loaded.Goals as goal

pub returns-clause-same : goal.returns-clause-same
returns-clause-same g c =
    loaded_same (λ (loaded : Tables × Found). loaded.0) c.in_memory.result (file_state c.read.new.self.tables) (tables_of c.in_ok-found.found) c.in_memory.ensures.same c.in_ok-found.ensures.found

pub returns-clause-stays : goal.returns-clause-stays
returns-clause-stays g c = always_so c.in_memory.result c.in_ok-found.ensures.stays
