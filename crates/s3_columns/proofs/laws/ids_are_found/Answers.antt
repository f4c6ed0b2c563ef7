use Rattle.s3_columns.proofs.ColumnLemmas.{id_found, ids_apart}
use Rattle.s3_columns.proofs.laws.ids_are_found.Goals as goal

pub returns-clause-found : goal.returns-clause-found
returns-clause-found c = id_found

pub returns-clause-apart : goal.returns-clause-apart
returns-clause-apart c = ids_apart
