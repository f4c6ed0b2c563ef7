use Rattle.s3_columns.proofs.ColumnLemmas.{versioning_found}
use Rattle.s3_columns.proofs.laws.versioning_is_found.Goals as goal

pub returns : goal.returns
returns c = versioning_found
