use Rattle.s3_tables.proofs.UniqueLemmas.{rows_unique}
use Rattle.s3_tables.proofs.laws.stored_rows_are_unique.Goals as goal

pub returns : goal.returns
returns c db t s = rows_unique db t s
