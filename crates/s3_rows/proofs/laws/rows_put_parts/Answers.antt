use Rattle.s3_rows.proofs.PartPutLemmas.{rows_put_parts}
use Rattle.s3_rows.proofs.laws.rows_put_parts.Goals as goal

pub returns : goal.returns
returns c = rows_put_parts
