use Rattle.s3_rows.proofs.ListLawLemmas.{rows_list_parts, rows_list_uploads}
use Rattle.s3_rows.proofs.laws.rows_list_uploads.Goals as goal

pub returns-clause-uploads : goal.returns-clause-uploads
returns-clause-uploads c = rows_list_uploads

pub returns-clause-parts : goal.returns-clause-parts
returns-clause-parts c = rows_list_parts
