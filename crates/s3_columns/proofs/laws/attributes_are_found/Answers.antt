use Rattle.s3_columns.proofs.AttributeLemmas.{type_found, metadata_found}
use Rattle.s3_columns.proofs.laws.attributes_are_found.Goals as goal

pub returns-clause-content_type : goal.returns-clause-content_type
returns-clause-content_type c = type_found

pub returns-clause-metadata : goal.returns-clause-metadata
returns-clause-metadata c = metadata_found
