use Rattle.std.proofs.Common.{◌≡◌, [], rules}
use Rattle.s3_tables.specs.Listed.{table_list, index_list}
use Rattle.s3_tables.proofs.FoundLemmas.{schema_is_ours}
use Rattle.s3_tables.proofs.comparing.is_ours.Goals as goal

pub returns : goal.returns
returns c is =
    let t : c.args.schema.now.tables ≡ table_list = search rules in
    let i : c.args.schema.now.indexes ≡ index_list = search rules in
    let v : c.args.schema.now.views ≡ [] = search rules in
    schema_is_ours c.args.schema.now t i v
