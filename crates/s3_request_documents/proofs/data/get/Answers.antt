use Rattle.std.proofs.Common.{ap, sym, ◌∙◌, option_map}
use Rattle.json.specs.Value.{value_view}
use Rattle.s3_request_documents.specs.Data.{data_of}
use Rattle.s3_request_documents.proofs.DataLemmas.{get_at, data_found}
use Rattle.s3_request_documents.proofs.data.get.Goals as goal

pub returns : goal.returns
returns c =
    data_found (λ found. value_view found.now) c.get.result
    ∙ ap (option_map data_of) c.get.ensures
    ∙ sym (get_at c.args.name.now (value_view c.args.value.now))
