use Rattle.std.proofs.Common.{ap, ◌∙◌, map, Some}
use Rattle.json.specs.Value.{value_view}
use Rattle.json.proofs.Trees.{view-Array}
use Rattle.s3_request_documents.specs.Data.{seen}
use Rattle.s3_request_documents.proofs.DataLemmas.{elements_at}
use Rattle.s3_request_documents.proofs.data.as_array.Goals as goal

pub returns-in-Array : goal.returns-in-Array
returns-in-Array c =
    ap (λ items. Some (map seen items)) c.as_slice.ensures.value
    ∙ elements_at (value_view c.args.value.now) c.in-Array.items.items (ap value_view c.in-Array.is ∙ view-Array c.in-Array.items)
