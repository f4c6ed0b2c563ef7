use Rattle.std.proofs.Common.{sym, ◌∙◌}
use Rattle.json.specs.Value.{value_view}
use Rattle.s3_request_documents.proofs.DataLemmas.{text_at}
use Rattle.s3_request_documents.proofs.data.as_str.Goals as goal

pub returns : goal.returns
returns c = c.as_str.ensures ∙ sym (text_at (value_view c.args.value.now))
