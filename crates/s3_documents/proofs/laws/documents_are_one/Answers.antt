use Rattle.s3_documents.proofs.LawLemmas.{timestamps_spell}
use Rattle.s3_documents.proofs.TokenLemmas.{trees_are_json}
use Rattle.s3_documents.proofs.laws.documents_are_one.Goals as goal

pub returns : goal.returns
returns c = record {
  json = trees_are_json;
  timestamps = timestamps_spell c.stamps_of_a_moment.ensures;
}
