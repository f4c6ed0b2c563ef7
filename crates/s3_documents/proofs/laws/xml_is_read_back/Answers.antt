use Rattle.s3_documents.proofs.ReadBackLemmas.{xml_read_back}
use Rattle.s3_documents.proofs.laws.xml_is_read_back.Goals as goal

pub returns : goal.returns
returns c = xml_read_back c.documents_are_read_back.ensures.events c.contents_fit.ensures
