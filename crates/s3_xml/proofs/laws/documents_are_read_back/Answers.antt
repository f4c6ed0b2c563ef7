use Rattle.s3_xml.proofs.DocumentLemmas.{read_back}
use Rattle.s3_xml.proofs.ElementLemmas.{elements_read}
use Rattle.s3_xml.proofs.laws.documents_are_read_back.Goals as goal

pub returns : goal.returns
returns c = record {
  events = read_back;
  elements = elements_read;
}
