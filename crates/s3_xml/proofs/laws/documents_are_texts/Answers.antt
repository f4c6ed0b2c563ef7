use Rattle.s3_xml.proofs.CharacterLemmas.{documents_are_texts}
use Rattle.s3_xml.proofs.laws.documents_are_texts.Goals as goal

pub returns : goal.returns
returns c = documents_are_texts
