use Rattle.s3_xml.proofs.BoundLemmas.{bounds}
use Rattle.s3_xml.proofs.laws.bounds_of_texts.Goals as goal

pub returns : goal.returns
returns c = bounds
