use Rattle.s3_xml.proofs.FitLemmas.{contents_fit}
use Rattle.s3_xml.proofs.laws.contents_fit.Goals as goal

pub returns : goal.returns
returns c = contents_fit
