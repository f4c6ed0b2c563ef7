use Rattle.s3_authorization.proofs.SpellingLemmas.{names_cut}
use Rattle.s3_authorization.proofs.authorization.signed_names_are_cut.Goals as goal

pub returns : goal.returns
returns c = names_cut
