use Rattle.s3_authorization.proofs.SpellingLemmas.{read_spelled, spells}
use Rattle.s3_authorization.proofs.authorization.authorizations_are_spelled.Goals as goal

pub returns-clause-read : goal.returns-clause-read
returns-clause-read c = read_spelled

pub returns-clause-spelled : goal.returns-clause-spelled
returns-clause-spelled c = spells
