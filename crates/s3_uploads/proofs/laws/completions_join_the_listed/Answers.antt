use Rattle.s3_uploads.proofs.LawLemmas.{completions_join_the_listed, refusals_are_three}
use Rattle.s3_uploads.proofs.laws.completions_join_the_listed.Goals as goal

pub returns-clause-joined : goal.returns-clause-joined
returns-clause-joined c = completions_join_the_listed

pub returns-clause-refused : goal.returns-clause-refused
returns-clause-refused c = refusals_are_three
