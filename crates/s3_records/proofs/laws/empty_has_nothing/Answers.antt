use Rattle.s3_records.proofs.LawLemmas.{empty_has_nothing}
use Rattle.s3_records.proofs.FilledLemmas.{others_have_something, keys_stay_filled}
use Rattle.s3_records.proofs.laws.empty_has_nothing.Goals as goal

pub returns-clause-nothing : goal.returns-clause-nothing
returns-clause-nothing g c = empty_has_nothing

pub returns-clause-something : goal.returns-clause-something
returns-clause-something g c = others_have_something

pub returns-clause-filled : goal.returns-clause-filled
returns-clause-filled g c = keys_stay_filled
