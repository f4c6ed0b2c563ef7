use Rattle.s3_uploads.proofs.LawLemmas.{puts_are_under_one_number, order_kept}
use Rattle.s3_uploads.proofs.laws.puts_are_under_one_number.Goals as goal

pub returns-clause-puts : goal.returns-clause-puts
returns-clause-puts g c = puts_are_under_one_number

pub returns-clause-order : goal.returns-clause-order
returns-clause-order g c = order_kept
