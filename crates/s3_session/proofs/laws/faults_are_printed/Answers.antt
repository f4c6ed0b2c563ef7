use Rattle.s3_session.proofs.PrintedFaultLemmas.{faults_are_printed, printed_are_faults, two_ends}
use Rattle.s3_session.proofs.laws.faults_are_printed.Goals as goal

pub returns : goal.returns
returns c = record { printed = faults_are_printed c.verdicts_are_one.ensures; told = printed_are_faults; ends = two_ends }
