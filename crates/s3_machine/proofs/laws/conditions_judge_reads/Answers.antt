use Rattle.s3_machine.proofs.AnswerLemmas.{conditions_judge_reads}
use Rattle.s3_machine.proofs.laws.conditions_judge_reads.Goals as goal

pub returns : goal.returns
returns c = conditions_judge_reads
