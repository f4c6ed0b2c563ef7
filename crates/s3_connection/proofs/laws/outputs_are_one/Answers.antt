use Rattle.s3_connection.proofs.OutputLemmas.{one_output}
use Rattle.s3_connection.proofs.laws.outputs_are_one.Goals as goal

pub returns : goal.returns
returns c = one_output c.inputs_fix_outputs.ensures
