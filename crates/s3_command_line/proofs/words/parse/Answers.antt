use Rattle.s3_command_line.proofs.WordsLemmas.{words_refused, words_unnamed, asked_by, no_value, no_memory}
use Rattle.s3_command_line.proofs.words.parse.Goals as goal

pub returns-in-Err-clause-refused : goal.returns-in-Err-clause-refused
returns-in-Err-clause-refused g c other =
    words_refused _ _ c.in-Err.error c.requires c.in-Err.ensures.kinds (c.of_parse.ensures other)

pub returns-in-Some-clause-value : goal.returns-in-Some-clause-value
returns-in-Some-clause-value g c =
    asked_by _ _ c.in-Ok.matches c.in-Some.asked c.requires c.in-Ok.ensures.ok.2 c.in-Ok.ensures.kinds (rw c.in-Some.is at c.in_ok-asked.ensures)

pub returns-in-None-clause-refused : goal.returns-in-None-clause-refused
returns-in-None-clause-refused g c other =
    words_unnamed _ _ c.in-Ok.matches c.requires c.in-Ok.ensures.ok.2 (rw c.in-None.is at c.in_ok-asked.ensures)

-- no memory is no value, and says nothing of the words
pub returns-in_err-asked-clause-value : goal.returns-in_err-asked-clause-value
returns-in_err-asked-clause-value g c = no_value c.from_residual.result _ _ c.from_residual.ensures.1

pub returns-in_err-asked-clause-refused : goal.returns-in_err-asked-clause-refused
returns-in_err-asked-clause-refused g c = no_memory c.from_residual.result _ c.from_residual.ensures.1

-- an error is no value, and a value no error
pub returns-in-Err-clause-value : goal.returns-in-Err-clause-value
returns-in-Err-clause-value g c = tt

pub returns-in-Some-clause-refused : goal.returns-in-Some-clause-refused
returns-in-Some-clause-refused g c = tt

pub returns-in-None-clause-value : goal.returns-in-None-clause-value
returns-in-None-clause-value g c = tt
