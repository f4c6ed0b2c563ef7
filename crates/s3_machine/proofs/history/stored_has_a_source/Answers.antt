use Rattle.s3_machine.proofs.AnswerLemmas.{puts_store_their_contents, copies_store_their_source, completions_store_their_parts, stored_has_source}
use Rattle.s3_machine.proofs.history.stored_has_a_source.Goals as goal

pub returns : goal.returns
returns c = record {
  put = puts_store_their_contents;
  copied = copies_store_their_source;
  completed = completions_store_their_parts;
  sources = stored_has_source;
}
