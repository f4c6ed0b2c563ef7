use Rattle.s3_machine.proofs.PartLemmas.{parts_have_their_bytes, copied_parts_are_of_their_source, parts_have_a_source}
use Rattle.s3_machine.proofs.history.parts_have_a_source.Goals as goal

pub returns : goal.returns
returns c = record {
  sent = parts_have_their_bytes;
  copied = copied_parts_are_of_their_source;
  sources = parts_have_a_source;
}
