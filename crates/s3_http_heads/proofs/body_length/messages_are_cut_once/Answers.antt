use Rattle.s3_http_heads.proofs.HeadLemmas.{message_unique}
use Rattle.s3_http_heads.proofs.body_length.messages_are_cut_once.Goals as goal

pub returns : goal.returns
returns c = record {
  head = λ bytes a b body other rest more x y. (message_unique bytes a b body other rest more x y).0;
  body = λ bytes a b body other rest more x y. (message_unique bytes a b body other rest more x y).1;
  rest = λ bytes a b body other rest more x y. (message_unique bytes a b body other rest more x y).2;
}
