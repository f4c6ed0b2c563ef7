use Rattle.std.proofs.lemmas.Bool.{iff_false}
use Rattle.s3_signer.proofs.message.read_head.Goals as goal

pub returns-then-not-says-clause-refused : goal.returns-then-not-says-clause-refused
returns-then-not-says-clause-refused c = λ refused asked.
    iff_false c.says.ensures c.if-not-says.true (c.texts_say_one_thing.ensures _ _ _ c.in_ok-head.ensures.says asked)
