use Rattle.std.proofs.Common.{◌∙◌, sym}
use Rattle.s3_http_heads.specs.Head.{values_of}
use Rattle.s3_signer.proofs.MessageLemmas.{only_value}
use Rattle.s3_signer.proofs.ready.has_one.Goals as goal

pub returns-then-count-eq1 : goal.returns-then-count-eq1
returns-then-count-eq1 c =
    only_value (values_of c.args.name.now c.args.head.now) _ _ c.eq.result c.in-Some.ensures (sym c.count.ensures ∙ c.if-count-eq1.true) c.eq.ensures
