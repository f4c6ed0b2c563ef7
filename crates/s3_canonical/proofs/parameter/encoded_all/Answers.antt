use Rattle.std.proofs.Common.{◌∙◌, rules, sym}
use Rattle.std.proofs.lemmas.List.{map_push}
use Rattle.s3_canonical.specs.Parameter.{pair}
use Rattle.s3_canonical.proofs.ParameterLemmas.{signed_more, signed_same}
use Rattle.s3_canonical.proofs.parameter.encoded_all.Goals as goal
use Rattle.s3_canonical.proofs.parameter.encoded_all.Goals.{then-ne+in_ok-encoded+in_ok-push, else-ne}

pub loop-index-preserved : goal.loop-index-preserved
loop-index-preserved c =
    let all = c.args.target.now.parameters in
    elim c.if-ne.branch [
      | then-ne+in_ok-encoded+in_ok-push w ↦
          let more = signed_more all c.loop-index.index _ _ c.parameter.ensures (search rules) in
          rw (w.all-is, w.in_ok-push.ensures.items, more, ← c.loop-index.invariant, ← w.in_ok-encoded.ensures) (map_push pair c.loop-index.all.items w.in_ok-encoded.field-0)
      | else-ne w ↦
          let same = signed_same all c.loop-index.index _ _ c.parameter.ensures (search rules) in
          rw w.all-is (c.loop-index.invariant ∙ sym same)
    ]
