use Rattle.std.proofs.Common.{◌==◌, rules, tests, ap, ◌∙◌}
use Rattle.std.specs.List.{flat_map}
use Rattle.std.proofs.lemmas.Iterator.Consumers.{YieldsList-end}
use Rattle.std.proofs.lemmas.Iterator.Splits.{YieldsList-from_slice_split}
use Rattle.s3_canonical.specs.Request.{canonical_line}
use Rattle.s3_canonical.proofs.request.lines.Goals as goal

pub returns : goal.returns
returns c =
    let ended = YieldsList-end (YieldsList-from_slice_split _ (λ b. b == 59) c.args.signed.now (cc) (cc) (cc) (λ x r q k. search (rules, tests))) c.loop-name.yielded _ c.loop-name.yielded_by _ _ c.in-None.is c.next.ensures.steps in
    c.loop-name.invariant ∙ ap (flat_map (canonical_line c.args.head.now)) ended.0
