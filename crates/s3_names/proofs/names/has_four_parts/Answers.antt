use Rattle.std.proofs.Common.{rules, tests, ◌==◌, ap}
use Rattle.std.proofs.lemmas.Iterator.Consumers.{count_from_yields_List}
use Rattle.std.proofs.lemmas.Iterator.Splits.{YieldsList-from_slice_split}
use Rattle.s3_names.proofs.names.has_four_parts.Goals as goal

pub returns : goal.returns
returns c =
    ap (λ n. n == 4) (count_from_yields_List _ c.count.result c.count.ensures.ran (YieldsList-from_slice_split _ (λ b. b == 46) c.args.name.now c.split.ensures.rest c.split.ensures.done c.split.ensures.closure (λ x b q k. search (rules, tests))))
