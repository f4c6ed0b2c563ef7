use Rattle.std.proofs.Common.{rules, tests, ◌==◌, length}
use Rattle.std.proofs.lemmas.Iterator.Search.{any_from_yields_List}
use Rattle.std.proofs.lemmas.Iterator.Splits.{YieldsList-from_slice_split}
use Rattle.s3_names.proofs.names.leaves_empty_part.Goals as goal

pub returns : goal.returns
returns c =
    any_from_yields_List (λ part. length part == 0) _ _ c.any.result c.any.ensures.ran (YieldsList-from_slice_split _ (λ b. b == 46) c.args.name.now c.split.ensures.rest c.split.ensures.done c.split.ensures.closure (λ x b q k. search (rules, tests))) (λ x b q k. search (rules, tests))
