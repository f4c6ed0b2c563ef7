use Rattle.std.proofs.Common.{rules, tests, ◌==◌}
use Rattle.std.proofs.lemmas.Iterator.Search.{all_from_yields_List}
use Rattle.std.proofs.lemmas.Iterator.Splits.{YieldsList-from_slice_split}
use Rattle.s3_names.specs.Names.{is_number}
use Rattle.s3_names.proofs.names.has_decimal_parts.Goals as goal

pub returns : goal.returns
returns c =
    all_from_yields_List is_number _ _ c.all.result c.all.ensures.ran (YieldsList-from_slice_split _ (λ b. b == 46) c.args.name.now c.split.ensures.rest c.split.ensures.done c.split.ensures.closure (λ x b q k. search (rules, tests))) (λ x b q k. search (rules, tests))
