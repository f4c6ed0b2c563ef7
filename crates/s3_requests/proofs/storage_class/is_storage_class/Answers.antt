use Rattle.std.proofs.Common.{rules, tests, ◌==◌}
use Rattle.std.specs.Str.{bytes_eq}
use Rattle.std.proofs.lemmas.Iterator.Search.{any_from_yields_List}
use Rattle.std.proofs.lemmas.Iterator.Splits.{YieldsList-from_slice_split}
use Rattle.s3_requests.proofs.storage_class.is_storage_class.Goals as goal

pub returns : goal.returns
returns c =
    any_from_yields_List (λ name. bytes_eq c.args.value.now name) _ _ c.any.result c.any.ensures.ran (YieldsList-from_slice_split _ (λ b. b == 32) _ c.split.ensures.rest c.split.ensures.done c.split.ensures.closure (λ x b q k. search (rules, tests))) (λ x b q k. search (rules, tests))
