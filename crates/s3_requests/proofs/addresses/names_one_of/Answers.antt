use Rattle.std.proofs.Common.{rules, tests, ◌==◌}
use Rattle.std.proofs.lemmas.Iterator.Search.{any_from_yields_List}
use Rattle.std.proofs.lemmas.Iterator.Splits.{YieldsList-from_slice_split}
use Rattle.s3_http_heads.specs.Target.{has_parameter}
use Rattle.s3_requests.proofs.addresses.names_one_of.Goals as goal

pub returns : goal.returns
returns c =
    any_from_yields_List (λ name. has_parameter name c.args.target.now) _ _ c.any.result c.any.ensures.ran (YieldsList-from_slice_split _ (λ b. b == 32) c.args.names.now c.split.ensures.rest c.split.ensures.done c.split.ensures.closure (λ x b q k. search (rules, tests))) (λ x b q k. search (rules, tests))
