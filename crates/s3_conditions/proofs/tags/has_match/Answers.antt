use Rattle.std.proofs.Common.{◌==◌, rules, tests}
use Rattle.std.proofs.lemmas.Iterator.Search.{any_from_yields_List}
use Rattle.std.proofs.lemmas.Iterator.Splits.{YieldsList-from_slice_split}
use Rattle.s3_conditions.specs.Tags.{is_match, matches}
use Rattle.s3_conditions.proofs.tags.has_match.Goals as goal

pub returns : goal.returns
unfolding matches
returns c =
    any_from_yields_List (λ item. is_match item c.args.tag.now) _ _ c.any.result c.any.ensures.ran
    (YieldsList-from_slice_split _ (λ b. b == 44) c.args.line.now c.split.ensures.rest c.split.ensures.done c.split.ensures.closure (λ x b q k. search (rules, tests)))
    (λ x b q k. search (rules, tests))
