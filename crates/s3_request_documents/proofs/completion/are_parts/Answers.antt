use Rattle.std.proofs.Common.{sym, ◌∙◌, rules, tests}
use Rattle.std.proofs.lemmas.Iterator.{YieldsList-from_slice}
use Rattle.std.proofs.lemmas.Iterator.Search.{all_from_yields_List}
use Rattle.std.proofs.lemmas.List.Folds.{list_all-map}
use Rattle.s3_request_documents.specs.Data.{seen}
use Rattle.s3_request_documents.specs.Completion.{is_part}
use Rattle.s3_request_documents.proofs.completion.are_parts.Goals as goal

pub returns : goal.returns
returns c =
    all_from_yields_List (λ part. is_part (seen part)) _ _ c.all.result c.all.ensures.ran (YieldsList-from_slice c.args.parts.now cc) (λ x b q k. search (rules, tests))
    ∙ sym (list_all-map is_part seen c.args.parts.now)
