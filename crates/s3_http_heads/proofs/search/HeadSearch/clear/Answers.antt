use Rattle.std.proofs.Common.{◌∙◌, refl}
use Rattle.s3_http_heads.proofs.SearchLemmas.{Stands_none}
use Rattle.s3_http_heads.proofs.search.HeadSearch.clear.Goals as goal

pub returns-clause-begins : goal.returns-clause-begins
returns-clause-begins c = Stands_none _ (c.shrink_to.ensures.items ∙ c.clear.ensures.items) refl refl refl
