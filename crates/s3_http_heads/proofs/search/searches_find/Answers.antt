use Rattle.s3_http_heads.proofs.SearchLemmas.{head_whole}
use Rattle.s3_http_heads.proofs.search.searches_find.Goals as goal

pub returns-clause-head : goal.returns-clause-head
returns-clause-head c = head_whole
