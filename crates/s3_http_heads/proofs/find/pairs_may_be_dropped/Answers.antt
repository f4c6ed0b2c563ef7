use Rattle.s3_http_heads.proofs.VerdictLemmas.{found_in-dropped, skip_pairs-twice}
use Rattle.s3_http_heads.proofs.find.pairs_may_be_dropped.Goals as goal

pub returns : goal.returns
returns c = record { found = found_in-dropped; rest = skip_pairs-twice }
