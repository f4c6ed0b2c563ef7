use Rattle.s3_http_heads.proofs.VerdictLemmas.{head_verdict_stays, too_large_stays, pairs_stay}
use Rattle.s3_http_heads.proofs.find.verdicts_stay.Goals as goal

pub returns : goal.returns
returns c = record { head = head_verdict_stays; too_large = too_large_stays; pairs = pairs_stay }
