use Rattle.s3_http_heads.proofs.VerdictLemmas.{head_verdict, too_large_verdict, need_more_verdict}
use Rattle.s3_http_heads.proofs.find.verdict_is_exact.Goals as goal

pub returns : goal.returns
returns c = record { head = head_verdict; too_large = too_large_verdict; need_more = need_more_verdict }
