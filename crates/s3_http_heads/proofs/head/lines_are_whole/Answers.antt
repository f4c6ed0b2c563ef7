use Rattle.s3_http_heads.proofs.WholeLemmas.{lines_are_whole}
use Rattle.s3_http_heads.proofs.head.lines_are_whole.Goals as goal

pub returns : goal.returns
returns c = lines_are_whole
