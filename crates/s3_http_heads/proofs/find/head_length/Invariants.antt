-- The bytes that were passed matter only as far as they begin an empty line.
use Rattle.std.proofs.Common.{drop}
use Rattle.s3_http_heads.proofs.TextLemmas.{Stands}
use Rattle.s3_http_heads.proofs.find.head_length.Given as goal

abbrev pub invariant-loop-index : goal.invariant-loop-index
invariant-loop-index l = Stands l.text l.index l.matched (drop l.index l.text)
