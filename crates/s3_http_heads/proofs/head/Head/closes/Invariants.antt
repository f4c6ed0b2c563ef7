-- No line so far says `close`.
use Rattle.std.proofs.Common.{◌≡◌, drop}
use Rattle.s3_http_heads.proofs.NameLemmas.{close_in}
use Rattle.s3_http_heads.proofs.head.Head.closes.Given as goal

abbrev pub invariant-loop-index : goal.invariant-loop-index
invariant-loop-index l = close_in (drop l.index l.self.headers) ≡ close_in l.self.headers
