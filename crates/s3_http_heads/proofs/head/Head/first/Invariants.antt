-- No line so far has the name.
use Rattle.std.proofs.Common.{◌≡◌, drop}
use Rattle.s3_http_heads.proofs.NameLemmas.{values_in}
use Rattle.s3_http_heads.proofs.head.Head.first.Given as goal

abbrev pub invariant-loop-line : goal.invariant-loop-line
invariant-loop-line l = values_in l.name (drop l.line l.self.headers) ≡ values_in l.name l.self.headers
