-- The count so far.
use Rattle.std.proofs.Common.{◌≡◌, ◌≤◌}
use Rattle.s3_http_heads.proofs.NameLemmas.{count_in}
use Rattle.s3_http_heads.proofs.head.Head.count.Given as goal

abbrev pub invariant-loop-index : goal.invariant-loop-index
invariant-loop-index l =
    record { counted : l.count ≡ count_in l.name l.self.headers l.index; few : l.count ≤ l.index }
