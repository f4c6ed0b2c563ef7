-- What was passed is scanned, and no head ended in it.
use Rattle.std.proofs.Common.{ℕ, List, ◌++◌, take}
use Rattle.s3_http_heads.specs.Search.{IsPassed}
use Rattle.s3_http_heads.proofs.search.scan.Given as goal

abbrev pub invariant-loop-index : goal.invariant-loop-index
invariant-loop-index l = (text : List ℕ) → IsPassed text l.initial.matched → IsPassed (text ++ take l.index l.bytes) l.matched
