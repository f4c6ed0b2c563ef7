use Rattle.std.proofs.Common.{◌≡◌, [], ◌++◌, length}
use Rattle.std.specs.List.{All, concat}
use Rattle.s3_bodies.proofs.row.cut.Given as goal

-- the blocks are full, and what is left is behind them; it is not empty while there are blocks
abbrev pub invariant-loop-rest : goal.invariant-loop-rest
invariant-loop-rest l = record {
  all : concat l.full.items ++ l.rest ≡ l.«data»;
  full : All (λ block. length block ≡ 65536) l.full.items;
  alone : l.rest ≡ [] → l.full.items ≡ [];
}

abbrev pub decreases-loop-rest : goal.decreases-loop-rest
decreases-loop-rest l = length l.rest
