use Rattle.std.proofs.Common.{IsTrue, nat_eq}
use Rattle.std.specs.List.{AllByRecursion, starts_with}
use Rattle.s3_listings.proofs.RolledLemmas.{TookFront}
use Rattle.s3_listings.proofs.rolled.take_rows.Given as goal

-- the rows in front of those that are left were taken, each by itself
abbrev pub invariant-loop-row : goal.invariant-loop-row
invariant-loop-row g l = record {
  begin : AllByRecursion (λ row. IsTrue (starts_with nat_eq (g.T.Listed.key row) l.rolling.prefix)) l.row-iterator.rest.items;
  took : TookFront g.T.Listed.key l.rolling.prefix l.rolling.delimiter l.initial.row-iterator.rest.items l.row-iterator.rest.items l.initial.items.items l.items.items;
}
