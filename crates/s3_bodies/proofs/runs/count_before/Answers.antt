use Rattle.std.proofs.Common.{leb, leb-true, arith, rules}
use Rattle.std.proofs.lemmas.Bool.{leb-false}
use Rattle.std.proofs.lemmas.List.Sorted.{IsPartitionPoint-from_clause, IsPartitionedBy-leb}
use Rattle.s3_bodies.specs.declared.runs.Run.{Run}
use Rattle.s3_bodies.proofs.runs.count_before.Goals as goal

pub returns-clause-before : goal.returns-clause-before
returns-clause-before c =
    let parted = IsPartitionedBy-leb (λ (run : Run). run.end) _ c.args.at c.requires in
    let point = IsPartitionPoint-from_clause (λ (run : Run). leb run.end c.args.at) _ _ c.partition_point.ensures.partitioned parted (λ a r q k. search rules) in
    λ k d h. leb-true _ _ (point.0 k d (omega arith) h)

pub returns-clause-behind : goal.returns-clause-behind
returns-clause-behind c =
    let parted = IsPartitionedBy-leb (λ (run : Run). run.end) _ c.args.at c.requires in
    let point = IsPartitionPoint-from_clause (λ (run : Run). leb run.end c.args.at) _ _ c.partition_point.ensures.partitioned parted (λ a r q k. search rules) in
    λ k d above within. leb-false _ _ (point.1 k d above within)
