use Rattle.std.proofs.Common.{◌≡◌, subst, ℕ, List, nat_eq, IsTrue}
use Rattle.std.specs.List.{AllByRecursion, starts_with}
use Rattle.s3_listings.specs.Taken.{IsAlone}
use Rattle.s3_listings.proofs.RolledLemmas.{TookFront, is_alone, took_one}
use Rattle.s3_listings.proofs.rolled.take_rows.Goals as goal

-- the row that was taken has no common prefix
pub loop-row-preserved : goal.loop-row-preserved
loop-row-preserved g c =
    let key = g.T.Listed.key in
    let prefix : List ℕ = c.args.rolling.now.prefix in
    let delimiter : List ℕ = c.args.rolling.now.delimiter in
    let all = c.into_iter-row-iterator.result.rest.items in
    let alone : IsAlone key prefix delimiter c.in-Some.row =
    is_alone key prefix delimiter c.in-Some.row c.prefix_len.result (rw c.key.ensures at c.prefix_len.ensures.value) c.in-None-prefix_len.is in
    record {
      begin = (subst (AllByRecursion (λ row. IsTrue (starts_with nat_eq (key row) prefix))) c.in-Some.ensures.steps.0 c.loop-row.invariant.begin).1;
      took =
          took_one key prefix delimiter all c.next.new.self.rest.items c.in-Some.row c.args.items.now.items c.loop-row.items.items c.push.new.self.items
          (subst (λ left. TookFront key prefix delimiter all left c.args.items.now.items c.loop-row.items.items) c.in-Some.ensures.steps.0 c.loop-row.invariant.took)
          alone c.in_ok-push-in-None-prefix_len.ensures.items;
    }
