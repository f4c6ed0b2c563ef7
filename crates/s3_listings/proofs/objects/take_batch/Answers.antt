use Rattle.std.proofs.Common.{subst, Some, sym}
use Rattle.s3_listings.specs.Drafts.{drafted, IsLastKey}
use Rattle.s3_listings.proofs.PlaceLemmas.{if_ok}
use Rattle.s3_listings.proofs.RowLemmas.{took_batch, took_few, took_full}
use Rattle.s3_listings.proofs.objects.take_batch.Goals as goal

-- the last batch
pub returns-in_default : goal.returns-in_default
returns-in_default c = λ all start rises is.
    took_few c.args.asked.now (drafted c.args.draft.now) (drafted c.take_rows.new.self) c.args.most c.args.rows.items all start c.in_ok-take_rows.ensures is
    (subst (IsLastKey c.args.most c.args.rows.items) c.in_default.is (rw c.as_slice.ensures.value at c.in_ok-last.ensures))

-- the page was truncated
pub returns-then-is_truncated : goal.returns-then-is_truncated
returns-then-is_truncated c = λ all start rises is.
    took_full c.args.asked.now (drafted c.args.draft.now) (drafted c.take_rows.new.self) c.args.most c.args.rows.items all start c.in_ok-take_rows.ensures is (sym c.if-is_truncated.ensures)

-- there may be more
pub returns : goal.returns
returns c =
    let at : IsLastKey c.args.most c.args.rows.items (Some c.in-Some.key) = subst (IsLastKey c.args.most c.args.rows.items) c.in-Some.is (rw c.as_slice.ensures.value at c.in_ok-last.ensures) in
    if_ok c.next_place.result
    (λ next goes all start rises is. took_batch c.args.asked.now (drafted c.args.draft.now) (drafted c.take_rows.new.self) c.args.most c.args.rows.items all c.in-Some.key start next c.in_ok-take_rows.ensures is rises at goes)
    (rw c.last-2.ensures.value at c.next_place.ensures)
