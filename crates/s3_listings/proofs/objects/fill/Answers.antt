use Rattle.std.proofs.Common.{ap}
use Rattle.s3_records.specs.Rows.{key_rows}
use Rattle.s3_listings.specs.Drafts.{drafted}
use Rattle.s3_listings.proofs.RowLemmas.{took_last_batch}
use Rattle.s3_listings.proofs.objects.fill.Goals as goal

-- the last batch was taken
pub returns-in_default-clause-page : goal.returns-in_default-clause-page
returns-in_default-clause-page g c =
    took_last_batch c.args.asked.now (drafted c.args.draft.now) (drafted c.loop-next.draft) (drafted c.step.new.draft) c.args.start c.loop-next.start c.in_ok-next.field-0
    (key_rows (g.R.Records.catalogue c.args.records.now) c.args.bucket.now) (key_rows (g.R.Records.catalogue c.loop-next.records) c.args.bucket.now)
    c.in_ok-next.ensures.batch (ap (λ cat. key_rows cat c.args.bucket.now) c.loop-next.invariant.same) c.in_default.is c.loop-next.invariant.page
