use Rattle.std.proofs.Common.{◌≡◌, Some}
use Rattle.s3_records.specs.Rows.{key_rows}
use Rattle.s3_records.specs.Leaving.{StaysKnown}
use Rattle.s3_listings.specs.Drafts.{drafted, with_rows, left_from, steps_left}
use Rattle.s3_listings.proofs.objects.fill.Given as goal

-- the records are the same, and with the rows that are left the page becomes what it becomes with all
abbrev pub invariant-loop-next : goal.invariant-loop-next
invariant-loop-next g l = record {
  same : g.R.Records.catalogue l.records ≡ g.R.Records.catalogue l.initial.records;
  stays : StaysKnown g.R.Records.leaves_one_of l.initial.records l.records;
  page :
      with_rows l.asked (drafted l.draft) (left_from (Some l.start) (key_rows (g.R.Records.catalogue l.initial.records) l.bucket))
      ≡ with_rows l.asked (drafted l.initial.draft) (left_from (Some l.initial.start) (key_rows (g.R.Records.catalogue l.initial.records) l.bucket));
}

abbrev pub decreases-loop-next : goal.decreases-loop-next
decreases-loop-next g l = steps_left (Some l.start) (key_rows (g.R.Records.catalogue l.initial.records) l.bucket)
