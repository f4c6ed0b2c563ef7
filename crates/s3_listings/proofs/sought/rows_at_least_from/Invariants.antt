use Rattle.std.proofs.Common.{◌≡◌, length}
use Rattle.s3_records.specs.Leaving.{StaysKnown}
use Rattle.s3_listings.specs.Sought.{Covers, rows_from}
use Rattle.s3_listings.proofs.sought.rows_at_least_from.Given as goal

-- the place isn't behind a key that isn't before the text
abbrev pub invariant-loop-rows : goal.invariant-loop-rows
invariant-loop-rows g l = record {
  same : g.R.Records.catalogue l.records ≡ g.R.Records.catalogue l.initial.records;
  stays : StaysKnown g.R.Records.leaves_one_of l.initial.records l.records;
  covers : Covers l.start l.text;
}

abbrev pub decreases-loop-rows : goal.decreases-loop-rows
decreases-loop-rows g l = length (rows_from g.T.Listed.key l.start (g.T.Listed.all (g.R.Records.catalogue l.records) l.bucket))
