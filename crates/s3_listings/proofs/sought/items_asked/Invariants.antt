use Rattle.std.proofs.Common.{◌≡◌, ◌++◌, filter, length}
use Rattle.s3_records.specs.Leaving.{StaysKnown}
use Rattle.s3_listings.specs.Rolled.{items_asked}
use Rattle.s3_listings.specs.Sought.{begins_with}
use Rattle.s3_listings.specs.Taken.{IsPlace, left_at}
use Rattle.s3_listings.proofs.sought.items_asked.Given as goal

-- with what is told of the rows that are left, the items become all
abbrev pub invariant-loop-place : goal.invariant-loop-place
invariant-loop-place g l =
    let asked = filter (begins_with g.T.Listed.key l.wanted.prefix.now) (g.T.Listed.behind (g.R.Records.catalogue l.initial.records) l.bucket l.wanted.marker.now l.wanted.id) in
    record {
      same : g.R.Records.catalogue l.records ≡ g.R.Records.catalogue l.initial.records;
      stays : StaysKnown g.R.Records.leaves_one_of l.initial.records l.records;
      place : IsPlace l.wanted.prefix.now l.wanted.marker.now l.place;
      known : l.items.items ++ items_asked g.T.Listed.key l.rolling.prefix l.rolling.delimiter l.wanted.marker.now (left_at g.T.Listed.key asked l.place)
          ≡ items_asked g.T.Listed.key l.rolling.prefix l.rolling.delimiter l.wanted.marker.now asked;
    }

abbrev pub decreases-loop-place : goal.decreases-loop-place
decreases-loop-place g l =
    length (left_at g.T.Listed.key
    (filter (begins_with g.T.Listed.key l.wanted.prefix.now) (g.T.Listed.behind (g.R.Records.catalogue l.initial.records) l.bucket l.wanted.marker.now l.wanted.id)) l.place)
