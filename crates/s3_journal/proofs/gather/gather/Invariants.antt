use Rattle.std.proofs.Common.{◌≡◌, ◌++◌, List, length, vec_len}
use Rattle.s3_journal.specs.Noted.{front_of}
use Rattle.s3_journal.specs.Roster.{HasGathered, Rostered}
use Rattle.s3_journal.proofs.gather.gather.Given as goal

-- those that are left and those that came back are all
abbrev pub invariant-loop-roster : goal.invariant-loop-roster
invariant-loop-roster g l =
    (l.recorded_store ≡ l.initial.recorded_store)
    × ((back : List (Rostered g.row.P.Denot)) × (l.initial.rosters.items ≡ l.rosters.items ++ back)
    × HasGathered (g.P.Report.fits g.J.Ground.base) l.recorded_store.entries (front_of l.recorded_store.committed) (length l.rosters.items) back l.shares.parts l.shares.amount)

abbrev pub decreases-loop-roster : goal.decreases-loop-roster
decreases-loop-roster g l = vec_len l.rosters
