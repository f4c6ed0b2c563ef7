use Rattle.std.proofs.Common.{◌≡◌, ◌+◌, ◌*◌, length}
use Rattle.s3_journal.specs.SharedStore.{seats_each}
use Rattle.s3_journal.specs.Roster.{AreNew}
use Rattle.s3_journal.proofs.gather.hand_out.Given as goal

-- the rosters so far are new, and the others' shares are left
abbrev pub invariant-loop-index : goal.invariant-loop-index
invariant-loop-index g l =
    AreNew 0 l.rosters.items × (length l.rosters.items ≡ l.index)
    × (l.shares.parts + l.index * seats_each ≡ l.count * seats_each) × (l.shares.amount ≡ 0)
