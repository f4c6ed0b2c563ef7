use Rattle.std.proofs.Common.{sym, subst}
use Rattle.s3_block_file.specs.Extent.{granules_for}
use Rattle.s3_block_file.specs.Uses.{AreTaken}
use Rattle.s3_block_file.proofs.UsesLemmas.{still_taken, newly_taken, free_apart}
use Rattle.s3_block_file.proofs.block_file.BlockFile.reserve.Goals as goal

pub returns-clause-fresh : goal.returns-clause-fresh
returns-clause-fresh g c = rw c.granule_count.ensures at c.in_ok-first.ensures.fresh

pub returns-clause-live : goal.returns-clause-live
returns-clause-live g c =
    let more = rw c.granule_count.ensures at c.in_ok-first.ensures.takes in
    newly_taken _ _ _ _ more

pub returns-clause-apart : goal.returns-clause-apart
returns-clause-apart g c x live =
    let free = rw c.granule_count.ensures at c.in_ok-first.ensures.fresh in
    free_apart _ x (record { first = c.in_ok-first.first; size = c.args.size }) live free

pub returns-clause-keeps : goal.returns-clause-keeps
returns-clause-keeps g c x live = still_taken _ _ _ _ c.in_ok-first.ensures.takes x.first (granules_for x.size) live

pub returns-clause-first : goal.returns-clause-first
returns-clause-first g c = rw c.granule_count.ensures at c.in_ok-first.ensures.first

pub returns-in_err-first-clause-keeps : goal.returns-in_err-first-clause-keeps
returns-in_err-first-clause-keeps g c x live =
    subst (λ u. AreTaken u x.first (granules_for x.size)) (sym c.in_err-first.ensures.unchanged) live
