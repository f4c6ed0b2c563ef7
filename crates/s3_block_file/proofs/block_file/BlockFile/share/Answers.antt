use Rattle.std.proofs.Common.{sym, subst}
use Rattle.s3_block_file.specs.Extent.{granules_for}
use Rattle.s3_block_file.specs.Uses.{AreTaken}
use Rattle.s3_block_file.proofs.UsesLemmas.{still_taken}
use Rattle.s3_block_file.proofs.block_file.BlockFile.share.Goals as goal

pub returns-clause-keeps : goal.returns-clause-keeps
returns-clause-keeps g c x live = still_taken _ _ _ _ c.in_ok-raise.ensures.takes x.first (granules_for x.size) live

pub returns-in_err-raise-clause-keeps : goal.returns-in_err-raise-clause-keeps
returns-in_err-raise-clause-keeps g c x live =
    subst (λ u. AreTaken u x.first (granules_for x.size)) (sym c.in_err-raise.ensures.unchanged) live
