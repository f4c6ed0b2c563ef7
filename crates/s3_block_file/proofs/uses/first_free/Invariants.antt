use Rattle.s3_block_file.specs.Uses.{AreTaken}
use Rattle.s3_block_file.proofs.uses.first_free.Given as goal

abbrev pub invariant-loop-granule : goal.invariant-loop-granule
invariant-loop-granule l = AreTaken l.uses 0 l.granule
