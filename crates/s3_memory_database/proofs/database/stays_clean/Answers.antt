use Rattle.std.proofs.Common.{refl}
use Rattle.sqlite_pool.specs.Pool.{state}
use Rattle.sqlite_trees.proofs.Doubt.{no_doubt}
use Rattle.s3_memory_database.proofs.database.stays_clean.Goals as goal

pub returns : goal.returns
unfolding state
returns c = no_doubt _ refl
