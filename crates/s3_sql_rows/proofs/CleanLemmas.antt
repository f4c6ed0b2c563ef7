-- A connection over disks that are always clean.
use Rattle.std.proofs.Common.{Bool, true, false, ◌&&◌, IsTrue}
use Rattle.sqlite_disk.specs.declared.Disk.{Ghosts}
use Rattle.sqlite_store.specs.declared.store.FileStore.{FileStore}
use Rattle.sqlite.specs.Held.{Held}
use Rattle.sqlite.specs.State.{HasCleanDisk}
use Rattle.sqlite.specs.Files.{file_state}
use Rattle.sqlite_pool.specs.Pool.{state}
use Rattle.sqlite_trees.proofs.Doubt.{no_doubt}

both : (a b : Bool) → IsTrue a → IsTrue b → IsTrue (a && b)
both true true p q = p
both true false p q = q
both false b p q = p

module _ {D : Type 0} {g : Ghosts D} (always : (disk : D) → IsTrue (g.is_clean disk)) where
  pub stays_clean : (h : Held (FileStore D g)) → HasCleanDisk (file_state h)
  unfolding state
  stays_clean h = no_doubt _ (both _ _ (always _) (always _))
