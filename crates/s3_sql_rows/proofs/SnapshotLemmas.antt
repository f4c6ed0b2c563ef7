-- A snapshot of a connection shows what the connection shows.
use Rattle.std.proofs.Common.{◌≡◌, ap}
use Rattle.sqlite_disk.specs.declared.Disk.{Ghosts}
use Rattle.sqlite_store.specs.declared.store.FileStore.{FileStore}
use Rattle.sqlite.specs.Held.{Held}
use Rattle.sqlite.specs.Files.{file_state}
use Rattle.s3_tables.specs.Keeping.{tables}

module _ {D : Type 0} {g : Ghosts D} (a b : Held (FileStore D g)) where
  pub shown_alike : a ≡ b → tables (file_state a) ≡ tables (file_state b)
  shown_alike same = ap (λ (h : Held (FileStore D g)). tables (file_state h)) same
