-- A body that was read: its header, and the bytes behind that.
use Rattle.std.proofs.Common.{◌≡◌, sym, ap, subst, ℕ, ◌+◌, ◌*◌, List, length}
use Rattle.sqlite_disk.specs.Disk.{Holds}
use Rattle.s3_block_bodies.specs.Header.{sum_of, header_for, header_of}
use Rattle.s3_block_bodies.specs.Stored.{IsStored}
use Rattle.s3_block_bodies.proofs.FileLemmas.{holds_more}
use Rattle.s3_block_bodies.proofs.HeaderLemmas.{header_at, length-header, length-stored}

pub read_stored : (file bytes : List ℕ) (number size sum : ℕ) → size ≡ length bytes → sum ≡ sum_of bytes
    → Holds file (number * 4096) (header_for size sum) → Holds file (number * 4096 + 32) bytes → IsStored file number bytes
read_stored file bytes number size sum size_is sum_is header body = record {
  size = length-stored bytes;
  holds = holds_more file (header_of bytes) bytes (number * 4096) (number * 4096 + 32)
      (ap (λ n. number * 4096 + n) (sym (length-header (length bytes) (sum_of bytes))))
      (subst (Holds file (number * 4096)) (header_at size sum bytes size_is sum_is) header) body;
}
