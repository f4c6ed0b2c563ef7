-- What a write leaves of a file.
use Rattle.std.specs.Prelude.{◌≡◌, ℕ, List, Bool}
use Rattle.s3_block_file.specs.declared.block_file.BlockFile.{BlockFile}
use Rattle.s3_block_file.specs.declared.extent.Extent.{Extent}
use Rattle.s3_block_file.specs.Extent.{AreApart, Stores}
use Rattle.s3_block_file.specs.BlockFile.{disk_of, uses_of, IsLive, Survives}

-- what lies apart from an extent stays, also in what a crash leaves, and the same granules are taken
pub record Spares {D : Type 0} (seen : D → List ℕ) (may_leave : D → List ℕ → Type 0) (is_clean : D → Bool) (e : Extent) (old new : BlockFile D) : Type 0 where
  pub stay : (x : Extent) (bytes : List ℕ) → AreApart x e → Stores (seen (disk_of old)) x bytes → Stores (seen (disk_of new)) x bytes
  pub survive : (x : Extent) (bytes : List ℕ) → AreApart x e → Survives may_leave old x bytes → Survives may_leave new x bytes
  pub uses : uses_of new ≡ uses_of old
  pub clean : is_clean (disk_of new) ≡ is_clean (disk_of old)

-- what is live stays so, with its bytes, also in what a crash leaves
pub record SparesLive {D : Type 0} (seen : D → List ℕ) (may_leave : D → List ℕ → Type 0) (is_clean : D → Bool) (old new : BlockFile D) : Type 0 where
  pub stay : (x : Extent) (bytes : List ℕ) → IsLive old x → Stores (seen (disk_of old)) x bytes → Stores (seen (disk_of new)) x bytes
  pub survive : (x : Extent) (bytes : List ℕ) → IsLive old x → Survives may_leave old x bytes → Survives may_leave new x bytes
  pub live : (x : Extent) → IsLive old x → IsLive new x
  pub clean : is_clean (disk_of new) ≡ is_clean (disk_of old)
