-- Where a body lies in the file, in granules of 4,096 bytes.
use Rattle.std.specs.Prelude.{◌≡◌, ◌≤◌, ◌<◌, ℕ, ◌+◌, ◌*◌, ◌/◌, ◌^◌, ◌&&◌, Bool, nat_le, nat_lt, List, length, slice_index, count_by}
use Rattle.sqlite_disk.specs.Disk.{Holds}
use Rattle.s3_block_file.specs.declared.extent.Extent.{Extent}

-- how many granules so many bytes take
abbrev pub granules_for : ℕ → ℕ
granules_for size = (size + 4095) / 4096

-- where the first byte of a granule lies
abbrev pub offset_at : ℕ → ℕ
offset_at granule = granule * 4096

-- where the first byte of an extent lies
abbrev pub offset_of : Extent → ℕ
offset_of e = offset_at e.first

-- the granule is one of the extent's
abbrev pub lies_in : ℕ → Extent → Bool
lies_in granule e = nat_le e.first granule && nat_lt granule (e.first + granules_for e.size)

-- its place and its size are within the limits
abbrev pub IsAddressable : Extent → Type 0
IsAddressable e = (e.first ≤ 2 ^ 40) × (e.size ≤ 2 ^ 50)

-- so many bytes from this one on are all in the extent
abbrev pub IsInside : Extent → ℕ → ℕ → Type 0
IsInside e from count = IsAddressable e × (from + count ≤ e.size)

-- the extent ends within so many bytes
abbrev pub EndsWithin : ℕ → Extent → Type 0
EndsWithin size e = offset_of e + e.size ≤ size

-- no granule is in both extents
abbrev pub AreApart : Extent → Extent → Type 0
AreApart a b = (k : ℕ) → a.first ≤ k → k < a.first + granules_for a.size → b.first ≤ k → k < b.first + granules_for b.size → ⊥

-- no granule is in two extents of the list
abbrev pub AreDisjoint : List Extent → Type 0
AreDisjoint extents = (k : ℕ) → count_by (lies_in k) extents ≤ 1

-- the bytes of the file in this extent are these
pub record Stores (file : List ℕ) (e : Extent) (bytes : List ℕ) : Type 0 where
  pub size : length bytes ≡ e.size
  pub holds : Holds file (offset_of e) bytes

-- the first bytes of the file in this extent are these
pub record StartsWith (file : List ℕ) (e : Extent) (bytes : List ℕ) : Type 0 where
  pub each : (i : ℕ) → i < length bytes → (offset_of e + i < length file) × (slice_index file (offset_of e + i) ≡ slice_index bytes i)
