-- Bodies in a file, each in an extent of its own that its number names.
use Rattle.std.specs.Prelude.{◌≡◌, ◌≢◌, ℕ, ◌+◌, ◌<◌, ◌≤◌, List, length, slice_index, count_by, Bool, IsTrue, Some}
use Rattle.std.specs.FinMap as map
use Rattle.s3_stored_bodies.specs.Numbers.{Contents}
use Rattle.s3_block_file.specs.declared.extent.Extent.{Extent}
use Rattle.s3_block_file.specs.Extent.{granules_for, lies_in, IsAddressable, AreApart, Stores}
use Rattle.s3_block_file.specs.Uses.{AreTaken}
use Rattle.s3_block_bodies.specs.Header.{stored}

-- where a body of so many bytes lies: from the granule of its number on, behind a header of 32 bytes
abbrev pub extent_of : ℕ → ℕ → Extent
extent_of number size = record { first = number; size = size + 32 }

-- the file has this body under this number: the header, and the bytes behind it
abbrev pub IsStored : List ℕ → ℕ → List ℕ → Type 0
IsStored file number bytes = Stores file (extent_of number (length bytes)) (stored bytes)

-- the file has each of these bodies
abbrev pub AreStored : Contents → List ℕ → Type 0
AreStored contents file = (number : ℕ) (bytes : List ℕ) → map.get contents number ≡ Some bytes → IsStored file number bytes

-- what the file has under a number that is named stands there
abbrev pub HasNamed : List ℕ → (ℕ → ℕ) → Contents → Type 0
HasNamed file uses contents =
    (number : ℕ) (bytes : List ℕ) → IsAddressable (extent_of number (length bytes)) → IsStored file number bytes → 0 < uses number
    → map.get contents number ≡ Some bytes

-- what one may find under numbers who opens the file after a crash now: of a clean disk, there is a file that the crash may leave, and
-- what stands in it under a number is found under that number
pub record MayFind {D : Type 0} (may_leave : D → List ℕ → Type 0) (is_clean : D → Bool) (disk : D) (found : Contents) : Type 0 where
  pub clean : IsTrue (is_clean disk)
  pub file : List ℕ
  pub left : may_leave disk file
  pub has : (number : ℕ) (bytes : List ℕ) → IsStored file number bytes → map.get found number ≡ Some bytes

-- each of these bodies has granules of its own, which nothing else is written to
pub record AreHoused (contents : Contents) (uses : List ℕ) : Type 0 where
  pub addressable : (number : ℕ) (bytes : List ℕ) → map.get contents number ≡ Some bytes → IsAddressable (extent_of number (length bytes))
  pub taken : (number : ℕ) (bytes : List ℕ) → map.get contents number ≡ Some bytes → AreTaken uses number (granules_for (length bytes + 32))
  pub apart : (m n : ℕ) (a b : List ℕ) → map.get contents m ≡ Some a → map.get contents n ≡ Some b → m ≢ n
      → AreApart (extent_of m (length a)) (extent_of n (length b))

-- whatever a crash now leaves has this body under this number, as long as no wrong answer of the disk was taken as true; and it lies in
-- granules that nothing else is written to
pub record IsSettled {D : Type 0} (may_leave : D → List ℕ → Type 0) (is_clean : D → Bool) (disk : D) (uses : List ℕ) (number : ℕ) (bytes : List ℕ) : Type 0 where
  pub addressable : IsAddressable (extent_of number (length bytes))
  pub taken : AreTaken uses number (granules_for (length bytes + 32))
  pub later : IsTrue (is_clean disk) → (left : List ℕ) → may_leave disk left → IsStored left number bytes

-- no extent that waits has a granule of this one
abbrev pub NoneWaits : List Extent → Extent → Type 0
NoneWaits waiting e = (k : ℕ) → e.first ≤ k → k < e.first + granules_for e.size → count_by (lies_in k) waiting ≡ 0

-- the room of bodies that went waits to be free: each granule counts it, and it has none of a body that is there
pub record IsWaiting (contents : Contents) (waiting : List Extent) (uses : List ℕ) : Type 0 where
  pub counted : (k : ℕ) → count_by (lies_in k) waiting ≤ slice_index uses k
  pub apart : (number : ℕ) (bytes : List ℕ) → map.get contents number ≡ Some bytes → NoneWaits waiting (extent_of number (length bytes))

-- what is true of a keeper at all times; of what the file has, as long as no wrong answer of the disk was taken as true. Where all was
-- synced, so has whatever a crash now leaves
pub record IsSound {D : Type 0} (seen : D → List ℕ) (may_leave : D → List ℕ → Type 0) (is_clean : D → Bool) (contents : Contents) (waiting : List Extent) (is_synced : Bool) (disk : D) (uses : List ℕ) : Type 0 where
  pub housed : AreHoused contents uses
  pub waits : IsWaiting contents waiting uses
  pub now : IsTrue (is_clean disk) → AreStored contents (seen disk)
  pub later : IsTrue is_synced → IsTrue (is_clean disk) → (left : List ℕ) → may_leave disk left → AreStored contents left
