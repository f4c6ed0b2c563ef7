-- Bodies that were read, and the list of where they lie.
use Rattle.std.specs.Prelude.{◌≡◌, ℕ, List, length, Some}
use Rattle.std.specs.List.{Contains}
use Rattle.std.specs.FinMap as map
use Rattle.s3_stored_bodies.specs.Numbers.{Contents}
use Rattle.s3_block_file.specs.declared.extent.Extent.{Extent}
use Rattle.s3_block_bodies.specs.Stored.{extent_of}

-- the extent of each body is in the list
abbrev pub AreListed : Contents → List Extent → Type 0
AreListed contents extents = (number : ℕ) (bytes : List ℕ) → map.get contents number ≡ Some bytes → Contains extents (extent_of number (length bytes))
