-- What is spelled is read again, and what is read is spelled so.
use Rattle.std.specs.Prelude.{◌≡◌, ◌<◌, ◌≤◌, ℕ, ◌^◌, List, length, Some}
use Rattle.std.specs.List.{AllByRecursion}
use Rattle.hex.specs.Hex.{IsBytes}
use Rattle.s3_names.specs.declared.ids.VersionId.{VersionId}
use Rattle.s3_versions.specs.declared.version.Versioning.{Versioning}
use Rattle.s3_versions.specs.Metadata.{Entry, metadata_size}
use Rattle.s3_columns.specs.Pairs.{Pair, AreFitting, pairs_spelled, pairs_read}
use Rattle.s3_columns.specs.Attributes.{kept_of, content_type_in, metadata_in}
use Rattle.s3_columns.specs.Numbers.{numbers_spelled, numbers_in}
use Rattle.s3_columns.specs.Columns.{id_column, id_in, mode_column, versioning_in}

-- pairs that fit are read again
abbrev pub PairsAreReadAgain : Type 0
PairsAreReadAgain = (pairs : List Pair) → AreFitting pairs → pairs_read (pairs_spelled pairs) ≡ Some pairs

-- pairs that are read spell the bytes again, and fit
abbrev pub PairsAreSpelledAgain : Type 0
PairsAreSpelledAgain =
    (bytes : List ℕ) (pairs : List Pair) → IsBytes bytes → pairs_read bytes ≡ Some pairs
    → (pairs_spelled pairs ≡ bytes) × AreFitting pairs

-- a media type and metadata are found in what is kept of them
abbrev pub TypeIsFound : Type 0
TypeIsFound =
    (kind : List ℕ) (entries : List Entry) → length kind ≤ 255 → metadata_size entries ≤ 4_608
    → content_type_in (kept_of kind entries) ≡ kind

abbrev pub MetadataIsFound : Type 0
MetadataIsFound =
    (kind : List ℕ) (entries : List Entry) → length kind ≤ 255 → metadata_size entries ≤ 4_608
    → metadata_in (kept_of kind entries) ≡ entries

-- numbers are found in the bytes that they are written as
abbrev pub NumbersAreFound : Type 0
NumbersAreFound =
    (numbers : List ℕ) → AllByRecursion (λ number. number < 2 ^ 64) numbers → numbers_in (numbers_spelled numbers) ≡ numbers

-- an id is found in its column
abbrev pub IdIsFound : Type 0
IdIsFound = (id : VersionId) → id_in (id_column id) ≡ id

-- no two ids have one column
abbrev pub IdsAreToldApart : Type 0
IdsAreToldApart = (id other : VersionId) → id_column id ≡ id_column other → id ≡ other

-- a versioning is found in its column
abbrev pub VersioningIsFound : Type 0
VersioningIsFound = (versioning : Versioning) → versioning_in (mode_column versioning) ≡ versioning
