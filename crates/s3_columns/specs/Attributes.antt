-- What is kept of an object beside its bytes: its media type under the name `content-type`, and then its metadata.
use Rattle.std.specs.Prelude.{◌≡◌, ◌≤◌, ℕ, if◌then◌else◌, List, [], ◌∷◌, length, drop, map, codes, Ok, unwrap_or}
use Rattle.std.specs.Str.{bytes_eq}
use Rattle.s3_versions.specs.Metadata.{Entry, AreInOrder, metadata, metadata_size}
use Rattle.s3_columns.specs.Pairs.{Pair, pairs_spelled, pairs_read}

-- the name of the media type
abbrev pub type_name : List ℕ
type_name = codes "content-type"

-- a media type as a pair
abbrev pub type_pair : List ℕ → Pair
type_pair kind = record { name = type_name; value = kind }

-- an entry of the metadata as a pair
abbrev pub entry_pair : Entry → Pair
entry_pair entry = record { name = entry.name; value = entry.value }

-- what is kept of an object of this media type and this metadata
unfoldable pub kept_of : List ℕ → List Entry → List ℕ
kept_of kind entries = pairs_spelled (type_pair kind ∷ map entry_pair entries)

-- the pairs that are kept: none where the bytes spell none
abbrev pub pairs_in : List ℕ → List Pair
pairs_in bytes = unwrap_or (pairs_read bytes) []

-- the value of the first pair with the name of the media type; nothing where there is none
abbrev pub type_among : List Pair → List ℕ
type_among [] = []
type_among (pair ∷ pairs) = if bytes_eq pair.name type_name then pair.value else type_among pairs

-- the media type that is kept
unfoldable pub content_type_in : List ℕ → List ℕ
content_type_in bytes = type_among (pairs_in bytes)

-- the entry of the metadata that a pair is
abbrev pub entry_of : Pair → Entry
entry_of pair = record { name = pair.name; value = pair.value }

-- the metadata that is kept: what stands behind the first pair
unfoldable pub metadata_in : List ℕ → List Entry
metadata_in bytes = map entry_of (drop 1 (pairs_in bytes))

-- what a media type and metadata may be
pub record AreAllowed (kind : List ℕ) (entries : List Entry) : Type 0 where
  pub len : length kind ≤ 255
  pub count : length entries ≤ 64
  pub size : metadata_size entries ≤ 4_608
  pub rule : metadata entries ≡ Ok entries
  pub order : AreInOrder entries
