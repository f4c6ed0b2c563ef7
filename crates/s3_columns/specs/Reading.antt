-- How a media type and metadata are read from the bytes that are kept of them.
use Rattle.std.specs.Prelude.{ℕ, Bool, true, ◌&&◌, nat_le, if◌then◌else◌, List, [], ◌∷◌, length, Option, Some, None, is_ok}
use Rattle.std.specs.Ordering.{is_lt}
use Rattle.std.specs.Str.{bytes_eq}
use Rattle.s3_text.specs.Order.{byte_order, rises}
use Rattle.s3_versions.specs.Metadata.{Entry, names_in, metadata}
use Rattle.s3_columns.specs.Items.{◌>>=◌, items_read}
use Rattle.s3_columns.specs.Pairs.{pair_at}
use Rattle.s3_columns.specs.Attributes.{type_name, entry_of}

-- the media type at the front of some bytes, and the bytes behind it
unfoldable pub type_at : List ℕ → Option (List ℕ × List ℕ)
type_at bytes = do
  first ← pair_at bytes
  if bytes_eq first.0.name type_name then Some (first.0.value, first.1) else None

-- the entry of the metadata at the front of some bytes, and the bytes behind it
unfoldable pub entry_at : List ℕ → Option (Entry × List ℕ)
entry_at bytes = do
  first ← pair_at bytes
  Some (entry_of first.0, first.1)

-- a name comes before the first of others, if there is one
abbrev pub comes_first : List ℕ → List (List ℕ) → Bool
comes_first name [] = true
comes_first name (next ∷ rest) = is_lt (byte_order name next)

-- entries that metadata may have
abbrev pub are_entries : List Entry → Bool
are_entries entries = nat_le (length entries) 64 && (is_ok (metadata entries) && rises (names_in entries))

-- the entries that bytes spell
abbrev pub entries_read : List ℕ → Option (List Entry)
entries_read bytes = items_read entry_at bytes

-- the metadata whose entries bytes spell
unfoldable pub metadata_read : List ℕ → Option (List Entry)
metadata_read bytes = do
  entries ← entries_read bytes
  if are_entries entries then Some entries else None

-- the media type and the metadata that bytes spell
unfoldable pub kept_read : List ℕ → Option (List ℕ × List Entry)
kept_read bytes = do
  first ← type_at bytes
  if nat_le (length first.0) 255 then (metadata_read first.1 >>= λ entries. Some (first.0, entries)) else None
