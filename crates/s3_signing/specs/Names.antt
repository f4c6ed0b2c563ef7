-- The names of the headers that a signer covers (AWS Signature Version 4, "Create a canonical request",
-- "Add the signature to the request").
use Rattle.std.specs.Prelude.{◌≡◌, ℕ, Bool, true, not, List, map, filter, codes}
use Rattle.std.specs.List.{dedup, join_with_byte, list_any}
use Rattle.std.specs.Str.{bytes_eq}
use Rattle.s3_text.specs.Characters.{semicolon}
use Rattle.s3_text.specs.Order.{byte_order, rises}
use Rattle.s3_text.specs.Sorting.{sorted_by}
use Rattle.s3_http_heads.specs.Head.{HeadParts}
use Rattle.s3_signing.specs.declared.names.Name.{Name}
use Rattle.s3_signing.specs.Cover.{sent_names}

-- the name is another one than Authorization
abbrev pub is_other : List ℕ → Bool
is_other name = not (bytes_eq name (codes "authorization"))

-- the names of all header lines but those of Authorization
abbrev pub names_to_cover : HeadParts → List (List ℕ)
names_to_cover head = filter is_other (sent_names head)

-- the names from the least to the greatest, each once
abbrev pub in_order : List (List ℕ) → List (List ℕ)
in_order names = dedup bytes_eq (sorted_by byte_order names)

-- what holds of names in order: each comes before the next one, and they are the names of the list. The code
-- that sorts proves it; a clause of a private function cites it.
pub record IsOrdered (names : List (List ℕ)) : Type 0 where
  pub rising : rises (in_order names) ≡ true
  pub same : (p : List ℕ → Bool) → list_any p (in_order names) ≡ list_any p names

-- the names that a signer covers, joined by semicolons
unfoldable pub cover_of : HeadParts → List ℕ
cover_of head = join_with_byte semicolon (in_order (names_to_cover head))

-- the text of a name, and the texts of names. Only clauses of private functions cite these, and nobody has
-- to believe them.
abbrev pub name_text : Name → List ℕ
name_text name = name.text.items

abbrev pub texts : List Name → List (List ℕ)
texts names = map name_text names
