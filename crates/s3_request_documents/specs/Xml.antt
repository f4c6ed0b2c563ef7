-- What the documents of requests tell in XML: fields, some of them in rows.
use Rattle.std.specs.Prelude.{ℕ, ◌==◌, Bool, ◌&&◌, nat_lt, ◌-◌, if◌then◌else◌, List, [], ◌∷◌, ◌++◌, length, Option, Some, None, option_map, filter}
use Rattle.std.specs.Char.{is_ascii_digit}
use Rattle.std.specs.List.{last_or, list_all, prefix_len, suffix_len}
use Rattle.std.specs.Option.{option_map_or}
use Rattle.std.specs.Str.{bytes_eq}
use Rattle.std.specs.Str.Parse.{digits_value}
use Rattle.std.specs.Prelude.{drop, take, false}
use Rattle.s3_xml.specs.Characters.{is_white}
use Rattle.s3_xml.specs.Ended.{Ended, elements_of}
use Rattle.s3_xml.specs.Option.{◌>>=◌, ◌>>◌, where_so}

-- the element of a name
abbrev pub is_named : List ℕ → Ended → Bool
is_named name element = bytes_eq element.name name

-- the elements of a document whose root, which ends last, has this name
unfoldable pub rooted : (name body : List ℕ) → Option (List Ended)
rooted name body = do
  elements ← elements_of body
  where_so (option_map_or (is_named name) (last_or None elements) false)
  Some elements

-- the fields of the root: the elements right in it
abbrev pub top_fields : List Ended → List Ended
top_fields elements = filter (λ element. element.level == 2) elements

-- the fields of each row: the elements right in an element of this name, which stands right in the root. An element
-- ends before the one in which it stands, so those that are held are the fields of what ends next right in the root
unfoldable pub rows_from : List ℕ → List Ended → List Ended → List (List Ended)
rows_from name held [] = []
rows_from name held (element ∷ elements) =
    if element.level == 3 then rows_from name (held ++ element ∷ []) elements
    else if element.level == 2 then
    (if is_named name element then held ∷ rows_from name [] elements else rows_from name [] elements)
    else rows_from name held elements

abbrev pub rows_named : List ℕ → List Ended → List (List Ended)
rows_named name elements = rows_from name [] elements

-- the text of a field; of several of one name the last one counts
abbrev pub field_in : List ℕ → List Ended → Option (List ℕ)
field_in name fields = option_map (λ element. element.content) (last_or None (filter (is_named name) fields))

-- the text of the last field of a name in the root of a document, which has this name; there may be none
unfoldable pub root_field : (root name body : List ℕ) → Option (Option (List ℕ))
root_field root name body = do
  elements ← rooted root body
  Some (field_in name (top_fields elements))

-- a text without white space at its ends
abbrev pub trimmed : List ℕ → List ℕ
trimmed text =
    let behind = drop (prefix_len is_white text) text in
    take (length behind - suffix_len is_white behind) behind

-- the number that decimal digits spell
abbrev pub number_spelled : List ℕ → Option ℕ
number_spelled digits =
    if nat_lt 0 (length digits) && list_all is_ascii_digit digits then Some (digits_value 10 digits) else None

-- the number that a text tells in decimal digits, with white space around them or not
abbrev pub number_told : List ℕ → Option ℕ
number_told text = number_spelled (trimmed text)
