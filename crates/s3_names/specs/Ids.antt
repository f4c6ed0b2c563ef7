-- The ids that this server gives to versions and uploads, and the numbers of parts.
use Rattle.std.specs.Prelude.{ℕ, ◌^◌, ◌<◌, Bool, ◌&&◌, ◌==◌, nat_le, if◌then◌else◌, List, ◌∷◌, length, drop, slice_index, codes, Option, Some, None, option_map, option_and_then, ⊤}
use Rattle.std.specs.List.{list_all}
use Rattle.std.specs.Str.{bytes_eq}
use Rattle.std.specs.Str.Parse.{digits_value}
use Rattle.s3_text.specs.Characters.{is_lower_hex}
use Rattle.s3_text.specs.Digits.{decimal_number, number_digits}
use Rattle.s3_names.specs.declared.ids.VersionId.{VersionId}
use Rattle.s3_names.specs.declared.ids.VersionId.TheVariants.{Null, Numbered}

-- the letters of the ids of uploads and versions
abbrev pub letter_u : ℕ
letter_u = 117

abbrev pub letter_v : ℕ
letter_v = 118

-- the id that a letter and the sixteen digits of a number make
unfoldable pub numbered_id : ℕ → ℕ → List ℕ
numbered_id letter number = letter ∷ number_digits number

-- a letter and then sixteen lower-case hexadecimal digits
unfoldable pub is_numbered_id : ℕ → List ℕ → Bool
is_numbered_id letter text =
    length text == 17 && slice_index text 0 == letter && list_all is_lower_hex (drop 1 text)

-- the number that such an id was made of
unfoldable pub number_of_id : ℕ → List ℕ → Option ℕ
number_of_id letter text = if is_numbered_id letter text then Some (digits_value 16 (drop 1 text)) else None

-- the text of an upload's id: `u` and the number of the entry that made it
abbrev pub upload_id_text : ℕ → List ℕ
upload_id_text number = numbered_id letter_u number

-- the number of the upload whose id a text is
abbrev pub upload_id : List ℕ → Option ℕ
upload_id text = number_of_id letter_u text

-- the text of a version's id: `null` for one that was made while its bucket was unversioned or suspended,
-- else `v` and the number of the entry that made it
abbrev pub version_id_text : VersionId → List ℕ
version_id_text Null = codes "null"
version_id_text (Numbered number) = numbered_id letter_v number

-- the version whose id a text is
unfoldable pub version_id : List ℕ → Option VersionId
version_id text = if bytes_eq text (codes "null") then Some Null else option_map Numbered (number_of_id letter_v text)

-- the number, if there is one, is one of 64 bits
abbrev pub HasSmallNumber : VersionId → Type 0
HasSmallNumber Null = ⊤
HasSmallNumber (Numbered number) = number < 2 ^ 64

-- a part's number: 1 to 10,000
abbrev pub as_part_number : ℕ → Option ℕ
as_part_number number = if nat_le 1 number && nat_le number 10_000 then Some number else None

-- the part number that one to five decimal digits spell
unfoldable pub part_number : List ℕ → Option ℕ
part_number text = option_and_then as_part_number (decimal_number 5 text)
