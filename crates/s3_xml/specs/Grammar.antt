-- What an XML text tells (XML 1.0, fifth edition, sections 2 to 4): elements with attributes, character data, CDATA sections,
-- comments and references, behind a byte order mark and a declaration, which may be there. A document type declaration and
-- processing instructions aren't read, and what attributes say isn't told.
use Rattle.std.specs.Prelude.{ℕ, zero, suc, Bool, false, not, ◌&&◌, ◌||◌, ◌==◌, nat_lt, nat_le, nat_eq, if◌then◌else◌, List, [], ◌∷◌, ◌++◌, length, drop, codes, Option, Some, None, option_map, is_some}
use Rattle.std.specs.Char.{is_digit, encode_utf8}
use Rattle.std.specs.List.{list_all, list_any, starts_with, prefix_len, take_while, before_first}
use Rattle.std.specs.Str.{bytes_eq}
use Rattle.std.specs.Str.Parse.{digits_value}
use Rattle.s3_text.specs.Cut.{parts_at}
use Rattle.s3_text.specs.Characters.{ampersand}
use Rattle.s3_xml.specs.Characters.{is_white, is_name_start, is_name_byte}
use Rattle.s3_xml.specs.Events.{Event, begin, end, text_in}
use Rattle.s3_xml.specs.Option.{◌>>=◌, ◌>>◌, where_so}

-- a text, and what stands behind it
abbrev pub Front : Type 0
Front = List ℕ × List ℕ

abbrev pub begins_with : List ℕ → List ℕ → Bool
begins_with mark bytes = starts_with nat_eq bytes mark

-- what stands behind a mark at the front
abbrev pub behind : List ℕ → List ℕ → Option (List ℕ)
behind mark bytes = if begins_with mark bytes then Some (drop (length mark) bytes) else None

-- what stands behind white space at the front
abbrev pub behind_white : List ℕ → List ℕ
behind_white bytes = drop (prefix_len is_white bytes) bytes

-- what stands before the first place of a mark, and what behind it
unfoldable pub cut_at : List ℕ → List ℕ → Option Front
cut_at mark [] = None
cut_at mark (b ∷ bytes) =
    if begins_with mark (b ∷ bytes) then Some ([], drop (length mark) (b ∷ bytes))
    else option_map (λ cut. (b ∷ cut.0, cut.1)) (cut_at mark bytes)

-- what is at the front is of these
abbrev pub begins_so : (ℕ → Bool) → List ℕ → Bool
begins_so is_so [] = false
begins_so is_so (b ∷ bytes) = is_so b

-- a name, and what stands behind it
unfoldable pub name_at : List ℕ → Option Front
name_at bytes = do
  where_so (begins_so is_name_start bytes)
  Some (take_while is_name_byte bytes, drop (prefix_len is_name_byte bytes) bytes)

-- a number that a character has: up to U+10FFFF, and no surrogate
abbrev pub is_character : ℕ → Bool
is_character number = nat_lt number 55_296 || (nat_le 57_344 number && nat_lt number 1_114_112)

-- the character of a number, in UTF-8
abbrev pub character_of : ℕ → Option (List ℕ)
character_of number = if is_character number then Some (encode_utf8 number) else None

-- the number that digits of a radix spell
abbrev pub number_of : ℕ → List ℕ → Option ℕ
number_of radix digits =
    if nat_lt 0 (length digits) && list_all (λ d. is_digit d radix) digits then Some (digits_value radix digits) else None

-- what a reference stands for, by what is written between `&` and `;`: one of the five entities, or a character by its number
unfoldable pub referred : List ℕ → Option (List ℕ)
referred name =
    if bytes_eq name (codes "amp") then Some (codes "&")
    else if bytes_eq name (codes "lt") then Some (codes "<")
    else if bytes_eq name (codes "gt") then Some (codes ">")
    else if bytes_eq name (codes "quot") then Some (codes "\"")
    else if bytes_eq name (codes "apos") then Some (codes "'")
    else if begins_with (codes "#x") name then (number_of 16 (drop 2 name) >>= character_of)
    else if begins_with (codes "#") name then (number_of 10 (drop 1 name) >>= character_of)
    else None

-- what stands behind an `&`, with its reference resolved
abbrev pub resolved : List ℕ → Option (List ℕ)
resolved part = do
  cut ← cut_at (codes ";") part
  character ← referred cut.0
  Some (character ++ cut.1)

-- parts, each behind an `&`
abbrev pub all_resolved : List (List ℕ) → Option (List ℕ)
all_resolved [] = Some []
all_resolved (part ∷ parts) = do
  first ← resolved part
  rest ← all_resolved parts
  Some (first ++ rest)

abbrev pub first_and_resolved : List (List ℕ) → Option (List ℕ)
first_and_resolved [] = Some []
first_and_resolved (part ∷ parts) = option_map (λ rest. part ++ rest) (all_resolved parts)

-- a text with all references resolved: each `&` begins one
unfoldable pub dereferenced : List ℕ → Option (List ℕ)
dereferenced raw = first_and_resolved (parts_at ampersand raw)

-- a text with each line's end, CR LF or CR, as LF
unfoldable pub with_line_feeds : List ℕ → List ℕ
with_line_feeds [] = []
with_line_feeds (a ∷ []) = (if a == 13 then 10 else a) ∷ []
with_line_feeds (a ∷ b ∷ rest) =
    if a == 13 && b == 10 then with_line_feeds (b ∷ rest) else (if a == 13 then 10 else a) ∷ with_line_feeds (b ∷ rest)

-- the value of an attribute: no `<`, and references that are ones
abbrev pub is_value : List ℕ → Bool
is_value value = not (list_any (λ b. b == 60) value) && is_some (dereferenced value)

-- what stands behind a value in quotes, single or double
unfoldable pub behind_value : List ℕ → Option (List ℕ)
behind_value [] = None
behind_value (quote ∷ bytes) = do
  where_so (quote == 34 || quote == 39)
  cut ← cut_at (quote ∷ []) bytes
  where_so (is_value cut.0)
  Some cut.1

-- what stands behind an attribute
unfoldable pub behind_attribute : List ℕ → Option (List ℕ)
behind_attribute bytes = do
  name ← name_at bytes
  value ← behind (codes "=") (behind_white name.1)
  behind_value (behind_white value)

-- a tag ends here
abbrev pub ends_tag : List ℕ → Bool
ends_tag bytes = begins_with (codes ">") bytes || begins_with (codes "/>") bytes

-- what stands behind attributes, of which there are fewer than so many, each with white space in front of it
unfoldable pub behind_attributes : ℕ → List ℕ → Option (List ℕ)
behind_attributes zero bytes = None
behind_attributes (suc most) bytes =
    if ends_tag (behind_white bytes) then Some (behind_white bytes)
    else do
      where_so (begins_so is_white bytes)
      rest ← behind_attribute (behind_white bytes)
      behind_attributes most rest

-- events, and what stands behind them
abbrev pub Told : Type 0
Told = List Event × List ℕ

-- the end of a start tag, or of a tag of an empty element
abbrev pub begun : List ℕ → List ℕ → Option Told
begun name rest =
    if begins_with (codes ">") rest then Some (begin name ∷ [], drop 1 rest)
    else Some (begin name ∷ end name ∷ [], drop 2 rest)

-- what stands behind `<`: a start tag, or the tag of an empty element
unfoldable pub start_tag : List ℕ → Option Told
start_tag bytes = do
  name ← name_at bytes
  rest ← behind_attributes (suc (length name.1)) name.1
  begun name.0 rest

-- what stands behind `</`: an end tag
unfoldable pub end_tag : List ℕ → Option Told
end_tag bytes = do
  name ← name_at bytes
  rest ← behind (codes ">") (behind_white name.1)
  Some (end name.0 ∷ [], rest)

-- what stands behind `<!--`: a comment, in which no `--` is
unfoldable pub comment : List ℕ → Option Told
comment bytes = do
  cut ← cut_at (codes "--") bytes
  rest ← behind (codes ">") cut.1
  Some ([], rest)

-- what stands behind `<![CDATA[`: a text as it is
unfoldable pub section : List ℕ → Option Told
section bytes = do
  cut ← cut_at (codes "]]>") bytes
  Some (text_in (with_line_feeds cut.0), cut.1)

-- character data, up to the next `<`
unfoldable pub character_data : List ℕ → Option Told
character_data bytes =
    let raw = before_first (λ b. b == 60) bytes in
    do
      where_so (not (is_some (cut_at (codes "]]>") raw)))
      content ← dereferenced (with_line_feeds raw)
      Some (text_in content, drop (length raw) bytes)

-- what is told at the front
unfoldable pub told_at : List ℕ → Option Told
told_at bytes =
    if begins_with (codes "<!--") bytes then comment (drop 4 bytes)
    else if begins_with (codes "<![CDATA[") bytes then section (drop 9 bytes)
    else if begins_with (codes "</") bytes then end_tag (drop 2 bytes)
    else if begins_with (codes "<") bytes then start_tag (drop 1 bytes)
    else character_data bytes

-- what is told from front to end, in fewer steps than so many
unfoldable pub told_within : ℕ → List ℕ → Option (List Event)
told_within zero bytes = None
told_within (suc most) [] = Some []
told_within (suc most) (b ∷ bytes) = do
  here ← told_at (b ∷ bytes)
  more ← told_within most here.1
  Some (here.0 ++ more)

abbrev pub events_of : List ℕ → Option (List Event)
events_of bytes = told_within (suc (length bytes)) bytes

-- what stands behind a byte order mark, if one is there
abbrev pub behind_mark : List ℕ → List ℕ
behind_mark bytes = if begins_with (239 ∷ 187 ∷ 191 ∷ []) bytes then drop 3 bytes else bytes

-- what stands behind an XML declaration, if one is there
unfoldable pub behind_declaration : List ℕ → Option (List ℕ)
behind_declaration bytes =
    if begins_with (codes "<?xml") bytes && begins_so is_white (drop 5 bytes)
    then option_map (λ cut. cut.1) (cut_at (codes "?>") bytes)
    else Some bytes
