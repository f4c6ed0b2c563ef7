-- The text of what a document tells (XML 1.0, fifth edition).
use Rattle.std.specs.Prelude.{ℕ, ◌||◌, ◌==◌, ◌/◌, ◌%◌, cond, nat_lt, if◌then◌else◌, List, [], ◌∷◌, ◌++◌, codes}
use Rattle.std.specs.Char.{digit_char}
use Rattle.std.specs.List.{flat_map}
use Rattle.s3_xml.specs.Characters.{is_control, is_noncharacter}
use Rattle.s3_xml.specs.Events.{Event, begin, text, end}

-- a byte in hexadecimal digits, without a zero in front
abbrev pub byte_digits : ℕ → List ℕ
byte_digits b = if nat_lt b 16 then digit_char b ∷ [] else digit_char (b / 16) ∷ digit_char (b % 16) ∷ []

-- the reference to a character by its number
abbrev pub numbered : ℕ → List ℕ
numbered b = codes "&#x" ++ byte_digits b ++ codes ";"

-- what stands for a byte that isn't markup: a reference for a carriage return, which readers take for a line's end, and for
-- what XML has no character for
abbrev pub escaped_other : ℕ → List ℕ
escaped_other b = if b == 13 || is_control b then numbered b else b ∷ []

-- what stands for a byte: a reference for what is markup
unfoldable pub escaped_byte : ℕ → List ℕ
escaped_byte b =
    cond (b == 38) (codes "&amp;")
    (cond (b == 60) (codes "&lt;")
    (cond (b == 62) (codes "&gt;")
    (cond (b == 34) (codes "&quot;")
    (escaped_other b))))

-- what stands for U+FFFE and U+FFFF, by the last of their bytes
abbrev pub escaped_noncharacter : ℕ → List ℕ
escaped_noncharacter c = if c == 190 then codes "&#xfffe;" else codes "&#xffff;"

-- what stands for a text
unfoldable pub escaped : List ℕ → List ℕ
escaped [] = []
escaped (a ∷ []) = escaped_byte a
escaped (a ∷ b ∷ []) = escaped_byte a ++ escaped (b ∷ [])
escaped (a ∷ b ∷ c ∷ rest) =
    if is_noncharacter a b c then escaped_noncharacter c ++ escaped rest
    else escaped_byte a ++ escaped (b ∷ c ∷ rest)

-- the text of an event
abbrev pub event_text : Event → List ℕ
event_text (begin name) = codes "<" ++ name ++ codes ">"
event_text (text content) = escaped content
event_text (end name) = codes "</" ++ name ++ codes ">"

-- and of several
abbrev pub markup : List Event → List ℕ
markup events = flat_map event_text events

-- the first line of a document
abbrev pub declaration : List ℕ
declaration = codes "<?xml version=\"1.0\" encoding=\"UTF-8\"?>" ++ 10 ∷ []

-- the namespace of a root, as its attribute; none where it is empty (Namespaces in XML 1.0, section 2.1)
abbrev pub namespace_text : List ℕ → List ℕ
namespace_text [] = []
namespace_text (b ∷ bytes) = codes " xmlns=\"" ++ (b ∷ bytes) ++ codes "\""

-- the text of a document whose root has this name and this namespace, and in which this stands
unfoldable pub document_text : (root namespace : List ℕ) → List Event → List ℕ
document_text root namespace inner =
    declaration ++ codes "<" ++ root ++ namespace_text namespace ++ codes ">" ++ markup inner ++ event_text (end root)
