-- The bytes of an XML text, as far as they tell its characters apart (XML 1.0, fifth edition, sections 2.2 and 2.3).
use Rattle.std.specs.Prelude.{ℕ, Bool, false, not, ◌&&◌, ◌||◌, ◌==◌, nat_le, nat_lt, List, ◌∷◌}
use Rattle.std.specs.Char.{is_ascii_digit}
use Rattle.std.specs.List.{list_any}
use Rattle.std.specs.Str.{is_utf8}

-- white space: a space, a tab, a line feed or a carriage return
abbrev pub is_white : ℕ → Bool
is_white b = b == 32 || b == 9 || b == 10 || b == 13

-- a control byte that XML has no character for
abbrev pub is_control : ℕ → Bool
is_control b = nat_lt b 32 && not (is_white b)

-- the three bytes of U+FFFE or of U+FFFF, which are no characters of XML either
abbrev pub is_noncharacter : ℕ → ℕ → ℕ → Bool
is_noncharacter a b c = a == 239 && b == 191 && (c == 190 || c == 191)

-- such bytes stand at the front
abbrev pub begins_noncharacter : List ℕ → Bool
begins_noncharacter (a ∷ b ∷ c ∷ rest) = is_noncharacter a b c
begins_noncharacter other = false

-- such bytes stand somewhere
abbrev pub has_noncharacter : List ℕ → Bool
has_noncharacter (a ∷ b ∷ c ∷ rest) = is_noncharacter a b c || has_noncharacter (b ∷ c ∷ rest)
has_noncharacter other = false

-- UTF-8, of characters that XML has
unfoldable pub is_text : List ℕ → Bool
is_text bytes = is_utf8 bytes && not (list_any is_control bytes) && not (has_noncharacter bytes)

-- a byte that may begin a name: a letter, `_`, `:`, and any byte of a character that isn't ASCII
abbrev pub is_name_start : ℕ → Bool
is_name_start b = (nat_le 97 b && nat_le b 122) || (nat_le 65 b && nat_le b 90) || b == 95 || b == 58 || nat_le 128 b

-- and one that may stand in it
abbrev pub is_name_byte : ℕ → Bool
is_name_byte b = is_name_start b || is_ascii_digit b || b == 45 || b == 46
