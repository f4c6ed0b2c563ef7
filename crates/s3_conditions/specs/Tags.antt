-- The entity tags of a condition (RFC 9110, sections 8.8.3 and 13.1), read more freely than the standard spells them: between commas
-- stand items, and an item may lack its quotes.
use Rattle.std.specs.Prelude.{ℕ, Bool, ◌||◌, ◌==◌, nat_eq, if◌then◌else◌, List, [], ◌∷◌, drop, reverse, codes}
use Rattle.std.specs.List.{list_any, starts_with}
use Rattle.std.specs.Str.{bytes_eq}
use Rattle.httparse.specs.Grammar.{trim_ows}
use Rattle.s3_text.specs.Characters.{comma, double_quote}
use Rattle.s3_text.specs.Cut.{parts_at}

-- the text without the quotes that it begins with
abbrev pub skip_quotes : List ℕ → List ℕ
skip_quotes [] = []
skip_quotes (b ∷ rest) = if b == double_quote then skip_quotes rest else b ∷ rest

-- the text without the quotes at both ends, paired or not
abbrev pub unquoted : List ℕ → List ℕ
unquoted text = reverse (skip_quotes (reverse (skip_quotes text)))

-- the item without the mark of a weak tag: each comparison here is the weak one, and of strong tags that is the same
abbrev pub without_weakness : List ℕ → List ℕ
without_weakness item = if starts_with nat_eq item (codes "W/") then drop 2 item else item

-- what an item names: it loses spaces and tabs at its ends, then that mark, then its quotes
abbrev pub tag_in : List ℕ → List ℕ
tag_in item = unquoted (without_weakness (trim_ows item))

-- it names any tag, or this one
abbrev pub is_match : List ℕ → List ℕ → Bool
is_match item tag = bytes_eq (tag_in item) (codes "*") || bytes_eq (tag_in item) tag

-- an item of the line's value does
unfoldable pub matches : List ℕ → List ℕ → Bool
matches value tag = list_any (λ item. is_match item tag) (parts_at comma value)
