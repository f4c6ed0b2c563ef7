-- The text that character data stands for, part by part.
use Rattle.std.specs.Prelude.{ℕ, Bool, false, ◌&&◌, ◌==◌, if◌then◌else◌, List, [], ◌∷◌, ◌++◌, Option, Some, option_map}
use Rattle.std.specs.List.{list_all}
use Rattle.std.specs.Option.{option_map_or}
use Rattle.s3_xml.specs.Characters.{is_white}
use Rattle.s3_xml.specs.Grammar.{with_line_feeds, dereferenced}
use Rattle.s3_xml.specs.Option.{◌>>=◌}
use Rattle.s3_xml_reader.specs.References.{resolved_at}

-- with line ends as line feeds, and with references resolved
unfoldable pub text_of : List ℕ → Option (List ℕ)
text_of raw = dereferenced (with_line_feeds raw)

-- what a part behind an `&` stands for
unfoldable pub part_text : List ℕ → Option (List ℕ)
part_text part = do
  front ← resolved_at part
  Some (front.0 ++ with_line_feeds front.1)

-- and several, each behind an `&`
unfoldable pub parts_text : List (List ℕ) → Option (List ℕ)
parts_text [] = Some []
parts_text (part ∷ parts) = do
  first ← part_text part
  rest ← parts_text parts
  Some (first ++ rest)

-- it is a text, and white space alone
abbrev pub is_white_text : Option (List ℕ) → Bool
is_white_text content = option_map_or (list_all is_white) content false

-- what stands for a byte where line ends are line feeds, behind a carriage return or not
abbrev pub feed_of : Bool → ℕ → List ℕ
feed_of behind byte = if behind && byte == 10 then [] else (if byte == 13 then 10 else byte) ∷ []

-- a text behind which another one stands, where there is one
abbrev pub appended : List ℕ → Option (List ℕ) → Option (List ℕ)
appended front content = option_map (λ content. front ++ content) content
