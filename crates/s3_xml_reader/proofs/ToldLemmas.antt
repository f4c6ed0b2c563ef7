-- What is told at the front of a text.
use Rattle.std.proofs.Common.{◌≡◌, ℕ, ◌==◌, not, List, length, drop, refl, ap, ◌∙◌, Option, Some, None, option_map, is_some, codes, Bor}
use Rattle.std.specs.List.{before_first}
use Rattle.s3_xml.specs.Events.{text_in}
use Rattle.s3_xml.specs.Grammar as grammar
use Rattle.s3_xml.specs.Grammar.{cut_at, dereferenced, with_line_feeds, character_data}
use Rattle.s3_xml.specs.Option.{◌>>=◌, ◌>>◌, where_so}
use Rattle.s3_xml_reader.specs.Texts.{text_of}
use Rattle.s3_xml_reader.specs.Told.{events_told, told_with}
use Rattle.s3_xml_reader.specs.declared.told.Told.TheVariants.{Characters}

abbrev one_text : Option (List ℕ) → List ℕ → Option grammar.Told
one_text content rest = content >>= λ content. Some (text_in content, rest)

abbrev unless_marked : Option grammar.Front → Option grammar.Told → Option grammar.Told
unless_marked cut told = where_so (not (is_some cut)) >> told

text_events : (rest : List ℕ) (content : Option (List ℕ)) → option_map {U = grammar.Told} (λ events. (events, rest)) (option_map text_in content) ≡ one_text content rest
text_events rest None = refl
text_events rest (Some content) = refl

-- character data, up to the next `<`
pub told_characters : (raw : Bor (List ℕ)) (bytes : List ℕ) → raw.now ≡ before_first (λ b. b == 60) bytes → None ≡ cut_at (codes "]]>") raw.now → told_with (Characters raw) (drop (length raw.now) bytes) ≡ character_data bytes
unfolding events_told text_of character_data
told_characters raw bytes is unmarked =
    text_events (drop (length raw.now) bytes) (dereferenced (with_line_feeds raw.now))
    ∙ ap (λ cut. unless_marked cut (one_text (dereferenced (with_line_feeds raw.now)) (drop (length raw.now) bytes))) unmarked
    ∙ ap (λ raw. unless_marked (cut_at (codes "]]>") raw) (one_text (dereferenced (with_line_feeds raw)) (drop (length raw) bytes))) is
