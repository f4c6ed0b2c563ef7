-- What a reader is told at the front of a text, before it resolves references.
use Rattle.std.specs.Prelude.{ℕ, List, [], ◌∷◌, Option, Some, option_map}
use Rattle.s3_xml.specs.Events.{Event, begin, end, text_in}
use Rattle.s3_xml.specs.Grammar as grammar
use Rattle.s3_xml.specs.Grammar.{with_line_feeds}
use Rattle.s3_xml_reader.specs.Texts.{text_of}
use Rattle.s3_xml_reader.specs.declared.told.Told.{Told}
use Rattle.s3_xml_reader.specs.declared.told.Told.TheVariants.{Begin, Empty, End, Characters, Section, Comment}

-- the events that it is
unfoldable pub events_told : Told → Option (List Event)
events_told (Begin name) = Some (begin name.now ∷ [])
events_told (Empty name) = Some (begin name.now ∷ end name.now ∷ [])
events_told (End name) = Some (end name.now ∷ [])
events_told (Characters raw) = option_map text_in (text_of raw.now)
events_told (Section raw) = Some (text_in (with_line_feeds raw.now))
events_told Comment = Some []

-- and what stands behind it
abbrev pub told_with : Told → List ℕ → Option grammar.Told
told_with told rest = option_map (λ events. (events, rest)) (events_told told)
