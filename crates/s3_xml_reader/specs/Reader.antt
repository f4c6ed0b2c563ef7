-- What a reader of a document answers.
use Rattle.std.specs.Prelude.{◌≡◌, ◌≢◌, ℕ, List, [], ◌∷◌, Option, Some, None, option_map, Result, Ok, Err}
use Rattle.s3_xml.specs.Ended.{Ended}
use Rattle.s3_xml_reader.specs.Place.{as_ended}
use Rattle.s3_xml_reader.specs.declared.element.Element.{Element}
use Rattle.s3_xml_reader.specs.declared.error.Error.{Error}
use Rattle.s3_xml_reader.specs.declared.error.Error.TheVariants.{Malformed, NoMemory}

-- a reader, as contracts see it: the elements that are still to end, or nothing where the text isn't that of a document; and how
-- many bytes are still to be read
pub record Reading : Type 0 where
  pub elements : Option (List Ended)
  pub unread : ℕ

-- the next element of those that are still to end; none where none is; and where no document is, or memory runs out for the text
-- of an element, why not: a reader stays where it is then
abbrev pub IsNext : (old new : Option (List Ended)) → Result (Option Element) Error → Type 0
IsNext old new (Ok (Some element)) = old ≡ option_map (λ rest. as_ended element ∷ rest) new
IsNext old new (Ok None) = (old ≡ Some []) × (new ≡ old)
IsNext old new (Err Malformed) = (old ≡ None) × (new ≡ old)
IsNext old new (Err NoMemory) = (old ≢ Some []) × (new ≡ old)
