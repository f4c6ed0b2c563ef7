-- A document: one root, in which elements stand in each other, and each end has the name of its beginning.
use Rattle.std.specs.Prelude.{ℕ, suc, Bool, true, false, not, ◌&&◌, nat_lt, List, [], ◌∷◌, length, Option, Some}
use Rattle.std.specs.List.{list_all}
use Rattle.std.specs.Str.{bytes_eq}
use Rattle.s3_xml.specs.Characters.{is_white}
use Rattle.s3_xml.specs.Events.{Event, begin, text, end}
use Rattle.s3_xml.specs.Grammar.{events_of, behind_mark, behind_declaration}
use Rattle.s3_xml.specs.Option.{◌>>=◌, ◌>>◌, where_so}

-- how many elements may stand in each other
abbrev pub most_levels : ℕ
most_levels = 16

-- these events go on with what is open, the innermost first, and close it; outside of the root stands white space alone, and
-- whether there may be a root yet
unfoldable pub goes_on : Bool → List (List ℕ) → List Event → Bool
goes_on may_begin [] [] = not may_begin
goes_on may_begin (name ∷ within) [] = false
goes_on may_begin [] (begin name ∷ events) = may_begin && goes_on false (name ∷ []) events
goes_on may_begin (outer ∷ within) (begin name ∷ events) =
    nat_lt (suc (length within)) most_levels && goes_on may_begin (name ∷ outer ∷ within) events
goes_on may_begin [] (text content ∷ events) = list_all is_white content && goes_on may_begin [] events
goes_on may_begin (name ∷ within) (text content ∷ events) = goes_on may_begin (name ∷ within) events
goes_on may_begin [] (end name ∷ events) = false
goes_on may_begin (outer ∷ within) (end name ∷ events) = bytes_eq outer name && goes_on may_begin within events

abbrev pub is_document : List Event → Bool
is_document events = goes_on true [] events

-- what a text tells, if it is that of a document
unfoldable pub document_of : List ℕ → Option (List Event)
document_of bytes = do
  rest ← behind_declaration (behind_mark bytes)
  events ← events_of rest
  where_so (is_document events)
  Some events
