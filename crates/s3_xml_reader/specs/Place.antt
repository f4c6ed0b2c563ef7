-- How far a reader has come in a document, and where it comes by what it is told.
use Rattle.std.specs.Prelude.{◌≡◌, ℕ, suc, ◌<◌, Bool, true, false, not, nat_lt, List, [], ◌∷◌, ◌++◌, length, Option, Some, None, option_map, Result, Ok, Err}
use Rattle.std.specs.List.{list_all}
use Rattle.std.specs.Option.{unwrap_or}
use Rattle.s3_xml.specs.Characters.{is_white}
use Rattle.s3_xml.specs.Documents.{most_levels, goes_on}
use Rattle.s3_xml.specs.Ended.{Ended, local_name, ended_in}
use Rattle.s3_xml.specs.Grammar.{events_of, with_line_feeds}
use Rattle.s3_xml.specs.Option.{◌>>=◌, ◌>>◌, where_so}
use Rattle.s3_xml_reader.specs.Names.{left_by}
use Rattle.s3_xml_reader.specs.Texts.{text_of}
use Rattle.s3_xml_reader.specs.declared.element.Element.{Element}
use Rattle.s3_xml_reader.specs.declared.error.Error.{Error}
use Rattle.s3_xml_reader.specs.declared.error.Error.TheVariants.{Malformed, NoMemory}
use Rattle.s3_xml_reader.specs.declared.told.Told.{Told}
use Rattle.s3_xml_reader.specs.declared.told.Told.TheVariants.{Begin, Empty, End, Characters, Section, Comment}

-- whether there may be a root yet, which elements are open, the innermost first, and the text so far of the innermost, unless
-- an element stands in it
pub record State : Type 0 where
  pub may_begin : Bool
  pub within : List (List ℕ)
  pub held : Option (List ℕ)

-- in front of a document
abbrev pub start : State
start = record { may_begin = true; within = []; held = None }

-- the elements that are still to end, where that is left of a document
unfoldable pub to_end : State → List ℕ → Option (List Ended)
to_end state rest = do
  events ← events_of rest
  where_so (goes_on state.may_begin state.within events)
  Some (ended_in state.within state.held events)

-- an element, as contracts see it
abbrev pub as_ended : Element → Ended
as_ended element = record { level = element.level; name = element.name.now; content = element.content.items }

-- where a reader comes by a step, and the element that ends there
abbrev pub Step : Type 0
Step = Option Ended × State

-- a document may end
abbrev pub may_end : Bool → List (List ℕ) → Bool
may_end may_begin [] = not may_begin
may_end may_begin (outer ∷ within) = false

-- an element in front of those that are still to end, if one ends
abbrev pub with_ended : Option Ended → Option (List Ended) → Option (List Ended)
with_ended None rest = rest
with_ended (Some element) rest = option_map (λ rest. element ∷ rest) rest

-- an element may begin
abbrev pub may_open : Bool → List (List ℕ) → Bool
may_open may_begin [] = may_begin
may_open may_begin (outer ∷ within) = nat_lt (suc (length within)) most_levels

-- and then whether there may be a root yet
abbrev pub may_still : Bool → List (List ℕ) → Bool
may_still may_begin [] = false
may_still may_begin (outer ∷ within) = may_begin

-- an element begins
unfoldable pub at_begin : State → List ℕ → Option Step
at_begin state name = do
  where_so (may_open state.may_begin state.within)
  Some (None, record { may_begin = may_still state.may_begin state.within; within = name ∷ state.within; held = Some [] })

-- an element begins and ends
unfoldable pub at_empty : State → List ℕ → Option Step
at_empty state name = do
  where_so (may_open state.may_begin state.within)
  Some (Some (record { level = suc (length state.within); name = local_name name; content = [] }), record { may_begin = may_still state.may_begin state.within; within = state.within; held = None })

-- an element ends
unfoldable pub at_end : State → List ℕ → Option Step
at_end state name = do
  within ← left_by state.within name
  Some (Some (record { level = suc (length within); name = local_name name; content = unwrap_or state.held [] }), record { may_begin = state.may_begin; within = within; held = None })

-- this text may stand here
abbrev pub may_stand : List (List ℕ) → List ℕ → Bool
may_stand [] content = list_all is_white content
may_stand (outer ∷ within) content = true

-- a text stands here
unfoldable pub at_text : State → List ℕ → Option Step
at_text state content = do
  where_so (may_stand state.within content)
  Some (None, record state { held = option_map (λ front. front ++ content) state.held })

-- what character data stands for, which may be no text
unfoldable pub at_text_of : State → List ℕ → Option Step
at_text_of state raw = do
  content ← text_of raw
  at_text state content

-- what is told
unfoldable pub at_told : State → Told → Option Step
at_told state (Begin name) = at_begin state name.now
at_told state (Empty name) = at_empty state name.now
at_told state (End name) = at_end state name.now
at_told state (Characters raw) = at_text_of state raw.now
at_told state (Section raw) = at_text state (with_line_feeds raw.now)
at_told state Comment = Some (None, state)

-- a reader took this step, or it didn't, and stays where it is: there is none, or memory runs out for the text of an element
abbrev pub IsStep : Option Step → (old new : State) → Result (Option Element) Error → Type 0
IsStep step old new (Ok element) = step ≡ Some (option_map as_ended element, new)
IsStep step old new (Err Malformed) = (step ≡ None) × (new ≡ old)
IsStep step old new (Err NoMemory) = (0 < length old.within) × (new ≡ old)
