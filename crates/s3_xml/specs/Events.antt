-- What an XML document tells, from its front to its end: where elements begin and end, and the texts in them.
use Rattle.std.specs.Prelude.{ℕ, List, [], ◌∷◌, ◌++◌}

-- an element of this name begins; a text stands in it; it ends
pub data Event : Type 0 where
  begin : List ℕ → Event
  text : List ℕ → Event
  end : List ℕ → Event

-- a text, where it isn't empty
abbrev pub text_in : List ℕ → List Event
text_in [] = []
text_in (b ∷ bytes) = text (b ∷ bytes) ∷ []

-- an element in which this stands
abbrev pub element : List ℕ → List Event → List Event
element name inner = begin name ∷ (inner ++ end name ∷ [])

-- an element in which a text stands alone
abbrev pub leaf : List ℕ → List ℕ → List Event
leaf name content = element name (text_in content)
