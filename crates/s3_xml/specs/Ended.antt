-- The elements of a document in the order in which they end, each with its level, its name and its text: what a reader who
-- looks for a few of them goes through.
use Rattle.std.specs.Prelude.{ℕ, ◌==◌, suc, List, [], ◌∷◌, ◌++◌, length, Option, Some, None, option_map}
use Rattle.std.specs.List.{after_last}
use Rattle.std.specs.Option.{unwrap_or}
use Rattle.s3_text.specs.Characters.{colon}
use Rattle.s3_xml.specs.Characters.{is_text}
use Rattle.s3_xml.specs.Documents.{document_of}
use Rattle.s3_xml.specs.Events.{Event, begin, text, end}
use Rattle.s3_xml.specs.Option.{◌>>=◌, ◌>>◌, where_so}

-- an element that ended: how many elements were open with it, the root's level being 1; its name without a prefix; and its
-- text, which is empty where an element stands in it
pub record Ended : Type 0 where
  pub level : ℕ
  pub name : List ℕ
  pub content : List ℕ

-- a name without its prefix (Namespaces in XML 1.0, section 4)
abbrev pub local_name : List ℕ → List ℕ
local_name name = after_last (λ b. b == colon) name

-- the elements that end in these events, where those are open, the innermost first, and this is the text so far of the
-- innermost, unless an element stands in it
unfoldable pub ended_in : List (List ℕ) → Option (List ℕ) → List Event → List Ended
ended_in within held [] = []
ended_in within held (begin name ∷ events) = ended_in (name ∷ within) (Some []) events
ended_in within held (text content ∷ events) = ended_in within (option_map (λ front. front ++ content) held) events
ended_in [] held (end name ∷ events) = []
ended_in (outer ∷ within) held (end name ∷ events) =
    record { level = suc (length within); name = local_name name; content = unwrap_or held [] } ∷ ended_in within None events

-- the elements of a document, if the bytes are one
unfoldable pub elements_of : List ℕ → Option (List Ended)
elements_of bytes = do
  where_so (is_text bytes)
  events ← document_of bytes
  Some (ended_in [] None events)
