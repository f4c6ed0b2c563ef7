-- Laws of texts: what is printed is read back, and which events make a document.
use Rattle.std.specs.Prelude.{◌≡◌, IsTrue, ℕ, suc, ◌+◌, ◌≤◌, ◌==◌, Bool, true, false, not, ◌&&◌, ◌||◌, nat_lt, List, [], ◌∷◌, ◌++◌, length, Some, None}
use Rattle.std.specs.List.{list_all}
use Rattle.std.specs.Str.{is_utf8}
use Rattle.s3_xml.specs.Characters.{is_text, is_name_start, is_name_byte}
use Rattle.s3_xml.specs.Documents.{most_levels, goes_on, document_of, is_document}
use Rattle.s3_xml.specs.Ended.{ended_in, elements_of}
use Rattle.s3_xml.specs.Events.{Event, begin, text, end, element, leaf}
use Rattle.s3_xml.specs.Grammar.{begins_so}
use Rattle.s3_xml.specs.Printed.{document_text}

abbrev pub is_name : List ℕ → Bool
is_name name = begins_so is_name_start name && list_all is_name_byte name

-- names are names, no text is empty, and none stands next to another one; what is in front of them may be a text
abbrev pub is_plain : Bool → List Event → Bool
is_plain is_behind_text [] = true
is_plain is_behind_text (begin name ∷ events) = is_name name && is_plain false events
is_plain is_behind_text (text content ∷ events) = not is_behind_text && nat_lt 0 (length content) && is_plain true events
is_plain is_behind_text (end name ∷ events) = is_name name && is_plain false events

-- the bytes of a namespace are neither a quote nor markup
abbrev pub is_namespace : List ℕ → Bool
is_namespace bytes = list_all (λ b. not (b == 34 || b == 38 || b == 60)) bytes

-- the text of a document is read as what it tells, whatever bytes its texts have, behind the line's end that stands in front
-- of the root
abbrev pub DocumentsAreReadBack : Type 0
DocumentsAreReadBack =
    (root namespace : List ℕ) (inner : List Event)
    → IsTrue (is_name root)
    → IsTrue (is_namespace namespace)
    → IsTrue (is_plain false inner)
    → IsTrue (is_document (element root inner))
    → document_of (document_text root namespace inner) ≡ Some (text (10 ∷ []) ∷ element root inner)

-- events that may stand in an element, whatever stands in it behind them; they open at most so many elements in each other
pub record Fits (levels : ℕ) (events : List Event) : Type 0 where
  pub plain : (rest : List Event) → IsTrue (is_plain false rest) → IsTrue (is_plain false (events ++ rest))
  pub closed :
      (may_begin : Bool) (outer : List ℕ) (within : List (List ℕ)) (rest : List Event)
      → suc (length within) + levels ≤ most_levels
      → goes_on may_begin (outer ∷ within) (events ++ rest) ≡ goes_on may_begin (outer ∷ within) rest

-- what fits: texts in elements, elements in elements, and all of them one behind another; and a document of what fits is read
-- back
pub record ContentsFit : Type 0 where
  pub nothing : Fits 0 []
  pub leaves : (name content : List ℕ) → IsTrue (is_name name) → Fits 1 (leaf name content)
  pub elements : (name : List ℕ) (levels : ℕ) (inner : List Event) → IsTrue (is_name name) → Fits levels inner → Fits (suc levels) (element name inner)
  pub several : (levels : ℕ) (front rest : List Event) → Fits levels front → Fits levels rest → Fits levels (front ++ rest)
  pub deeper : (levels more : ℕ) (events : List Event) → levels ≤ more → Fits levels events → Fits more events
  pub documents :
      (root namespace : List ℕ) (inner : List Event)
      → IsTrue (is_name root)
      → IsTrue (is_namespace namespace)
      → Fits 15 inner
      → document_of (document_text root namespace inner) ≡ Some (text (10 ∷ []) ∷ element root inner)

-- these events are of characters: their names are texts that XML has, and their texts are UTF-8, where characters may stand
-- that XML doesn't have
abbrev pub has_texts : List Event → Bool
has_texts [] = true
has_texts (begin name ∷ events) = is_text name && has_texts events
has_texts (text content ∷ events) = is_utf8 content && has_texts events
has_texts (end name ∷ events) = is_text name && has_texts events

-- the text of a document has no character that XML doesn't have
abbrev pub DocumentsAreTexts : Type 0
DocumentsAreTexts =
    (root namespace : List ℕ) (inner : List Event)
    → IsTrue (is_text root)
    → IsTrue (is_text namespace)
    → IsTrue (has_texts inner)
    → IsTrue (is_text (document_text root namespace inner))

-- the elements of a document are read back from its text
abbrev pub ElementsAreReadBack : Type 0
ElementsAreReadBack =
    (root namespace : List ℕ) (inner : List Event)
    → IsTrue (is_name root && is_text root)
    → IsTrue (is_namespace namespace && is_text namespace)
    → IsTrue (is_plain false inner && has_texts inner)
    → IsTrue (is_document (element root inner))
    → elements_of (document_text root namespace inner) ≡ Some (ended_in [] None (element root inner))
