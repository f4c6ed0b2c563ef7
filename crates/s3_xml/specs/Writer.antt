-- What a clause sees of a `Writer`, and the room that printing takes.
use Rattle.std.specs.Prelude.{◌≡◌, ℕ, ◌+◌, ◌*◌, ◌<◌, ◌≤◌, Bool, ◌||◌, ◌==◌, List, [], ◌∷◌, ◌++◌, length, drop, codes, refl, Result, MatchResult}
use Rattle.std.specs.Coded.{Coded, code_by, coded×, coded_list, coded_ℕ}
use Rattle.s3_xml.specs.Characters.{is_control}
use Rattle.s3_xml.specs.Events.{Event, begin, end, text_in, leaf, element}
use Rattle.s3_xml.specs.Printed.{declaration, namespace_text, markup, escaped}

-- the text so far, and how many more bytes it may have without memory
pub record Written : Type 0 where
  pub bytes : List ℕ
  pub spare : ℕ

-- it is stored as the tuple of its fields
abbrev pub written_code : Coded Written
written_code =
    code_by (List ℕ × ℕ) (coded× (coded_list coded_ℕ) coded_ℕ)
    (λ w. (w.bytes, w.spare)) (λ p. record { bytes = p.0; spare = p.1 }) (λ _. refl)

-- the text of a document up to what stands in its root
unfoldable pub opening : (root namespace : List ℕ) → List ℕ
opening root namespace = declaration ++ codes "<" ++ root ++ namespace_text namespace ++ codes ">"

-- it takes no more room than for so many bytes, and fails only where some of it was missing
abbrev pub TakesBytes : {E : Type 0} → Result (Unit {0}) E → (old new size : ℕ) → Type 0
TakesBytes r old new size = MatchResult r (λ _. old ≤ new + size) (λ _. old < size)

-- printing these events takes no more room than their text, and fails only where some of it was missing
abbrev pub TakesRoom : {E : Type 0} → Result (Unit {0}) E → (old new : ℕ) → List Event → Type 0
TakesRoom r old new events = TakesBytes r old new (length (markup events))

-- how far a writer came with a text: so many bytes of it are written, and took no more room than what stands for them
pub record Advances (text : List ℕ) (old new : Written) (count : ℕ) : Type 0 where
  pub some : 0 < count
  pub within : count ≤ length text
  pub told : new.bytes ++ escaped (drop count text) ≡ old.bytes ++ escaped text
  pub room : old.spare + length (escaped (drop count text)) ≤ new.spare + length (escaped text)

-- a byte that may have to be written as a reference: the others stand for themselves, whatever stands behind them
abbrev pub is_special : ℕ → Bool
is_special b = b == 38 || b == 60 || b == 62 || b == 34 || b == 13 || b == 239 || is_control b

-- how many bytes the parts of a document have, for those who count room
pub record Bounds : Type 0 where
  pub openings : (root namespace : List ℕ) → length (opening root namespace) ≤ 50 + length root + length namespace
  pub texts : (content : List ℕ) → length (escaped content) ≤ 6 * length content
  pub several : (front rest : List Event) → length (markup (front ++ rest)) ≡ length (markup front) + length (markup rest)
  pub begins : (name : List ℕ) → length (markup (begin name ∷ [])) ≡ length name + 2
  pub ends : (name : List ℕ) → length (markup (end name ∷ [])) ≡ length name + 3
  pub contents : (content : List ℕ) → length (markup (text_in content)) ≡ length (escaped content)
  pub leaves : (name content : List ℕ) → length (markup (leaf name content)) ≡ 2 * length name + 5 + length (escaped content)
  pub elements : (name : List ℕ) (inner : List Event) → length (markup (element name inner)) ≡ 2 * length name + 5 + length (markup inner)
