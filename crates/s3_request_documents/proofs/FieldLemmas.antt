-- What the elements of a document tell of one field of its root, one after another.
use Rattle.std.proofs.Common.{◌≡◌, refl, ap, ◌∙◌, ℕ, Bool, true, false, ◌==◌, ◌&&◌, cond, if◌then◌else◌, List, [], ◌∷◌, length, arith, Option, Some, None}
use Rattle.std.proofs.lemmas.Option.{none-some, same_Some}
use Rattle.std.specs.Prelude.{option_map, filter}
use Rattle.std.specs.List.{last_or}
use Rattle.std.specs.Option.{option_map_or}
use Rattle.s3_xml.specs.Ended.{Ended, elements_of}
use Rattle.s3_xml.specs.Option.{◌>>=◌}
use Rattle.s3_request_documents.specs.FieldTold.{told_of, told_with}
use Rattle.s3_request_documents.specs.Xml.{is_named, top_fields, field_in, root_field}
use Rattle.s3_request_documents.specs.declared.root_field.Told.{Told}
use Rattle.s3_request_documents.proofs.XmlLemmas.{ends_in, nothing_there, rooted_none, rooted_some}

-- with several elements more
unfoldable pub told_by : (root name : List ℕ) → Told → List Ended → Told
told_by root name told [] = told
told_by root name told (element ∷ elements) = told_by root name (told_with root name told element) elements

-- what these last ones tell: a field, and an element
abbrev told_last : (root : List ℕ) (field last : Option Ended) → Told
told_last root field last = record {
  field = option_map (λ element. element.content) field;
  is_root = option_map_or (is_named root) last false;
}

abbrev pub nothing_told : Told
nothing_told = record { field = None; is_root = false }

abbrev fields : List ℕ → List Ended → List Ended
fields name elements = filter (is_named name) (top_fields elements)

abbrev Goes : (root name : List ℕ) → Ended → List Ended → Option Ended → Type 0
Goes root name element elements field =
    told_by root name (told_last root field (Some element)) elements ≡ told_last root (last_or field (fields name elements)) (last_or (Some element) elements)

-- one more element, which may be a field
named : (root name : List ℕ) (is : Bool) (field : Option Ended) (element : Ended) (elements : List Ended) → ((field : Option Ended) → Goes root name element elements field)
    → told_by root name (record { field = if is then Some element.content else option_map (λ e. e.content) field; is_root = is_named root element }) elements
    ≡ told_last root (last_or field (cond is (element ∷ fields name elements) (fields name elements))) (last_or (Some element) elements)
named root name true field element elements rest = rest (Some element)
named root name false field element elements rest = rest field

level : (root name : List ℕ) (is : Bool) (field : Option Ended) (element : Ended) (elements : List Ended) → ((field : Option Ended) → Goes root name element elements field)
    → told_by root name (record { field = if is && is_named name element then Some element.content else option_map (λ e. e.content) field; is_root = is_named root element }) elements
    ≡ told_last root (last_or field (filter (is_named name) (cond is (element ∷ top_fields elements) (top_fields elements)))) (last_or (Some element) elements)
level root name true field element elements rest = named root name (is_named name element) field element elements rest
level root name false field element elements rest = rest field

told_is : (root name : List ℕ) (field last : Option Ended) (elements : List Ended) → told_by root name (told_last root field last) elements ≡ told_last root (last_or field (fields name elements)) (last_or last elements)
unfolding told_by
told_is root name field last [] = refl
told_is root name field last (element ∷ elements) = level root name (element.level == 2) field element elements (λ field. told_is root name field (Some element) elements)

-- from the first state on, all is told
pub told_first : (root name : List ℕ) (elements : Option (List Ended)) → option_map (told_by root name nothing_told) elements ≡ option_map (told_of root name) elements
told_first root name None = refl
told_first root name (Some elements) = ap Some (told_is root name None None elements)

-- one more element
pub told_more : (root name : List ℕ) (told : Told) (element : Ended) (elements : Option (List Ended))
    → option_map (told_by root name told) (option_map (λ rest. element ∷ rest) elements) ≡ option_map (told_by root name (told_with root name told element)) elements
unfolding told_by
told_more root name told element None = refl
told_more root name told element (Some elements) = refl

-- the end
pub told_end : (root name : List ℕ) (told : Told) → option_map (told_by root name told) (Some []) ≡ Some told
unfolding told_by
told_end root name told = refl

-- no document tells anything
pub told_nothing : (root name : List ℕ) (told : Told) (elements : Option (List Ended)) → option_map (told_by root name told) None ≡ option_map (told_of root name) elements → elements ≡ None
told_nothing root name told None is = refl
told_nothing root name told (Some elements) is = absurd (none-some _ is)

pub ruleset tells = (told_first, told_more, told_end, told_nothing)

-- ---- the field of a document

-- of elements with their root
abbrev field_asked : List ℕ → Option (List Ended) → Option (Option (List ℕ))
field_asked name elements = elements >>= λ elements. Some (field_in name (top_fields elements))

pub asked_none : (root name body : List ℕ) → elements_of body ≡ None → root_field root name body ≡ None
unfolding root_field
asked_none root name body none = ap (field_asked name) (rooted_none root body none)

-- no bytes have any
pub asked_nothing : (root name body : List ℕ) → length body ≡ 0 → root_field root name body ≡ None
asked_nothing root name [] is = asked_none root name [] nothing_there
asked_nothing root name (b ∷ body) is = absurd (omega arith)

asked_some : (root name body : List ℕ) (elements : Option (List Ended)) (told : Told) → elements_of body ≡ elements → option_map (told_of root name) elements ≡ Some told
    → root_field root name body ≡ (if told.is_root then Some told.field else None)
unfolding root_field
asked_some root name body None told are is = absurd (none-some _ is)
asked_some root name body (Some elements) told are is =
    ap (field_asked name) (rooted_some root body elements are)
    ∙ cases (ends_in root elements)
    ∙ ap (λ told. if told.is_root then Some told.field else None) (same_Some _ _ is)
  where
    cases : (so : Bool) → field_asked name (if so then Some elements else None) ≡ (if so then Some (field_in name (top_fields elements)) else None)
    cases true = refl
    cases false = refl

-- the field that is told, in a root of this name
pub asked_rooted : (root name body : List ℕ) (told : Told) → option_map (told_of root name) (elements_of body) ≡ Some told → told.is_root ≡ true → root_field root name body ≡ Some told.field
asked_rooted root name body told is so = asked_some root name body (elements_of body) told refl is ∙ ap (λ b. if b then Some told.field else None) so

pub asked_other : (root name body : List ℕ) (told : Told) → option_map (told_of root name) (elements_of body) ≡ Some told → told.is_root ≡ false → root_field root name body ≡ None
asked_other root name body told is so = asked_some root name body (elements_of body) told refl is ∙ ap (λ b. if b then Some told.field else None) so

pub ruleset answers = (asked_none, asked_rooted, asked_other)
