-- The elements of a document with a root of a name, and the fields of its rows.
use Rattle.std.proofs.Common.{◌≡◌, refl, sym, ap, ◌∙◌, ℕ, Bool, true, false, ◌&&◌, ◌||◌, cond, if◌then◌else◌, List, [], ◌∷◌, ◌++◌, append-nil, Option, Some, None}
use Rattle.std.proofs.Math.Bool.{and-true, or-false}
use Rattle.std.proofs.lemmas.List.Elements.{filter-append}
use Rattle.std.proofs.lemmas.List.Folds.{list_all-append, list_any-append}
use Rattle.std.specs.Prelude.{option_map, filter}
use Rattle.std.specs.List.{last_or, list_all, list_any}
use Rattle.std.specs.Option.{option_map_or}
use Rattle.s3_xml.specs.Characters.{is_text}
use Rattle.s3_xml.specs.Documents.{document_of, goes_on}
use Rattle.s3_xml.specs.Ended.{Ended, ended_in, elements_of}
use Rattle.s3_xml.specs.Grammar.{behind_declaration, told_within}
use Rattle.s3_xml.specs.Option.{◌>>=◌, ◌>>◌, where_so}
use Rattle.s3_request_documents.specs.Xml.{is_named, rooted, field_in}

-- no bytes are no document
no_events : document_of [] ≡ None
unfolding document_of behind_declaration told_within goes_on
no_events = refl

pub nothing_there : elements_of [] ≡ None
unfolding elements_of
nothing_there =
    elim (is_text []) as (λ so. (where_so so >> (document_of [] >>= λ events. Some (ended_in [] None events))) ≡ None)
    [ true ↦ ap (λ o. o >>= λ events. Some (ended_in [] None events)) no_events | false ↦ refl ]

where_is : {A : Type 0} → (so : Bool) (a : A) → (where_so so >> Some a) ≡ (if so then Some a else None)
where_is true a = refl
where_is false a = refl

-- the last element has this name
abbrev pub ends_in : List ℕ → List Ended → Bool
ends_in name elements = option_map_or (is_named name) (last_or None elements) false

pub rooted_none : (name body : List ℕ) → elements_of body ≡ None → rooted name body ≡ None
unfolding rooted
rooted_none name body none = ap (λ o. o >>= λ elements. (where_so (ends_in name elements) >> Some elements)) none

pub rooted_some : (name body : List ℕ) (elements : List Ended) → elements_of body ≡ Some elements → rooted name body ≡ (if ends_in name elements then Some elements else None)
unfolding rooted
rooted_some name body elements some =
    ap (λ o. o >>= λ elements. (where_so (ends_in name elements) >> Some elements)) some ∙ where_is (ends_in name elements) elements

-- ---- one more of the fields of a row, and one more row

last_more : {A : Type 0} → (o : Option A) (xs : List A) (x : A) → last_or o (xs ++ x ∷ []) ≡ Some x
last_more o [] x = refl
last_more o (y ∷ xs) x = last_more (Some y) xs x

content_more : (is : Bool) (fields : List Ended) (element : Ended)
    → option_map (λ e. e.content) (last_or None (fields ++ cond is (element ∷ []) [])) ≡ (if is then Some element.content else option_map (λ e. e.content) (last_or None fields))
content_more true fields element = ap (option_map (λ e. e.content)) (last_more None fields element)
content_more false fields element = ap (λ fs. option_map (λ e. e.content) (last_or None fs)) (append-nil fields)

-- one more field
pub field_more : (name : List ℕ) (fields : List Ended) (element : Ended)
    → field_in name (fields ++ element ∷ []) ≡ (if is_named name element then Some element.content else field_in name fields)
field_more name fields element =
    ap (λ es. option_map (λ e. e.content) (last_or None es)) (filter-append (is_named name) fields (element ∷ []))
    ∙ content_more (is_named name element) (filter (is_named name) fields) element

-- one more of those that all pass a test, or of which one does
pub all_more : {A : Type 0} → (p : A → Bool) (xs : List A) (x : A) → (list_all p xs && p x) ≡ list_all p (xs ++ x ∷ [])
all_more p xs x = sym (list_all-append p xs (x ∷ []) ∙ ap (λ b. list_all p xs && b) (and-true (p x)))

pub any_more : {A : Type 0} → (p : A → Bool) (xs : List A) (x : A) → (list_any p xs || p x) ≡ list_any p (xs ++ x ∷ [])
any_more p xs x = sym (list_any-append p xs (x ∷ []) ∙ ap (λ b. list_any p xs || b) (or-false (p x)))
