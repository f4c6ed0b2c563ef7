-- What the fields of the rows of a DeleteObjects tell, and what the rows name.
use Rattle.std.proofs.Common.{◌≡◌, refl, inl, inr, ◌∙◌, ℕ, ◌+◌, ◌<◌, ◌≤◌, Bool, true, false, not, ◌==◌, ◌&&◌, ◌||◌, nat_lt, if◌then◌else◌, List, [], ◌∷◌, ◌++◌, length, arith, codes, Option, Some, None}
use Rattle.std.proofs.Math.Bool.{and-false, or-false}
use Rattle.std.proofs.lemmas.Bool.{and_parts}
use Rattle.std.proofs.lemmas.Bool.Decides.{nat_tests}
use Rattle.std.proofs.lemmas.List.Elements.{filter_map-append}
use Rattle.std.proofs.lemmas.List.Folds.{list_all-append}
use Rattle.std.proofs.lemmas.Slice.Eq.{bytes_eq-Decides}
use Rattle.std.proofs.lemmas.Str.{IsUtf8-from_is_utf8}
use Rattle.std.specs.Prelude.{is_some, Ok, Err}
use Rattle.std.specs.List.{list_all, list_any, filter_map, cons_option}
use Rattle.std.specs.Str.{bytes_eq, is_utf8}
use Rattle.s3_terms.specs.Fault.{FollowsToEnd, refuse, ◌>>◌}
use Rattle.s3_terms.specs.declared.code.Code.{Code}
use Rattle.s3_terms.specs.declared.code.Code.TheVariants.{InvalidURI, KeyTooLongError, InternalError}
use Rattle.s3_names.specs.Names.{key_limit, object_key}
use Rattle.s3_deletions.specs.declared.named.NamedObject.{NamedObject}
use Rattle.s3_xml.specs.Ended.{Ended}
use Rattle.s3_request_documents.specs.Deletion.{tells_key, object_in, names_object, is_condition, has_condition, is_object_count}
use Rattle.s3_request_documents.specs.DeletionTold.{with_field, with_object}
use Rattle.s3_request_documents.specs.Xml.{is_named, field_in}
use Rattle.s3_request_documents.specs.declared.deletion_rows.ObjectFields.{ObjectFields}
use Rattle.s3_request_documents.specs.declared.deletion_rows.ObjectRows.{ObjectRows}
use Rattle.s3_request_documents.proofs.XmlLemmas.{field_more, any_more}

pub ruleset texts = (IsUtf8-from_is_utf8)

-- a text that tells a key, and is short enough, is one
key_is : (utf8 long empty : Bool) (key : List ℕ) → (utf8 && not empty) ≡ true → long ≡ false
    → (refuse (not utf8) InvalidURI >> (refuse long KeyTooLongError >> (refuse empty InvalidURI >> Ok key))) ≡ Ok key
key_is true true empty key told short = absurd (cc)
key_is true false true key told short = absurd (cc)
key_is true false false key told short = refl
key_is false long empty key told short = absurd (cc)

key_read : (key : List ℕ) → tells_key key ≡ true → length key ≤ 1_024 → object_key key ≡ Ok key
unfolding object_key
key_read key told short = key_is (is_utf8 key) (nat_lt key_limit (length key)) (length key == 0) key told (grind (arith, nat_tests))

-- so what is read of it may lack memory alone
pub key_memory : (key : List ℕ) (code : Code) → tells_key key ≡ true → length key ≤ 1_024 → FollowsToEnd (Err code) (object_key key) → code ≡ InternalError
key_memory key code told short (inl memory) = memory.0
key_memory key code told short (inr refused) = absurd (cc (refused, key_read key told short))

-- ---- what fields tell

abbrev pub fields_told : List Ended → ObjectFields
fields_told fields = record {
  key = field_in (codes "Key") fields;
  id = field_in (codes "VersionId") fields;
  has_condition = has_condition fields;
}

-- a name is not two
one_name : (name a b : List ℕ) → bytes_eq a b ≡ false → bytes_eq name a ≡ true → bytes_eq name b ≡ false
one_name name a b differ is = rw ((bytes_eq-Decides name a).0 is) differ

no_condition : (element : Ended) (name : List ℕ) → bytes_eq name (codes "ETag") ≡ false → bytes_eq name (codes "LastModifiedTime") ≡ false → bytes_eq name (codes "Size") ≡ false
    → is_named name element ≡ true → is_condition element ≡ false
no_condition element name tag time size is =
    rw (one_name element.name name (codes "ETag") tag is, one_name element.name name (codes "LastModifiedTime") time is, one_name element.name name (codes "Size") size is) refl

fields_is : (key id condition : Bool) (content : List ℕ) (held : ObjectFields) → (key ≡ true → id ≡ false) → (key ≡ true → condition ≡ false) → (id ≡ true → condition ≡ false)
    → (if key then record held { key = Some content } else if id then record held { id = Some content } else record held { has_condition = held.has_condition || condition })
    ≡ record { key = if key then Some content else held.key; id = if id then Some content else held.id; has_condition = held.has_condition || condition }
fields_is true true condition content held not_id not_so not_it = absurd (cc (not_id refl))
fields_is true false condition content held not_id not_so not_it = rw (not_so refl, or-false held.has_condition) refl
fields_is false true condition content held not_id not_so not_it = rw (not_it refl, or-false held.has_condition) refl
fields_is false false condition content held not_id not_so not_it = refl

-- one more field
pub fields_more : (held : List Ended) (element : Ended) → with_field (fields_told held) element ≡ fields_told (held ++ element ∷ [])
fields_more held element =
    fields_is (is_named (codes "Key") element) (is_named (codes "VersionId") element) (is_condition element) element.content (fields_told held)
    (one_name element.name (codes "Key") (codes "VersionId") refl)
    (no_condition element (codes "Key") refl refl refl)
    (no_condition element (codes "VersionId") refl refl refl)
    ∙ rw (field_more (codes "Key") held element, field_more (codes "VersionId") held element, ← any_more is_condition held element) refl

-- ---- what rows name

abbrev pub rows_of : List (List Ended) → List Ended → ObjectRows
rows_of rows held = record {
  fields = fields_told held;
  objects = filter_map object_in rows;
  have_conditions = list_any has_condition rows;
}

-- one more row, which names this object
pub row_more : (rows : List (List Ended)) (held : List Ended) (object : NamedObject) → object_in held ≡ Some object → with_object (rows_of rows held) object ≡ rows_of (rows ++ held ∷ []) []
row_more rows held object is =
    rw (filter_map-append object_in rows (held ∷ []), is, ← any_more has_condition rows held) refl

-- so many objects as rows, where each names one
many_more : (object : Option NamedObject) (objects : List NamedObject) (rows : ℕ) → is_some object ≡ true → length objects ≡ rows → length (cons_option object objects) ≡ rows + 1
many_more None objects rows some is = absurd (cc)
many_more (Some object) objects rows some is = omega arith

pub many : (rows : List (List Ended)) → list_all names_object rows ≡ true → length (filter_map object_in rows) ≡ length rows
many [] all = refl
many (row ∷ rows) all =
    let parts = and_parts (names_object row) (list_all names_object rows) all in
    many_more (object_in row) (filter_map object_in rows) (length rows) parts.0 (many rows parts.1) ∙ omega arith

-- one names none
pub not_all : (rows : List (List Ended)) (held : List Ended) (more : List (List Ended)) → object_in held ≡ None → list_all names_object (rows ++ held ∷ more) ≡ false
not_all rows held more is = list_all-append names_object rows (held ∷ more) ∙ rw is (and-false (list_all names_object rows))

pub too_many : (count : ℕ) → 1_000 < count → is_object_count count ≡ false
too_many count past = grind (arith, nat_tests)

-- there may be these rows
abbrev pub Stands : List (List Ended) → Type 0
Stands rows = (length rows ≤ 1_000) × (list_all names_object rows ≡ true)
