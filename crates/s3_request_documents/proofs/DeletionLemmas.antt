-- What the elements of a DeleteObjects tell, one after another, is what its rows name.
use Rattle.std.proofs.Common.{◌≡◌, refl, sym, ap, ◌∙◌, ℕ, ◌≤◌, Bool, true, false, not, ◌==◌, ◌&&◌, nat_lt, cond, if◌then◌else◌, List, [], ◌∷◌, ◌++◌, length, arith, append_assoc, append-nil, length-append, codes, Option, Some, None}
use Rattle.std.proofs.Math.Bool.{and-false}
use Rattle.std.proofs.lemmas.Bool.Decides.{nat_tests}
use Rattle.std.specs.Prelude.{option_map, filter, ok_or, Result, Ok, Err}
use Rattle.std.specs.List.{last_or, list_all, list_any, filter_map}
use Rattle.std.specs.Option.{option_map_or}
use Rattle.s3_terms.specs.Fault.{refuse, ◌>>=◌, ◌>>◌}
use Rattle.s3_terms.specs.declared.code.Code.{Code}
use Rattle.s3_terms.specs.declared.code.Code.TheVariants.{MalformedXML, NotImplemented}
use Rattle.s3_deletions.specs.declared.named.Deletion.{Deletion}
use Rattle.s3_deletions.specs.declared.named.NamedObject.{NamedObject}
use Rattle.s3_xml.specs.Ended.{Ended, elements_of}
use Rattle.s3_request_documents.specs.Deletion.{truth_told, quiet_asked, object_in, names_object, has_condition, is_object_count, judged_objects, objects_named, deletion_read}
use Rattle.s3_request_documents.specs.DeletionTold.{is_deletion, with_field, with_object, with_row, with_other, with_element, told_with, nothing_told, answered}
use Rattle.s3_request_documents.specs.Xml.{is_named, top_fields, rows_from, rows_named, field_in}
use Rattle.s3_request_documents.specs.declared.deletion_rows.ObjectRows.{ObjectRows}
use Rattle.s3_request_documents.specs.declared.deletion.Told.{Told}
use Rattle.s3_request_documents.proofs.XmlLemmas.{ends_in, nothing_there, rooted_none, rooted_some, all_more}
use Rattle.s3_request_documents.proofs.DeletionRowLemmas.{fields_told, fields_more, rows_of, row_more, many, not_all, too_many, Stands}

-- ---- what is asked for

abbrev made : List NamedObject → Bool → Deletion
made objects is_quiet = record { objects = objects; is_quiet = is_quiet }

-- what these rows ask for, with this field that says whether only faults are told, and this last element
abbrev asked : List (List Ended) → Option Ended → Option Ended → Result Deletion Code
asked rows field last = do
  refuse (not (is_deletion last)) MalformedXML
  is_quiet ← ok_or (quiet_asked (option_map (λ element. element.content) field)) MalformedXML
  objects ← objects_named rows
  Ok (made objects is_quiet)

-- nothing, where there are too many, or one names no object
refused_is : (root : Bool) (quiet : Option Bool) (count all conditions : Bool) (objects : List NamedObject) → (count && all) ≡ false
    → (refuse (not root) MalformedXML >> (ok_or quiet MalformedXML >>= λ is_quiet. (((refuse (not count) MalformedXML >> (refuse (not all) MalformedXML >> refuse conditions NotImplemented)) >> Ok objects) >>= λ objects. Ok (made objects is_quiet)))) ≡ Err MalformedXML
refused_is false quiet count all conditions objects is = refl
refused_is true None count all conditions objects is = refl
refused_is true (Some q) false all conditions objects is = refl
refused_is true (Some q) true false conditions objects is = refl
refused_is true (Some q) true true conditions objects is = absurd (cc)

refused : (rows : List (List Ended)) (field last : Option Ended) → (is_object_count (length rows) && list_all names_object rows) ≡ false → asked rows field last ≡ Err MalformedXML
unfolding objects_named judged_objects
refused rows field last is =
    refused_is (is_deletion last) (quiet_asked (option_map (λ element. element.content) field)) (is_object_count (length rows)) (list_all names_object rows) (list_any has_condition rows) (filter_map object_in rows) is

-- what is told by these rows, these fields of the next one, this field of the root, and this last element
abbrev told_of : List (List Ended) → List Ended → Option Ended → Option Ended → Told
told_of rows held field last = record {
  rows = rows_of rows held;
  quiet = quiet_asked (option_map (λ element. element.content) field);
  is_root = is_deletion last;
}

asked_of : (root : Bool) (quiet : Option Bool) (count all : Bool) (conditions : Bool) (objects : List NamedObject) (empty : Bool) → all ≡ true → count ≡ not empty
    → ((refuse (not root) MalformedXML >> (ok_or quiet MalformedXML >>= λ is_quiet. (refuse empty MalformedXML >> (refuse conditions NotImplemented >> Ok is_quiet)))) >>= λ is_quiet. Ok (made objects is_quiet))
    ≡ (refuse (not root) MalformedXML >> (ok_or quiet MalformedXML >>= λ is_quiet. (((refuse (not count) MalformedXML >> (refuse (not all) MalformedXML >> refuse conditions NotImplemented)) >> Ok objects) >>= λ objects. Ok (made objects is_quiet))))
asked_of false quiet count all conditions objects empty so is = refl
asked_of true None count all conditions objects empty so is = refl
asked_of true (Some q) count all true objects true so is = rw (so, is) refl
asked_of true (Some q) count all false objects true so is = rw (so, is) refl
asked_of true (Some q) count all true objects false so is = rw (so, is) refl
asked_of true (Some q) count all false objects false so is = rw (so, is) refl

count_is : (count : ℕ) → count ≤ 1_000 → is_object_count count ≡ not (count == 0)
count_is count most = grind (arith, nat_tests)

asked_is : (rows : List (List Ended)) (held : List Ended) (field last : Option Ended) → Stands rows → answered (told_of rows held field last) ≡ asked rows field last
unfolding objects_named judged_objects
asked_is rows held field last stands =
    asked_of (is_deletion last) (quiet_asked (option_map (λ element. element.content) field)) (is_object_count (length rows)) (list_all names_object rows) (list_any has_condition rows) (filter_map object_in rows)
    (length (filter_map object_in rows) == 0)
    stands.1 (count_is (length rows) stands.0 ∙ ap (λ n. not (n == 0)) (sym (many rows stands.1)))

-- ---- with several elements more

unfoldable pub read_by : Told → List Ended → Result Deletion Code
read_by told [] = answered told
read_by told (element ∷ elements) = option_map_or (λ told. read_by told elements) (told_with told element) (Err MalformedXML)

-- from what is told so far on, if there is a document
abbrev pub read_from : Told → Option (List Ended) → Result Deletion Code
read_from told elements = option_map_or (read_by told) elements (Err MalformedXML)

abbrev read_on : Option Told → List Ended → Result Deletion Code
read_on told elements = option_map_or (λ told. read_by told elements) told (Err MalformedXML)

abbrev told_last : Option Ended → Option Ended → ObjectRows → Told
told_last field last rows = record { rows = rows; quiet = quiet_asked (option_map (λ element. element.content) field); is_root = is_deletion last }

abbrev Goes : Option Ended → Ended → List Ended → Option Ended → Option Ended → List (List Ended) → List Ended → Type 0
Goes field element elements last_field last rows held =
    read_by (told_of rows held field (Some element)) elements ≡ asked (rows ++ rows_from (codes "Object") held elements) last_field last

-- a row ends
row_goes : (few : Bool) (object : Option NamedObject) (field : Option Ended) (element : Ended) (elements : List Ended) (last_field last : Option Ended) (rows : List (List Ended)) (held : List Ended)
    → Stands rows → nat_lt (length rows) 1_000 ≡ few → object_in held ≡ object
    → ((rows : List (List Ended)) (held : List Ended) → Stands rows → Goes field element elements last_field last rows held)
    → read_on (option_map (told_last field (Some element)) (if few then option_map (with_object (rows_of rows held)) object else None)) elements
    ≡ asked (rows ++ held ∷ rows_from (codes "Object") [] elements) last_field last
row_goes true (Some object) field element elements last_field last rows held stands few is rest =
    let more : Stands (rows ++ held ∷ []) = (grind (arith, nat_tests, length-append rows (held ∷ [])), sym (all_more names_object rows held) ∙ rw (stands.1, is) refl) in
    ap (λ rows. read_by (told_last field (Some element) rows) elements) (row_more rows held object is)
    ∙ rest (rows ++ held ∷ []) [] more
    ∙ ap (λ rows. asked rows last_field last) (append_assoc rows (held ∷ []) (rows_from (codes "Object") [] elements))
row_goes true None field element elements last_field last rows held stands few is rest =
    let none = not_all rows held (rows_from (codes "Object") [] elements) is in
    sym (refused (rows ++ held ∷ rows_from (codes "Object") [] elements) last_field last (rw none (and-false (is_object_count (length (rows ++ held ∷ rows_from (codes "Object") [] elements))))))
row_goes false object field element elements last_field last rows held stands few is rest =
    let past : 1_000 ≤ length rows = grind (arith, nat_tests) in
    let more = too_many (length (rows ++ held ∷ rows_from (codes "Object") [] elements)) (omega (arith, length-append rows (held ∷ rows_from (codes "Object") [] elements))) in
    sym (refused (rows ++ held ∷ rows_from (codes "Object") [] elements) last_field last (rw more refl))

-- one more element: a field, a row, another element right in the root, or one that tells nothing
goes : (third second row : Bool) (field : Option Ended) (element : Ended) (elements : List Ended) (last_field last : Option Ended) (rows : List (List Ended)) (held : List Ended)
    → Stands rows
    → ((rows : List (List Ended)) (held : List Ended) → Stands rows → Goes field element elements last_field last rows held)
    → read_on (option_map (told_last field (Some element)) (if third then Some (record (rows_of rows held) { fields = with_field (fields_told held) element }) else if second then (if row then with_row (rows_of rows held) else Some (with_other (rows_of rows held))) else Some (rows_of rows held))) elements
    ≡ asked (rows ++ (if third then rows_from (codes "Object") (held ++ element ∷ []) elements else if second then (if row then held ∷ rows_from (codes "Object") [] elements else rows_from (codes "Object") [] elements) else rows_from (codes "Object") held elements)) last_field last
goes true second row field element elements last_field last rows held stands rest =
    ap (λ fields. read_by (told_last field (Some element) (record (rows_of rows held) { fields = fields })) elements) (fields_more held element)
    ∙ rest rows (held ++ element ∷ []) stands
goes false true true field element elements last_field last rows held stands rest =
    ap (λ n. read_on (option_map (told_last field (Some element)) (if nat_lt n 1_000 then option_map (with_object (rows_of rows held)) (object_in held) else None)) elements) (many rows stands.1)
    ∙ row_goes (nat_lt (length rows) 1_000) (object_in held) field element elements last_field last rows held stands refl refl rest
goes false true false field element elements last_field last rows held stands rest = rest rows [] stands
goes false false row field element elements last_field last rows held stands rest = rest rows held stands

-- the field of the root with one more element
abbrev field_with : Option Ended → Ended → Option Ended
field_with field element = if element.level == 2 && is_named (codes "Quiet") element then Some element else field

quiet_is : (is : Bool) (field : Option Ended) (element : Ended)
    → (if is then truth_told element.content else quiet_asked (option_map (λ e. e.content) field)) ≡ quiet_asked (option_map (λ e. e.content) (if is then Some element else field))
quiet_is true field element = refl
quiet_is false field element = refl

last_named : (is : Bool) (field : Option Ended) (element : Ended) (fields : List Ended) → last_or (if is then Some element else field) fields ≡ last_or field (cond is (element ∷ fields) fields)
last_named true field element fields = refl
last_named false field element fields = refl

last_is : (top : Bool) (field : Option Ended) (element : Ended) (elements : List Ended)
    → last_or (if top && is_named (codes "Quiet") element then Some element else field) (filter (is_named (codes "Quiet")) (top_fields elements))
    ≡ last_or field (filter (is_named (codes "Quiet")) (cond top (element ∷ top_fields elements) (top_fields elements)))
last_is true field element elements = last_named (is_named (codes "Quiet") element) field element (filter (is_named (codes "Quiet")) (top_fields elements))
last_is false field element elements = refl

told_is : (rows : List (List Ended)) (held : List Ended) (field last : Option Ended) (elements : List Ended) → Stands rows
    → read_by (told_of rows held field last) elements
    ≡ asked (rows ++ rows_from (codes "Object") held elements) (last_or field (filter (is_named (codes "Quiet")) (top_fields elements))) (last_or last elements)
unfolding read_by rows_from
told_is rows held field last [] stands = asked_is rows held field last stands ∙ ap (λ rows. asked rows field last) (sym (append-nil rows))
told_is rows held field last (element ∷ elements) stands =
    ap (λ quiet. read_on (option_map (λ rows. record { rows = rows; quiet = quiet; is_root = is_deletion (Some element) }) (with_element (rows_of rows held) element)) elements)
    (quiet_is (element.level == 2 && is_named (codes "Quiet") element) field element)
    ∙ goes (element.level == 3) (element.level == 2) (is_named (codes "Object") element) (field_with field element) element elements
    (last_or (field_with field element) (filter (is_named (codes "Quiet")) (top_fields elements))) (last_or (Some element) elements) rows held stands
    (λ rows held stands. told_is rows held (field_with field element) (Some element) elements stands)
    ∙ ap (λ field. asked (rows ++ rows_from (codes "Object") held (element ∷ elements)) field (last_or (Some element) elements)) (last_is (element.level == 2) field element elements)

-- ---- what a body asks for

abbrev asked_in_rooted : Option (List Ended) → Result Deletion Code
asked_in_rooted elements = do
  elements ← ok_or elements MalformedXML
  is_quiet ← ok_or (quiet_asked (field_in (codes "Quiet") (top_fields elements))) MalformedXML
  objects ← objects_named (rows_named (codes "Object") elements)
  Ok (made objects is_quiet)

pub asked_none : (body : List ℕ) → elements_of body ≡ None → deletion_read body ≡ Err MalformedXML
unfolding deletion_read
asked_none body none = ap asked_in_rooted (rooted_none (codes "Delete") body none)

asked_rooted : (is : Bool) (elements : List Ended)
    → asked_in_rooted (if is then Some elements else None)
    ≡ (refuse (not is) MalformedXML >> (ok_or (quiet_asked (field_in (codes "Quiet") (top_fields elements))) MalformedXML >>= λ is_quiet. (objects_named (rows_named (codes "Object") elements) >>= λ objects. Ok (made objects is_quiet))))
asked_rooted true elements = refl
asked_rooted false elements = refl

told_from : (body : List ℕ) (elements : Option (List Ended)) → elements_of body ≡ elements → read_from nothing_told elements ≡ deletion_read body
unfolding deletion_read
told_from body None are = sym (ap asked_in_rooted (rooted_none (codes "Delete") body are))
told_from body (Some elements) are =
    told_is [] [] None None elements (omega arith, refl)
    ∙ sym (ap asked_in_rooted (rooted_some (codes "Delete") body elements are) ∙ asked_rooted (ends_in (codes "Delete") elements) elements)

-- from the first state on, all is told
pub told_first : (body : List ℕ) → read_from nothing_told (elements_of body) ≡ deletion_read body
told_first body = told_from body (elements_of body) refl

-- one more element
pub told_more : (told : Told) (element : Ended) (new : Told) (elements : Option (List Ended)) → told_with told element ≡ Some new
    → read_from told (option_map (λ rest. element ∷ rest) elements) ≡ read_from new elements
unfolding read_by
told_more told element new None is = refl
told_more told element new (Some elements) is = ap (λ o. read_on o elements) is

-- one that may not end there
told_refused : (told : Told) (element : Ended) (elements : Option (List Ended)) → told_with told element ≡ None
    → read_from told (option_map (λ rest. element ∷ rest) elements) ≡ Err MalformedXML
unfolding read_by
told_refused told element None is = refl
told_refused told element (Some elements) is = ap (λ o. read_on o elements) is

pub asked_refused : (body : List ℕ) (told : Told) (element : Ended) (before elements : Option (List Ended)) → read_from told before ≡ deletion_read body → before ≡ option_map (λ rest. element ∷ rest) elements
    → told_with told element ≡ None → deletion_read body ≡ Err MalformedXML
asked_refused body told element before elements asked is refused = sym asked ∙ ap (read_from told) is ∙ told_refused told element elements refused

-- the end
pub told_end : (told : Told) → read_from told (Some []) ≡ answered told
unfolding read_by
told_end told = refl

pub ruleset tells = (told_first, told_more, told_end, asked_none)

-- no bytes ask for anything
pub asked_nothing : (body : List ℕ) → length body ≡ 0 → deletion_read body ≡ Err MalformedXML
asked_nothing [] is = asked_none [] nothing_there
asked_nothing (b ∷ body) is = absurd (omega arith)
