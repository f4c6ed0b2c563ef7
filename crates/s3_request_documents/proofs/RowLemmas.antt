-- What the elements of a completion tell, one after another, is what its rows list.
use Rattle.std.proofs.Common.{◌≡◌, refl, inr, sym, ap, ◌∙◌, ℕ, ◌+◌, ◌<◌, ◌≤◌, Bool, true, false, not, ◌==◌, ◌&&◌, nat_lt, if◌then◌else◌, List, [], ◌∷◌, ◌++◌, length, take, take_all, min, arith, append_assoc, append-nil, length-append, codes, Option, Some, None}
use Rattle.std.proofs.lemmas.Bool.Decides.{nat_tests}
use Rattle.std.proofs.lemmas.List.{take-append-le}
use Rattle.std.proofs.lemmas.List.Elements.{filter_map-append}
use Rattle.std.proofs.lemmas.Option.{none-some, same_Some}
use Rattle.std.specs.Prelude.{option_map, option_and_then, is_some, ok_or, Result, Ok, Err}
use Rattle.std.specs.List.{last_or, list_all, filter_map, cons_option}
use Rattle.s3_terms.specs.Fault.{Follows, refuse, ◌>>=◌, ◌>>◌}
use Rattle.s3_terms.specs.declared.code.Code.{Code}
use Rattle.s3_terms.specs.declared.code.Code.TheVariants.{MalformedXML, InvalidArgument}
use Rattle.s3_names.specs.Ids.{as_part_number}
use Rattle.s3_conditions.specs.Tags.{unquoted}
use Rattle.s3_uploads.specs.declared.listed.ListedPart.{ListedPart}
use Rattle.s3_xml.specs.Ended.{Ended, elements_of}
use Rattle.s3_request_documents.specs.Completion.{is_count, tag_told, number_field, tells_part, tells_part_number, listed_as, listed_of, judged_rows, rows_listed, completion_in_xml}
use Rattle.s3_request_documents.specs.CompletionTold.{is_completion, completion_of, no_fields, with_field, part_of, with_row, told_with, nothing_told, answered}
use Rattle.s3_request_documents.specs.Xml.{is_named, rows_from, rows_named, field_in, number_told}
use Rattle.s3_request_documents.specs.declared.completion_rows.Fields.{Fields}
use Rattle.s3_request_documents.specs.declared.completion_rows.Rows.{Rows}
use Rattle.s3_request_documents.specs.declared.completion_xml.Told.{Told}
use Rattle.s3_request_documents.proofs.XmlLemmas.{ends_in, nothing_there, rooted_none, rooted_some, field_more, all_more}

-- ---- what fields tell

abbrev fields_told : List Ended → Fields
fields_told fields = record { tag = tag_told fields; number = option_map as_part_number (number_field fields) }

under : {A B : Type 0} → (f : Option A → B) (is : Bool) (a b : Option A) → f (if is then a else b) ≡ (if is then f a else f b)
under f true a b = refl
under f false a b = refl

tag_more : (fields : List Ended) (element : Ended) → tag_told (fields ++ element ∷ []) ≡ (with_field (fields_told fields) element).tag
tag_more fields element =
    ap (option_map unquoted) (field_more (codes "ETag") fields element)
    ∙ under (option_map unquoted) (is_named (codes "ETag") element) (Some element.content) (field_in (codes "ETag") fields)

number_more : (fields : List Ended) (element : Ended) → option_map as_part_number (number_field (fields ++ element ∷ [])) ≡ (with_field (fields_told fields) element).number
number_more fields element =
    ap (λ o. option_map as_part_number (option_and_then number_told o)) (field_more (codes "PartNumber") fields element)
    ∙ under (λ o. option_map as_part_number (option_and_then number_told o)) (is_named (codes "PartNumber") element) (Some element.content) (field_in (codes "PartNumber") fields)

fields_more : (fields : List Ended) (element : Ended) → with_field (fields_told fields) element ≡ fields_told (fields ++ element ∷ [])
fields_more fields element = rw (tag_more fields element, number_more fields element) refl

-- ---- what rows tell

joined : {A B : Type 0} → (f : A → Option B) (o : Option A) → option_and_then (λ b. b) (option_map f o) ≡ option_and_then f o
joined f None = refl
joined f (Some a) = refl

some_map : {A B : Type 0} → (f : A → B) (o : Option A) → is_some (option_map f o) ≡ is_some o
some_map f None = refl
some_map f (Some a) = refl

abbrev rows_of : List (List Ended) → List Ended → Rows
rows_of rows held = record {
  fields = fields_told held;
  parts = filter_map listed_of (take 10_000 rows);
  count = min (length rows) 10_001;
  are_parts = list_all tells_part rows;
  are_numbered = list_all tells_part_number rows;
}

-- one more row
part_is : (row : List Ended) → part_of (fields_told row) ≡ listed_of row
part_is row = ap (λ number. option_and_then (λ tag. option_map (listed_as tag) number) (tag_told row)) (joined as_part_number (number_field row))

parts_more : (most : ℕ) (rows : List (List Ended)) (row : List Ended) (few : Bool) → nat_lt (length rows) most ≡ few
    → (if few then filter_map listed_of (take most rows) ++ cons_option (listed_of row) [] else filter_map listed_of (take most rows)) ≡ filter_map listed_of (take most (rows ++ row ∷ []))
parts_more most rows row true is =
    let within : length rows < most = grind (arith, nat_tests) in
    let before = take_all most rows (omega arith) in
    let after = take_all most (rows ++ row ∷ []) (omega (arith, length-append rows (row ∷ []))) in
    ap (λ rs. filter_map listed_of rs ++ cons_option (listed_of row) []) before
    ∙ sym (filter_map-append listed_of rows (row ∷ []))
    ∙ ap (filter_map listed_of) (sym after)
parts_more most rows row false is =
    let past : most ≤ length rows = grind (arith, nat_tests) in
    ap (filter_map listed_of) (sym (take-append-le most rows (row ∷ []) past))

few_is : (count : ℕ) → nat_lt (min count 10_001) 10_000 ≡ nat_lt count 10_000
few_is count = grind (arith, nat_tests)

count_more : (count : ℕ) → (if nat_lt (min count 10_001) 10_001 then min count 10_001 + 1 else min count 10_001) ≡ min (count + 1) 10_001
count_more count = grind (arith, nat_tests)

abbrev made : List ListedPart → ℕ → Bool → Bool → Rows
made parts count are_parts are_numbered = record { fields = no_fields; parts = parts; count = count; are_parts = are_parts; are_numbered = are_numbered }

made_is : {parts parts' : List ListedPart} {count count' : ℕ} {a a' b b' : Bool} → parts ≡ parts' → count ≡ count' → a ≡ a' → b ≡ b' → made parts count a b ≡ made parts' count' a' b'
made_is {parts = parts} {parts' = parts'} {count = count} {count' = count'} {a = a} {a' = a'} {b = b} {b' = b'} e f g h =
    ap (λ parts. made parts count a b) e ∙ ap (λ count. made parts' count a b) f ∙ ap (λ a. made parts' count' a b) g ∙ ap (λ b. made parts' count' a' b) h

abbrev parts_with : Bool → List (List Ended) → Option ListedPart → List ListedPart
parts_with few rows part = if few then filter_map listed_of (take 10_000 rows) ++ cons_option part [] else filter_map listed_of (take 10_000 rows)

row_more : (rows : List (List Ended)) (row : List Ended) → with_row (rows_of rows row) ≡ rows_of (rows ++ row ∷ []) []
row_more rows row =
    made_is
    (ap (λ few. parts_with few rows (part_of (fields_told row))) (few_is (length rows))
    ∙ ap (parts_with (nat_lt (length rows) 10_000) rows) (part_is row)
    ∙ parts_more 10_000 rows row (nat_lt (length rows) 10_000) refl)
    (count_more (length rows) ∙ ap (λ n. min n 10_001) (sym (length-append rows (row ∷ []))))
    (ap (λ b. list_all tells_part rows && (is_some (tag_told row) && b)) (some_map as_part_number (number_field row)) ∙ all_more tells_part rows row)
    (ap (λ o. list_all tells_part_number rows && is_some o) (joined as_part_number (number_field row)) ∙ all_more tells_part_number rows row)

-- ---- what is answered

answered_is : (root count parts numbered : Bool) (listed all : List ListedPart) → (count ≡ true → listed ≡ all)
    → (refuse (not root) MalformedXML >> (refuse (not count) MalformedXML >> (refuse (not parts) MalformedXML >> (refuse (not numbered) InvalidArgument >> Ok listed))))
    ≡ (refuse (not root) MalformedXML >> ((refuse (not count) MalformedXML >> (refuse (not parts) MalformedXML >> refuse (not numbered) InvalidArgument)) >> Ok all))
answered_is false count parts numbered listed all same = refl
answered_is true false parts numbered listed all same = refl
answered_is true true false numbered listed all same = refl
answered_is true true true false listed all same = refl
answered_is true true true true listed all same = ap Ok (same refl)

-- what is told by these rows, these fields of the next one, and this last element
abbrev told_of : List (List Ended) → List Ended → Option Ended → Told
told_of rows held last = record { rows = rows_of rows held; is_root = is_completion last }

-- what these rows ask for, with this last element
abbrev asked : List (List Ended) → Option Ended → Result (List ListedPart) Code
asked rows last = do
  refuse (not (is_completion last)) MalformedXML
  rows_listed rows

count_is : (count : ℕ) → is_count (min count 10_001) ≡ is_count count
count_is count = grind (arith, nat_tests)

count_few : (count : ℕ) → is_count count ≡ true → count ≤ 10_000
count_few count is = grind (arith, nat_tests)

asked_is : (rows : List (List Ended)) (held : List Ended) (last : Option Ended) → answered (told_of rows held last) ≡ asked rows last
unfolding rows_listed judged_rows
asked_is rows held last =
    rw (count_is (length rows))
    (answered_is (is_completion last) (is_count (length rows)) (list_all tells_part rows) (list_all tells_part_number rows) _ _
    (λ few. ap (filter_map listed_of) (take_all 10_000 rows (count_few (length rows) few))))

-- with several elements more
unfoldable pub told_by : Told → List Ended → Told
told_by told [] = told
told_by told (element ∷ elements) = told_by (told_with told element) elements

abbrev Goes : List (List Ended) → List Ended → List Ended → Ended → Type 0
Goes rows held elements element =
    answered (told_by (told_of rows held (Some element)) elements) ≡ asked (rows ++ rows_from (codes "Part") held elements) (last_or (Some element) elements)

-- one more element: a field, a row, another element right in the root, or one that tells nothing
goes : (field top row : Bool) (rows : List (List Ended)) (held elements : List Ended) (element : Ended)
    → ((rows : List (List Ended)) (held : List Ended) → Goes rows held elements element)
    → answered (told_by (record { rows = if field then record (rows_of rows held) { fields = with_field (fields_told held) element } else if top then (if row then with_row (rows_of rows held) else record (rows_of rows held) { fields = no_fields }) else rows_of rows held; is_root = is_completion (Some element) }) elements)
    ≡ asked (rows ++ (if field then rows_from (codes "Part") (held ++ element ∷ []) elements else if top then (if row then held ∷ rows_from (codes "Part") [] elements else rows_from (codes "Part") [] elements) else rows_from (codes "Part") held elements)) (last_or (Some element) elements)
goes true top row rows held elements element rest =
    ap (λ fields. answered (told_by (record { rows = record (rows_of rows held) { fields = fields }; is_root = is_completion (Some element) }) elements)) (fields_more held element)
    ∙ rest rows (held ++ element ∷ [])
goes false true true rows held elements element rest =
    ap (λ rows. answered (told_by (record { rows = rows; is_root = is_completion (Some element) }) elements)) (row_more rows held)
    ∙ rest (rows ++ held ∷ []) []
    ∙ ap (λ rows. asked rows (last_or (Some element) elements)) (append_assoc rows (held ∷ []) (rows_from (codes "Part") [] elements))
goes false true false rows held elements element rest = rest rows []
goes false false row rows held elements element rest = rest rows held

told_is : (rows : List (List Ended)) (held : List Ended) (last : Option Ended) (elements : List Ended)
    → answered (told_by (told_of rows held last) elements) ≡ asked (rows ++ rows_from (codes "Part") held elements) (last_or last elements)
unfolding told_by rows_from
told_is rows held last [] = asked_is rows held last ∙ ap (λ rows. asked rows last) (sym (append-nil rows))
told_is rows held last (element ∷ elements) =
    goes (element.level == 3) (element.level == 2) (is_named (codes "Part") element) rows held elements element (λ rows held. told_is rows held (Some element) elements)

-- ---- from the first state on, all is told

pub told_first : (elements : Option (List Ended)) → option_map (λ es. answered (told_by nothing_told es)) elements ≡ option_map completion_of elements
told_first None = refl
told_first (Some elements) = ap Some (told_is [] [] None elements)

-- one more element
pub told_more : (told : Told) (element : Ended) (elements : Option (List Ended))
    → option_map (λ es. answered (told_by told es)) (option_map (λ rest. element ∷ rest) elements) ≡ option_map (λ es. answered (told_by (told_with told element) es)) elements
unfolding told_by
told_more told element None = refl
told_more told element (Some elements) = refl

-- the end
pub told_end : (told : Told) → option_map (λ es. answered (told_by told es)) (Some []) ≡ Some (answered told)
unfolding told_by
told_end told = refl

-- no document tells anything
pub told_nothing : (told : Told) (elements : Option (List Ended)) → option_map (λ es. answered (told_by told es)) None ≡ option_map completion_of elements → elements ≡ None
told_nothing told None is = refl
told_nothing told (Some elements) is = absurd (none-some _ is)

pub ruleset tells = (told_first, told_more, told_end, told_nothing)

-- ---- what a body asks for

abbrev listed_in_rooted : Option (List Ended) → Result (List ListedPart) Code
listed_in_rooted elements = do
  elements ← ok_or elements MalformedXML
  rows_listed (rows_named (codes "Part") elements)

pub asked_none : (body : List ℕ) → elements_of body ≡ None → completion_in_xml body ≡ Err MalformedXML
unfolding completion_in_xml
asked_none body none = ap listed_in_rooted (rooted_none (codes "CompleteMultipartUpload") body none)

asked_rooted : (is : Bool) (elements : List Ended)
    → listed_in_rooted (if is then Some elements else None) ≡ (refuse (not is) MalformedXML >> rows_listed (rows_named (codes "Part") elements))
asked_rooted true elements = refl
asked_rooted false elements = refl

asked_of : (body : List ℕ) (elements : Option (List Ended)) (answer : Result (List ListedPart) Code) → elements_of body ≡ elements → option_map completion_of elements ≡ Some answer → completion_in_xml body ≡ answer
unfolding completion_in_xml
asked_of body None answer are is = absurd (none-some _ is)
asked_of body (Some elements) answer are is =
    ap listed_in_rooted (rooted_some (codes "CompleteMultipartUpload") body elements are)
    ∙ asked_rooted (ends_in (codes "CompleteMultipartUpload") elements) elements
    ∙ same_Some _ _ is

pub asked_some : (body : List ℕ) (answer : Result (List ListedPart) Code) → option_map completion_of (elements_of body) ≡ Some answer → completion_in_xml body ≡ answer
asked_some body answer is = asked_of body (elements_of body) answer refl is

-- no bytes ask for anything
pub asked_nothing : (body : List ℕ) → length body ≡ 0 → completion_in_xml body ≡ Err MalformedXML
asked_nothing [] is = asked_none [] nothing_there
asked_nothing (b ∷ body) is = absurd (omega arith)

pub ruleset answers = (asked_none, asked_some)

-- what is answered as a rule says follows it
pub follows : {A : Type 0} → (result rule : Result A Code) → rule ≡ result → Follows result rule
follows (Ok value) rule is = is
follows (Err code) rule is = inr is
