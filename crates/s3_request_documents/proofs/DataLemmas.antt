-- The tree of a document, as the value that it is.
use Rattle.std.proofs.Common.{◌≡◌, refl, sym, ap, ◌∙◌, ℕ, List, [], ◌∷◌, map, Bool, true, false, if◌then◌else◌, Option, Some, None, cond, ◌&&◌}
use Rattle.std.specs.Prelude.{option_map, option_and_then, is_some}
use Rattle.std.specs.Str.{bytes_eq}
use Rattle.std.proofs.lemmas.Slice.Eq.{bytes_eq-Decides}
use Rattle.json.specs.Json as json
use Rattle.json.specs.Find as find
use Rattle.json.specs.Find.{later_or}
use Rattle.json.specs.Value.{items_view}
use Rattle.json.specs.declared.value.Value.{Value}
use Rattle.serde_json.specs.Data.{Num, Data, number, array, object, item, Members, no_members, put}
use Rattle.serde_json.specs.Find.{get, get_member, as_str, as_number, as_array}
use Rattle.serde_json.specs.Read.{number_of, of_json, of_items, of_members}
use Rattle.serde_json.proofs.Views.{get_member-put, get_member-put_other}
use Rattle.s3_request_documents.specs.Completion.{elements}
use Rattle.s3_request_documents.specs.Data.{is_in_range, items_in_range, members_in_range, number_data, data_of, data_of_items, data_of_members, seen}

-- ---- a tree whose numbers are in range has a value, and no other has

number_is : (o : Option Num) → option_map number o ≡ (if is_some o then Some (number_data o) else None)
number_is None = refl
number_is (Some n) = refl

under : {A B : Type 0} (f : A → B) (b : Bool) (a : A) → option_map f (if b then Some a else None) ≡ (if b then Some (f a) else None)
under f true a = refl
under f false a = refl

both : {A B C : Type 0} (f : A → B → C) (b c : Bool) (x : A) (y : B)
    → option_and_then (λ d. option_map (f d) (if c then Some y else None)) (if b then Some x else None) ≡ (if b && c then Some (f x y) else None)
both f true true x y = refl
both f true false x y = refl
both f false c x y = refl

after : {A B : Type 0} (f : A → Option B) (b c : Bool) (x : A) (y : B) → f x ≡ (if c then Some y else None)
    → option_and_then f (if b then Some x else None) ≡ (if b && c then Some y else None)
after f true c x y is = is
after f false c x y is = refl

mutual
  pub data_is : (j : json.Json) → of_json j ≡ (if is_in_range j then Some (data_of j) else None)
  data_is json.null = refl
  data_is (json.boolean b) = refl
  data_is (json.number s) = number_is (number_of s)
  data_is (json.string s) = refl
  data_is (json.array js) = ap (option_map array) (items_are js) ∙ under array (items_in_range js) (data_of_items js)
  data_is (json.object ms) = ap (option_map object) (members_are ms no_members) ∙ under object (members_in_range ms) (data_of_members ms no_members)

  items_are : (js : json.Items) → of_items js ≡ (if items_in_range js then Some (data_of_items js) else None)
  items_are json.no_items = refl
  items_are (json.item j js) =
      ap (option_and_then (λ d. option_map (item d) (of_items js))) (data_is j)
      ∙ ap (λ o. option_and_then (λ d. option_map (item d) o) (if is_in_range j then Some (data_of j) else None)) (items_are js)
      ∙ both item (is_in_range j) (items_in_range js) (data_of j) (data_of_items js)

  members_are : (ms : json.Members) (found : Members) → of_members ms found ≡ (if members_in_range ms then Some (data_of_members ms found) else None)
  members_are json.no_members found = refl
  members_are (json.member k j ms) found =
      ap (option_and_then (λ d. of_members ms (put k d found))) (data_is j)
      ∙ after (λ d. of_members ms (put k d found)) (is_in_range j) (members_in_range ms) (data_of j) (data_of_members ms (put k (data_of j) found)) (members_are ms (put k (data_of j) found))

-- ---- what stands under a name

abbrev or_else : Option Data → Option Data → Option Data
or_else None d = d
or_else (Some e) d = Some e

put_at : (b : Bool) (name k : List ℕ) (d : Data) (found : Members) → bytes_eq k name ≡ b → get_member name (put k d found) ≡ or_else (cond b (Some d) None) (get_member name found)
put_at true name k d found is = let same : k ≡ name = (bytes_eq-Decides k name).0 is in rw (sym same) (get_member-put k d found)
put_at false name k d found is = get_member-put_other name k d found (λ same. let equal : bytes_eq k name ≡ true = (bytes_eq-Decides k name).1 (sym same) in absurd (cc))

later : (o : Option json.Json) (b : Bool) (j : json.Json) (d : Option Data)
    → or_else (option_map data_of o) (or_else (cond b (Some (data_of j)) None) d) ≡ or_else (option_map data_of (later_or o (cond b (Some j) None))) d
later None true j d = refl
later None false j d = refl
later (Some i) b j d = refl

member_at : (name : List ℕ) (ms : json.Members) (found : Members) → get_member name (data_of_members ms found) ≡ or_else (option_map data_of (find.get_member name ms)) (get_member name found)
member_at name json.no_members found = refl
member_at name (json.member k j ms) found =
    member_at name ms (put k (data_of j) found)
    ∙ ap (or_else (option_map data_of (find.get_member name ms))) (put_at (bytes_eq k name) name k (data_of j) found refl)
    ∙ later (find.get_member name ms) (bytes_eq k name) j (get_member name found)

or_none : (o : Option Data) → or_else o None ≡ o
or_none None = refl
or_none (Some d) = refl

pub get_at : (name : List ℕ) (j : json.Json) → get name (data_of j) ≡ option_map data_of (find.get name j)
get_at name json.null = refl
get_at name (json.boolean b) = refl
get_at name (json.number s) = elim (number_of s) as (λ o. get name (number_data o) ≡ None) [ Some n ↦ refl | None ↦ refl ]
get_at name (json.string s) = refl
get_at name (json.array js) = refl
get_at name (json.object ms) = member_at name ms no_members ∙ or_none (option_map data_of (find.get_member name ms))

text_of_number : (o : Option Num) → as_str (number_data o) ≡ None
text_of_number None = refl
text_of_number (Some n) = refl

pub text_at : (j : json.Json) → as_str (data_of j) ≡ find.as_str j
text_at json.null = refl
text_at (json.boolean b) = refl
text_at (json.number s) = text_of_number (number_of s)
text_at (json.string s) = refl
text_at (json.array js) = refl
text_at (json.object ms) = refl

number_back : (o : Option Num) → as_number (number_data o) ≡ o
number_back None = refl
number_back (Some n) = refl

pub number_at : (j : json.Json) → as_number (data_of j) ≡ option_and_then number_of (find.as_number j)
number_at json.null = refl
number_at (json.boolean b) = refl
number_at (json.number s) = number_back (number_of s)
number_at (json.string s) = refl
number_at (json.array js) = refl
number_at (json.object ms) = refl

-- the value of what was found
pub data_found : {X : Type 0} → (f : X → json.Json) (o : Option X) → option_map (λ x. data_of (f x)) o ≡ option_map data_of (option_map f o)
data_found f None = refl
data_found f (Some x) = refl

-- the elements of an array
elements_of : {A : Type 0} → (values : List (Value A)) → elements (data_of_items (items_view values)) ≡ map seen values
elements_of [] = refl
elements_of (value ∷ values) = ap (λ vs. seen value ∷ vs) (elements_of values)

pub elements_at : {A : Type 0} → (j : json.Json) (values : List (Value A)) → j ≡ json.array (items_view values) → Some (map seen values) ≡ option_map elements (as_array (data_of j))
elements_at j values is = sym (ap (λ j. option_map elements (as_array (data_of j))) is ∙ ap Some (elements_of values))
