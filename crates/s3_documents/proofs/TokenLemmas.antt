-- What is printed for the tokens of a tree is its text, and what `serde_json` prints of it.
use Rattle.std.proofs.Common.{◌≡◌, refl, sym, ap, ap₂, ◌∙◌, Bool, true, false, ℕ, List, [], ◌∷◌, ◌++◌, append_assoc, append-nil, map}
use Rattle.std.specs.List.{flat_map}
use Rattle.json.specs.Token.{Token, end_object, end_array, key}
use Rattle.json.specs.Print.{print, quoted}
use Rattle.json.specs.Tree.{json_tokens, items_tokens}
use Rattle.json.specs.Tree as json
use Rattle.serde_json.specs.Data.{Data}
use Rattle.serde_json.specs.View.{items_of}
use Rattle.serde_json.specs.Written.{outline, items_outline, members_outline, comma_if, compact_text, items_text, members_text}
use Rattle.serde_json.proofs.Texts.{print-outline}
use Rattle.s3_documents.specs.Tree.{Value, text, encodable, number, truth, moment, Branch, leaf, rows, Tree, with_commas, object_text, value_text, branch_text, tree_text}
use Rattle.s3_documents.specs.Json.{members_data, object_data, value_data, branch_data, tree_data}
use Rattle.s3_documents.specs.Laws.{TreesAreJson}
use Rattle.s3_documents.specs.Printed.{members_tokens, object_tokens, value_tokens, row_tokens, branch_tokens, begun}

-- ---- the text that `serde_json` prints

-- texts, each behind a comma
abbrev behind_commas : List (List ℕ) → List ℕ
behind_commas texts = flat_map (λ t. 44 ∷ t) texts

-- texts with commas, where one may stand before
abbrev joined : Bool → List (List ℕ) → List ℕ
joined true texts = behind_commas texts
joined false texts = with_commas texts

with_commas-cons : (t : List ℕ) (ts : List (List ℕ)) → with_commas (t ∷ ts) ≡ t ++ behind_commas ts
with_commas-cons t [] = sym (append-nil t)
with_commas-cons t (u ∷ us) = ap (λ r. t ++ (44 ∷ r)) (with_commas-cons u us)

joined-cons : (later : Bool) (t : List ℕ) (ts : List (List ℕ)) → joined later (t ∷ ts) ≡ comma_if later ++ (t ++ behind_commas ts)
joined-cons true t ts = refl
joined-cons false t ts = with_commas-cons t ts

joined-nil : (later : Bool) → joined later [] ≡ []
joined-nil true = refl
joined-nil false = refl

regroup_member : (comma name value others : List ℕ) (z : ℕ) → comma ++ (name ++ (58 ∷ (value ++ (others ++ z ∷ [])))) ≡ (comma ++ ((name ++ (58 ∷ value)) ++ others)) ++ z ∷ []
regroup_member comma name value others z = simp append_assoc

regroup_item : (comma item others : List ℕ) (z : ℕ) → comma ++ (item ++ (others ++ z ∷ [])) ≡ (comma ++ (item ++ others)) ++ z ∷ []
regroup_item comma item others z = simp append_assoc

members_spelled : {A : Type 0} (g : A → Data) (h : A → List ℕ) → ((a : A) → compact_text (g a) ≡ h a) → (later : Bool) (ms : List (List ℕ × A))
    → members_text later (members_data g ms) ≡ joined later (map (λ m. quoted m.0 ++ (58 ∷ h m.1)) ms) ++ 125 ∷ []
members_spelled g h same later [] = ap (λ t. t ++ 125 ∷ []) (sym (joined-nil later))
members_spelled g h same later (m ∷ ms) =
    let others = map (λ n. quoted n.0 ++ (58 ∷ h n.1)) ms in
    ap₂ (λ value rest. comma_if later ++ (quoted m.0 ++ (58 ∷ (value ++ rest)))) (same m.1) (members_spelled g h same true ms)
    ∙ regroup_member (comma_if later) (quoted m.0) (h m.1) (behind_commas others) 125
    ∙ ap (λ t. t ++ 125 ∷ []) (sym (joined-cons later (quoted m.0 ++ (58 ∷ h m.1)) others))

items_spelled : {A : Type 0} (g : A → Data) (h : A → List ℕ) → ((a : A) → compact_text (g a) ≡ h a) → (later : Bool) (xs : List A)
    → items_text later (items_of (map g xs)) ≡ joined later (map h xs) ++ 93 ∷ []
items_spelled g h same later [] = ap (λ t. t ++ 93 ∷ []) (sym (joined-nil later))
items_spelled g h same later (x ∷ xs) =
    ap₂ (λ item rest. comma_if later ++ (item ++ rest)) (same x) (items_spelled g h same true xs)
    ∙ regroup_item (comma_if later) (h x) (behind_commas (map h xs)) 93
    ∙ ap (λ t. t ++ 93 ∷ []) (sym (joined-cons later (h x) (map h xs)))

object_spelled : {A : Type 0} (g : A → Data) (h : A → List ℕ) → ((a : A) → compact_text (g a) ≡ h a) → (ms : List (List ℕ × A)) → compact_text (object_data g ms) ≡ object_text h ms
object_spelled g h same ms = ap (λ t. 123 ∷ t) (members_spelled g h same false ms)

value_spelled : (v : Value) → compact_text (value_data v) ≡ value_text v
value_spelled (text s) = refl
value_spelled (encodable s) = refl
value_spelled (number n) = refl
value_spelled (truth true) = refl
value_spelled (truth false) = refl
value_spelled (moment m) = refl

branch_spelled : (b : Branch) → compact_text (branch_data b) ≡ branch_text b
branch_spelled (leaf v) = value_spelled v
branch_spelled (rows list) = ap (λ t. 91 ∷ t) (items_spelled (object_data value_data) (object_text value_text) (object_spelled value_data value_text value_spelled) false list)

pub trees_are_json : TreesAreJson
unfolding tree_text
trees_are_json tree = object_spelled branch_data branch_text branch_spelled tree

-- ---- the tokens that `serde_json` prints

members_sent : {A : Type 0} (f : A → List Token) (g : A → Data) → ((a : A) → f a ≡ json_tokens (outline (g a))) → (ms : List (List ℕ × A))
    → members_tokens f ms ++ end_object ∷ [] ≡ json.members_tokens (members_outline (members_data g ms))
members_sent f g same [] = refl
members_sent f g same (m ∷ ms) =
    ap (λ ts. key m.0 ∷ ts) (append_assoc (f m.1) (members_tokens f ms) (end_object ∷ []) ∙ ap₂ (λ (a b : List Token). a ++ b) (same m.1) (members_sent f g same ms))

items_sent : {A : Type 0} (f : A → List Token) (g : A → Data) → ((a : A) → f a ≡ json_tokens (outline (g a))) → (xs : List A)
    → flat_map f xs ++ end_array ∷ [] ≡ items_tokens (items_outline (items_of (map g xs)))
items_sent f g same [] = refl
items_sent f g same (x ∷ xs) =
    append_assoc (f x) (flat_map f xs) (end_array ∷ []) ∙ ap₂ (λ (a b : List Token). a ++ b) (same x) (items_sent f g same xs)

object_sent : {A : Type 0} (f : A → List Token) (g : A → Data) → ((a : A) → f a ≡ json_tokens (outline (g a))) → (ms : List (List ℕ × A))
    → object_tokens f ms ≡ json_tokens (outline (object_data g ms))
object_sent f g same ms = ap (λ ts. Token.begin_object ∷ ts) (members_sent f g same ms)

value_sent : (v : Value) → value_tokens v ≡ json_tokens (outline (value_data v))
value_sent (text s) = refl
value_sent (encodable s) = refl
value_sent (number n) = refl
value_sent (truth b) = refl
value_sent (moment m) = refl

row_sent : (fields : _) → row_tokens fields ≡ json_tokens (outline (object_data value_data fields))
unfolding row_tokens
row_sent fields = object_sent value_tokens value_data value_sent fields

branch_sent : (b : Branch) → branch_tokens b ≡ json_tokens (outline (branch_data b))
branch_sent (leaf v) = value_sent v
branch_sent (rows list) = ap (λ ts. Token.begin_array ∷ ts) (items_sent row_tokens (object_data value_data) row_sent list)

-- a document that is begun and then ended
pub tree_prints : (tree : Tree) → tree_text tree ≡ [] ++ print (begun tree ++ end_object ∷ [])
unfolding begun
tree_prints tree =
    sym (ap print (object_sent branch_tokens branch_data branch_sent tree) ∙ print-outline (tree_data tree) ∙ trees_are_json tree)
