-- What a printer holds after its calls.
use Rattle.std.proofs.Common.{◌≡◌, refl, sym, ap, ◌∙◌, ℕ, List, [], ◌∷◌, ◌++◌, append_assoc, append-nil, Result, Ok, Err, IfOk, OnOk}
use Rattle.std.proofs.lemmas.List.Concat.{flat_map-append}
use Rattle.std.proofs.lemmas.Str.{IsUtf8-from_ascii}
use Rattle.json.specs.Token.{Token, begin_object, end_object, begin_array, end_array, key}
use Rattle.s3_documents.specs.Tree.{Fields, Tree, rows, leaves, tree_text}
use Rattle.s3_documents.specs.Tree.{rows_between}
use Rattle.s3_documents.specs.Printed.{members_tokens, value_tokens, branch_tokens, fields_tokens, row_tokens, all_tokens, begun}

pub leaves_tokens : (fields : Fields) → members_tokens branch_tokens (leaves fields) ≡ fields_tokens fields
leaves_tokens [] = refl
leaves_tokens (f ∷ fs) = ap (λ ts. (key f.0 ∷ value_tokens f.1) ++ ts) (leaves_tokens fs)

members_behind : (tree more : Tree) → begun (tree ++ more) ≡ begun tree ++ members_tokens branch_tokens more
unfolding begun
members_behind tree more = ap (λ ts. begin_object ∷ ts) (flat_map-append (λ m. key m.0 ∷ branch_tokens m.1) tree more)

-- fields behind what was told
pub fields_behind : (tree : Tree) (fields : Fields) → begun (tree ++ leaves fields) ≡ begun tree ++ fields_tokens fields
fields_behind tree fields = members_behind tree (leaves fields) ∙ ap (λ ts. begun tree ++ ts) (leaves_tokens fields)

regroup : (old rest : List Token) (a b z : Token) → old ++ ((a ∷ b ∷ (rest ++ z ∷ [])) ++ []) ≡ (((old ++ a ∷ []) ++ b ∷ []) ++ rest) ++ z ∷ []
regroup old rest a b z = simp (append_assoc, append-nil)

-- rows behind what was told
pub rows_behind : (tree : Tree) (name : List ℕ) (list : List Fields)
    → begun (tree ++ (name, rows list) ∷ []) ≡ (((begun tree ++ key name ∷ []) ++ begin_array ∷ []) ++ all_tokens list) ++ end_array ∷ []
rows_behind tree name list =
    members_behind tree ((name, rows list) ∷ []) ∙ regroup (begun tree) (all_tokens list) (key name) begin_array end_array

pub rows_told : (t t1 t2 t3 t4 : List Token) (tree : Tree) (name : List ℕ) (list : List Fields)
    → t1 ≡ t ++ key name ∷ [] → t2 ≡ t1 ++ begin_array ∷ [] → t3 ≡ t2 ++ all_tokens list → t4 ≡ t3 ++ end_array ∷ []
    → t ≡ begun tree → t4 ≡ begun (tree ++ (name, rows list) ∷ [])
rows_told t t1 t2 t3 t4 tree name list e1 e2 e3 e4 told = rw (e4, e3, e2, e1, told) (sym (rows_behind tree name list))

-- a row of these fields, behind other tokens
pub row_behind : (old : List Token) (fields : Fields) → old ++ row_tokens fields ≡ ((old ++ begin_object ∷ []) ++ fields_tokens fields) ++ end_object ∷ []
unfolding row_tokens
row_behind old fields =
    sym (append_assoc (old ++ begin_object ∷ []) (fields_tokens fields) (end_object ∷ [])
    ∙ append_assoc old (begin_object ∷ []) (fields_tokens fields ++ end_object ∷ []))

-- what is finished, where this tree was told
pub finished : {A E : Type 0} (items : A → List ℕ) (old : List Token) (tree : Tree) (result : Result A E)
    → IfOk result (λ text. (told : Tree) → old ≡ begun told → items text ≡ tree_text told) → old ≡ begun tree → IfOk result (λ text. items text ≡ tree_text tree)
finished items old tree (Ok text) is told = is tree told
finished items old tree (Err e) is told = is

-- what is printed of a list, where what its parts tell is known
pub list_told : {E : Type 0} (r : Result (Unit {0}) E) (old new : List Token) (name : List ℕ) (before first : Fields) (list told : List Fields) (behind last : Fields)
    → before ≡ first → list ≡ told → behind ≡ last
    → OnOk r (old ≡ begun [] → new ≡ begun (rows_between before name list behind)) → OnOk r (old ≡ begun [] → new ≡ begun (rows_between first name told last))
list_told r old new name before first list told behind last e f g is = rw (sym e, sym f, sym g) is

-- ---- for attributes to name

pub ruleset names = (IsUtf8-from_ascii)
