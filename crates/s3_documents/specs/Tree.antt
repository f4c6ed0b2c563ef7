-- What a document tells, as a tree, and the one text of a tree: JSON (RFC 8259) without a space, with the members
-- of each object in the order in which the tree has them.
use Rattle.std.specs.Prelude.{⊤, ℕ, Bool, if◌then◌else◌, List, ◌∷◌, ◌++◌, map, codes, decimal}
use Rattle.std.specs.List.{join_with_byte}
use Rattle.json.specs.Print.{quoted, escape_byte}
use Rattle.s3_documents.specs.Timestamp.{timestamp}

-- a value: a text, a text that XML tells UriEncoded where that is asked (a key, and what keys are compared with), a
-- number, a truth or a moment
pub data Value : Type 0 where
  text : List ℕ → Value
  encodable : List ℕ → Value
  number : ℕ → Value
  truth : Bool → Value
  moment : ℕ → Value

-- values, each under its name
abbrev pub Fields : Type 0
Fields = List (List ℕ × Value)

-- what a document tells under a name: a value, or rows
pub data Branch : Type 0 where
  leaf : Value → Branch
  rows : List Fields → Branch

-- what a document tells
abbrev pub Tree : Type 0
Tree = List (List ℕ × Branch)

-- fields, each as a branch
abbrev pub leaves : Fields → Tree
leaves fields = map (λ f. (f.0, leaf f.1)) fields

-- rows under a name, with fields in front of them and behind them
abbrev pub rows_between : Fields → List ℕ → List Fields → Fields → Tree
rows_between before name list behind = leaves before ++ (name, rows list) ∷ leaves behind

-- texts with a comma between each two
abbrev pub with_commas : List (List ℕ) → List ℕ
with_commas texts = join_with_byte 44 texts

-- the text of an object, by the texts of what it has under its names
abbrev pub object_text : {A : Type 0} → (A → List ℕ) → List (List ℕ × A) → List ℕ
object_text text_of members =
    codes "{" ++ (with_commas (map (λ m. quoted m.0 ++ (codes ":" ++ text_of m.1)) members) ++ codes "}")

-- the text of a value
abbrev pub value_text : Value → List ℕ
value_text (text s) = quoted s
value_text (encodable s) = quoted s
value_text (number n) = decimal n
value_text (truth b) = if b then codes "true" else codes "false"
value_text (moment m) = quoted (timestamp m)

-- of what stands under a name
abbrev pub branch_text : Branch → List ℕ
branch_text (leaf value) = value_text value
branch_text (rows list) = codes "[" ++ (with_commas (map (object_text value_text) list) ++ codes "]")

-- and of a document
unfoldable pub tree_text : Tree → List ℕ
tree_text tree = object_text branch_text tree

-- what a proof unfolds to compute the text of a tree of literals
unfoldable pub text_of_literals : ⊤
unfolding tree_text escape_byte
text_of_literals = tt
