-- A tree as the value that it is for `serde_json`.
use Rattle.std.specs.Prelude.{ℕ, List, [], ◌∷◌, map}
use Rattle.serde_json.specs.Data.{Num, unsigned, Data, boolean, string, array, object, Members, no_members, member}
use Rattle.serde_json.specs.Data as json
use Rattle.serde_json.specs.View.{items_of}
use Rattle.s3_documents.specs.Timestamp.{timestamp}
use Rattle.s3_documents.specs.Tree.{Value, text, encodable, number, truth, moment, Branch, leaf, rows, Tree}

-- an object, by the values that it has under its names
abbrev pub members_data : {A : Type 0} → (A → Data) → List (List ℕ × A) → Members
members_data data_of [] = no_members
members_data data_of (m ∷ members) = member m.0 (data_of m.1) (members_data data_of members)

abbrev pub object_data : {A : Type 0} → (A → Data) → List (List ℕ × A) → Data
object_data data_of members = object (members_data data_of members)

-- a value
abbrev pub value_data : Value → Data
value_data (text s) = string s
value_data (encodable s) = string s
value_data (number n) = json.number (unsigned n)
value_data (truth b) = boolean b
value_data (moment m) = string (timestamp m)

-- what stands under a name
abbrev pub branch_data : Branch → Data
branch_data (leaf value) = value_data value
branch_data (rows list) = array (items_of (map (object_data value_data) list))

-- and a document
abbrev pub tree_data : Tree → Data
tree_data tree = object_data branch_data tree
