-- In which order a JSON document has its members: in that of their names' bytes, each once.
use Rattle.std.specs.Prelude.{ℕ, IsTrue, List, map as each}
use Rattle.std.specs.List.{All}
use Rattle.s3_text.specs.Order.{rises}
use Rattle.s3_documents.specs.Document.{Document, tree_of}
use Rattle.s3_documents.specs.Tree.{Branch, leaf, rows}

-- the names rise: each comes before the next one
abbrev pub MemberNamesRise : {A : Type 0} → List (List ℕ × A) → Type 0
MemberNamesRise members = IsTrue (rises (each (λ member. member.0) members))

-- so do those in each row that stands under a name
abbrev pub RowsRise : Branch → Type 0
RowsRise (leaf value) = Unit {0}
RowsRise (rows list) = All MemberNamesRise list

-- of what a document tells, at the top and in its rows
pub record HasMembersInOrder (document : Document) : Type 0 where
  pub top : MemberNamesRise (tree_of document)
  pub within : All (λ member. RowsRise member.1) (tree_of document)

abbrev pub MembersRise : Type 0
MembersRise = (document : Document) → HasMembersInOrder document
