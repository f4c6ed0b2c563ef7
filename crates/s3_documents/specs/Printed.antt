-- The tokens by which a `Printer` prints a tree, and what the values that it is given tell.
use Rattle.std.specs.Prelude.{ℕ, ◌+◌, ◌<◌, ◌≤◌, min, Option, Some, None, List, [], ◌∷◌, ◌++◌, length, flat_map, decimal, String, Result, MatchResult}
use Rattle.std.specs.String.{string_bytes}
use Rattle.json.specs.Token as json
use Rattle.json.specs.Print.{token_text}
use Rattle.s3_documents.specs.Timestamp.{timestamp}
use Rattle.s3_documents.specs.Tree.{Value, text, encodable, number, truth, moment, Fields, Branch, leaf, rows, Tree}
use Rattle.s3_documents.specs.declared.printer.Field.{Field}
use Rattle.s3_documents.specs.declared.printer.Leaf.{Leaf}
use Rattle.s3_documents.specs.declared.printer.Leaf.TheVariants.{Text, Encodable, Number, Truth, Moment, Absent}

-- what stands under names, without the braces round it
abbrev pub members_tokens : {A : Type 0} → (A → List json.Token) → List (List ℕ × A) → List json.Token
members_tokens tokens_of members = flat_map (λ m. json.key m.0 ∷ tokens_of m.1) members

-- an object
abbrev pub object_tokens : {A : Type 0} → (A → List json.Token) → List (List ℕ × A) → List json.Token
object_tokens tokens_of members = json.begin_object ∷ (members_tokens tokens_of members ++ json.end_object ∷ [])

-- a value
abbrev pub value_tokens : Value → List json.Token
value_tokens (text s) = json.string s ∷ []
value_tokens (encodable s) = json.string s ∷ []
value_tokens (number n) = json.number (decimal n) ∷ []
value_tokens (truth b) = json.boolean b ∷ []
value_tokens (moment m) = json.string (timestamp m) ∷ []

-- values under their names, and a row of them
abbrev pub fields_tokens : Fields → List json.Token
fields_tokens fields = members_tokens value_tokens fields

unfoldable pub row_tokens : Fields → List json.Token
row_tokens fields = object_tokens value_tokens fields

-- rows, without the brackets round them
abbrev pub all_tokens : List Fields → List json.Token
all_tokens list = flat_map row_tokens list

-- a branch
abbrev pub branch_tokens : Branch → List json.Token
branch_tokens (leaf value) = value_tokens value
branch_tokens (rows list) = json.begin_array ∷ (all_tokens list ++ json.end_array ∷ [])

-- branches under their names, without the braces round them
abbrev pub branches_tokens : Tree → List json.Token
branches_tokens tree = members_tokens branch_tokens tree

-- a document, of which all is printed but its last brace
unfoldable pub begun : Tree → List json.Token
begun tree = json.begin_object ∷ branches_tokens tree

-- the room that tokens take at most: the text of each, and a comma
abbrev pub room_of : List json.Token → ℕ
room_of [] = 0
room_of (t ∷ ts) = length (token_text t) + 1 + room_of ts

-- printing these tokens takes no more room than theirs, and fails only where some of it was missing
abbrev pub TakesRoom : {E : Type 0} → Result (Unit {0}) E → ℕ → ℕ → List json.Token → Type 0
TakesRoom r old new tokens = MatchResult r (λ _. old ≤ new + room_of tokens) (λ _. old < room_of tokens)

-- a field that tells a value, or nothing
abbrev pub told : List ℕ → Option Value → Fields
told name None = []
told name (Some value) = (name, value) ∷ []

-- the value that is lent to a printer
abbrev pub value_of : Leaf → Option Value
value_of (Text s) = Some (text s.now)
value_of (Encodable s) = Some (encodable s.now)
value_of (Number n) = Some (number n)
value_of (Truth b) = Some (truth b)
value_of (Moment m) = Some (moment m)
value_of Absent = None

-- a text that is kept, as a value
abbrev pub text_kept : {Z : Type 0} → String Z → Value
text_kept kept = text (string_bytes kept)

-- the fields that are lent to it
abbrev pub field_of : Field → Fields
field_of field = told field.name.now (value_of field.value)

abbrev pub fields_of : List Field → Fields
fields_of fields = flat_map field_of fields

-- so much room suffices for so many bytes; it does for any number where it is the greatest that there is
abbrev pub IsRoomFor : (room needed : ℕ) → Type 0
IsRoomFor room needed = min needed 18_446_744_073_709_551_615 ≤ room
