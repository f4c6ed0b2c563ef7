-- What a contract sees of names of metadata: their texts.
-- Only clauses of private functions cite these, and nobody has to believe them.
use Rattle.std.specs.Prelude.{ℕ, List, map}
use Rattle.s3_requests.specs.declared.description.Name.{Name}

abbrev pub text_of : Name → List ℕ
text_of name = name.text.items

abbrev pub texts : List Name → List (List ℕ)
texts names = map text_of names
