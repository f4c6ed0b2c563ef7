-- What a contract sees of an encoded parameter: its name and its value.
-- Only clauses of private functions cite these, and nobody has to believe them.
use Rattle.std.specs.Prelude.{ℕ, List, map}
use Rattle.s3_canonical.specs.declared.parameter.Parameter.{Parameter}

abbrev pub pair : Parameter → List ℕ × List ℕ
pair parameter = (parameter.name.items, parameter.value.items)

abbrev pub pairs : List Parameter → List (List ℕ × List ℕ)
pairs all = map pair all
