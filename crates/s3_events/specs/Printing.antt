-- How the outputs of connections are printed: a line each, with the connection's number, a space and the output in hexadecimal
-- digits; and a message that is refused.
use Rattle.std.specs.Prelude.{ℕ, ◌+◌, List, [], ◌∷◌, ◌++◌, codes, decimal}
use Rattle.hex.specs.Hex.{encode_lower}
use Rattle.s3_text.specs.Characters.{line_feed, space}

-- the line of a connection and its output
abbrev pub output_line : ℕ → List ℕ → List ℕ
output_line connection output = decimal connection ++ space ∷ encode_lower output ++ line_feed ∷ []

-- the lines of outputs, of which the first is that of the connection with this number
abbrev pub outputs_from : ℕ → List (List ℕ) → List ℕ
outputs_from connection [] = []
outputs_from connection (output ∷ outputs) = output_line connection output ++ outputs_from (connection + 1) outputs

-- the lines of the outputs of connections, from 0 on
abbrev pub outputs_text : List (List ℕ) → List ℕ
outputs_text outputs = outputs_from 0 outputs

-- the line of a connection's message that is refused, each by its number, with the name of the code
abbrev pub fault_line : ℕ → ℕ → List ℕ → List ℕ
fault_line connection message name =
    codes "refused " ++ decimal connection ++ space ∷ decimal message ++ space ∷ name ++ line_feed ∷ []
