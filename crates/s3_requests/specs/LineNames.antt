-- What the names of header lines are, and how they begin: their case doesn't count (RFC 9110, section 5.1).
use Rattle.std.specs.Prelude.{ℕ, Bool, List, length, take}
use Rattle.std.specs.Str.{bytes_eq, str_to_ascii_lowercase}

-- a name is this one, in capitals or not; it is given in lower case
abbrev pub is_called : List ℕ → List ℕ → Bool
is_called known name = bytes_eq (str_to_ascii_lowercase name) known

-- a name begins so, in capitals or not; the beginning is given in lower case
abbrev pub begins_with : List ℕ → List ℕ → Bool
begins_with front name = bytes_eq (str_to_ascii_lowercase (take (length front) name)) front
