-- UriEncode (AWS Signature Version 4, "Create a canonical request"; the unreserved bytes are those of
-- RFC 3986, section 2.3).
use Rattle.std.specs.Prelude.{ℕ, Bool, ◌||◌, ◌==◌, if◌then◌else◌, List, [], ◌∷◌}
use Rattle.std.specs.List.{flat_map}
use Rattle.std.specs.Char.{is_ascii_alphanumeric}
use Rattle.s3_text.specs.Characters.{slash, hyphen, dot, underscore, tilde}
use Rattle.percent_encoding.specs.Percent.{percent_encode_byte}

-- a letter, a digit, `-`, `.`, `_` or `~`
abbrev pub is_unreserved : ℕ → Bool
is_unreserved b = is_ascii_alphanumeric b || b == hyphen || b == dot || b == underscore || b == tilde

-- the bytes that pass the test as they are, and each other one as `%` and two upper-case digits
abbrev pub encode_but : (ℕ → Bool) → List ℕ → List ℕ
encode_but keeps bytes = flat_map (λ b. if keeps b then b ∷ [] else percent_encode_byte b) bytes

-- UriEncode of a path, in which the slashes stay
unfoldable pub encode_path : List ℕ → List ℕ
encode_path bytes = encode_but (λ b. is_unreserved b || b == slash) bytes

-- UriEncode of a name or a value of the query
unfoldable pub encode_query : List ℕ → List ℕ
encode_query bytes = encode_but is_unreserved bytes
