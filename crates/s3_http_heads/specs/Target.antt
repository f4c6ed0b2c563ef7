-- What a request target says (RFC 9112, section 3.2.1; Amazon S3 User Guide, "Path-style requests"). Its
-- escapes are read once (RFC 3986, section 2.1) and nothing is normalised; a `+` stands for itself; empty
-- pieces of the query are dropped, and a piece without `=` has the empty value.
use Rattle.std.specs.Prelude.{ℕ, Bool, false, not, ◌&&◌, ◌||◌, ◌==◌, nat_eq, nat_lt, List, [], ◌∷◌, map, filter, length, Option, option_map, Result, Ok}
use Rattle.std.specs.List.{find, list_any, before_first, after_first, starts_with}
use Rattle.std.specs.Char.{is_ascii_hexdigit}
use Rattle.std.specs.Str.{bytes_eq}
use Rattle.percent_encoding.specs.Percent.{percent_sign, percent_decode}
use Rattle.s3_text.specs.Characters.{ampersand, equals_sign, question_mark, slash}
use Rattle.s3_text.specs.Cut.{parts_at}
use Rattle.s3_terms.specs.Fault.{refuse, ◌>>◌}
use Rattle.s3_terms.specs.declared.code.Code.{Code}
use Rattle.s3_terms.specs.declared.code.Code.TheVariants.{InvalidURI}

-- two hexadecimal digits come first
abbrev pub begins_with_digits : List ℕ → Bool
begins_with_digits [] = false
begins_with_digits (high ∷ []) = false
begins_with_digits (high ∷ low ∷ rest) = is_ascii_hexdigit high && is_ascii_hexdigit low

-- a percent sign that two hexadecimal digits don't follow (RFC 3986, section 2.1)
unfoldable pub has_bad_escape : List ℕ → Bool
has_bad_escape [] = false
has_bad_escape (b ∷ rest) = (b == percent_sign && not (begins_with_digits rest)) || has_bad_escape rest

-- the target doesn't begin with `/`, or it has an escape that cannot be read
abbrev pub is_unreadable : List ℕ → Bool
is_unreadable target = not (starts_with nat_eq target (slash ∷ [])) || has_bad_escape target

-- the target up to its first `?`
abbrev pub path_of : List ℕ → List ℕ
path_of target = before_first (λ b. b == question_mark) target

-- what follows the first `?` of the target
abbrev pub query_of : List ℕ → List ℕ
query_of target = after_first (λ b. b == question_mark) target

-- the path behind its first slash
abbrev pub address_of : List ℕ → List ℕ
address_of target = after_first (λ b. b == slash) (path_of target)

-- the pieces of a query between the ampersands, but for the empty ones
abbrev pub pieces_of : List ℕ → List (List ℕ)
pieces_of query = filter (λ piece. nat_lt 0 (length piece)) (parts_at ampersand query)

-- the name and the value of a piece, both decoded
abbrev pub pair_of : List ℕ → List ℕ × List ℕ
pair_of piece = (percent_decode (before_first (λ b. b == equals_sign) piece), percent_decode (after_first (λ b. b == equals_sign) piece))

-- the path, decoded; the bucket, which stands before the next slash that was sent, and the key behind that,
-- both decoded; and the parameters of its query, decoded, in the order in which they were sent
pub record TargetParts : Type 0 where
  pub path : List ℕ
  pub bucket : List ℕ
  pub key : List ℕ
  pub parameters : List (List ℕ × List ℕ)

-- what a target says if it can be read
unfoldable pub target_parts : List ℕ → TargetParts
target_parts target = record {
  path = percent_decode (path_of target);
  bucket = percent_decode (before_first (λ b. b == slash) (address_of target));
  key = percent_decode (after_first (λ b. b == slash) (address_of target));
  parameters = map pair_of (pieces_of (query_of target));
}

-- what a target says, past one that cannot be read
unfoldable pub target_of : List ℕ → Result TargetParts Code
target_of target = do
  refuse (is_unreadable target) InvalidURI
  Ok (target_parts target)

-- a parameter has this name
abbrev pub has_parameter : List ℕ → TargetParts → Bool
has_parameter name target = list_any (λ parameter. bytes_eq parameter.0 name) target.parameters

-- the value of the first parameter of this name
abbrev pub first_parameter : List ℕ → TargetParts → Option (List ℕ)
first_parameter name target =
    option_map (λ (parameter : List ℕ × List ℕ). parameter.1)
    (find (λ (parameter : List ℕ × List ℕ). bytes_eq parameter.0 name) target.parameters)

-- the values of the parameters of this name, in their order
abbrev pub values_under : List ℕ → TargetParts → List (List ℕ)
values_under name target =
    map (λ (parameter : List ℕ × List ℕ). parameter.1)
    (filter (λ (parameter : List ℕ × List ℕ). bytes_eq parameter.0 name) target.parameters)
