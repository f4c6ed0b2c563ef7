-- The canonical URI and the canonical query of what a target says (AWS Signature Version 4, "Create a
-- canonical request").
use Rattle.std.specs.Prelude.{ℕ, Bool, not, List, ◌∷◌, ◌++◌, map, filter, codes}
use Rattle.std.specs.List.{join_with_byte}
use Rattle.std.specs.Str.{bytes_eq}
use Rattle.std.specs.declared.cmp.Ordering.{Ordering}
use Rattle.std.specs.Ordering.{ordering_then}
use Rattle.s3_text.specs.Characters.{ampersand, equals_sign}
use Rattle.s3_text.specs.Order.{byte_order}
use Rattle.s3_http_heads.specs.Target.{TargetParts}
use Rattle.s3_text.specs.Sorting.{sorted_by}
use Rattle.s3_canonical.specs.Encoding.{encode_path, encode_query}

-- the canonical URI: the decoded path, encoded
unfoldable pub canonical_uri : TargetParts → List ℕ
canonical_uri target = encode_path target.path

-- a parameter with its name and its value encoded
abbrev pub encoded_pair : List ℕ × List ℕ → List ℕ × List ℕ
encoded_pair pair = (encode_query pair.0, encode_query pair.1)

-- the order of parameters: by name, and then by value
abbrev pub pair_cmp : List ℕ × List ℕ → List ℕ × List ℕ → Ordering
pair_cmp a b = ordering_then (byte_order a.0 b.0) (byte_order a.1 b.1)

-- the pairs in that order
abbrev pub sorted_pairs : List (List ℕ × List ℕ) → List (List ℕ × List ℕ)
sorted_pairs pairs = sorted_by pair_cmp pairs

-- `name=value`
abbrev pub print_pair : List ℕ × List ℕ → List ℕ
print_pair pair = pair.0 ++ equals_sign ∷ pair.1

-- the parameter is one that is signed: any but the signature itself, which a presigned request has in its query (Amazon
-- S3 API Reference, "Authenticating requests: using query parameters (AWS Signature Version 4)")
abbrev pub is_signed_parameter : List ℕ × List ℕ → Bool
is_signed_parameter parameter = not (bytes_eq parameter.0 (codes "X-Amz-Signature"))

-- the canonical query: the encoded parameters but the signature, in their order, joined by ampersands
unfoldable pub canonical_query : TargetParts → List ℕ
canonical_query target =
    join_with_byte ampersand (map print_pair (sorted_pairs (map encoded_pair (filter is_signed_parameter target.parameters))))
