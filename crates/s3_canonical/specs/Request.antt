-- The canonical headers and the canonical request (AWS Signature Version 4, "Create a canonical
-- request").
use Rattle.std.specs.Prelude.{ℕ, nat_eq, if◌then◌else◌, List, [], ◌∷◌, ◌++◌, map}
use Rattle.std.specs.List.{join_with_byte, flat_map, starts_with}
use Rattle.s3_text.specs.Characters.{colon, comma, line_feed, semicolon, space}
use Rattle.s3_text.specs.Cut.{parts_at}
use Rattle.s3_http_heads.specs.Head.{HeadParts, values_of}
use Rattle.s3_http_heads.specs.Target.{target_parts}
use Rattle.s3_canonical.specs.CanonicalTarget.{canonical_uri, canonical_query}

-- the text with each run of spaces made one: a space goes where another one follows it
unfoldable pub single_spaced : List ℕ → List ℕ
single_spaced [] = []
single_spaced (b ∷ rest) =
    if starts_with nat_eq (b ∷ rest) (space ∷ space ∷ []) then single_spaced rest else b ∷ single_spaced rest

-- the names of SignedHeaders, which semicolons join
abbrev pub signed_names : List ℕ → List (List ℕ)
signed_names = parts_at semicolon

-- `name:value`, and a line feed. The values of a name's lines, which have no space or tab at their ends,
-- are joined by commas, and a name that was not sent has the empty value
abbrev pub canonical_line : HeadParts → List ℕ → List ℕ
canonical_line parts name =
    name ++ colon ∷ join_with_byte comma (map single_spaced (values_of name parts)) ++ line_feed ∷ []

-- the canonical headers: a line for each signed name
unfoldable pub canonical_headers : HeadParts → List ℕ → List ℕ
canonical_headers parts signed = flat_map (canonical_line parts) (signed_names signed)

-- the canonical request: method, URI, query, headers, signed names and payload word (the value of
-- `x-amz-content-sha256`), joined by line feeds
unfoldable pub canonical_request : HeadParts → List ℕ → List ℕ → List ℕ
canonical_request parts signed word =
    join_with_byte line_feed (
    parts.method
    ∷ canonical_uri (target_parts parts.target)
    ∷ canonical_query (target_parts parts.target)
    ∷ canonical_headers parts signed
    ∷ signed
    ∷ word
    ∷ [])
