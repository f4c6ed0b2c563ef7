-- The value of the Authorization header (AWS Signature Version 4, "Using the Authorization header").
use Rattle.std.specs.Prelude.{ℕ, Bool, not, ◌&&◌, ◌==◌, nat_eq, nat_lt, if◌then◌else◌, List, [], ◌∷◌, length, drop, codes, Option, Some, None, option_and_then}
use Rattle.std.specs.List.{list_all, list_any, starts_with}
use Rattle.std.specs.Char.{is_ascii_uppercase}
use Rattle.std.specs.Str.{bytes_eq}
use Rattle.httparse.specs.Grammar.{is_token}
use Rattle.s3_text.specs.Characters.{comma, semicolon, slash, space}
use Rattle.s3_text.specs.Cut.{parts_at}
use Rattle.s3_text.specs.Digest.{is_hex_digest}
use Rattle.s3_text.specs.Order.{rises}

-- the parts of an authorization: the access key's id with its scope, the signed names as they were sent,
-- joined by semicolons, and the signature
pub record Parts : Type 0 where
  pub id : List ℕ
  pub date : List ℕ
  pub region : List ℕ
  pub service : List ℕ
  pub signed : List ℕ
  pub signature : List ℕ

-- the name of a signed header: a token of RFC 9110, section 5.6.2, without capital letters
abbrev pub is_signed_name : List ℕ → Bool
is_signed_name name = is_token name && not (list_any is_ascii_uppercase name)

-- the names, joined by semicolons, may stand as the signed ones
abbrev pub are_signed_names : List ℕ → Bool
are_signed_names signed = list_all is_signed_name (parts_at semicolon signed) && rises (parts_at semicolon signed)

-- the parts hold what the form asks for
abbrev pub are_parts : Parts → Bool
are_parts p = nat_lt 0 (length p.id) && are_signed_names p.signed && is_hex_digest p.signature

-- the parts, if they do
abbrev pub checked_parts : Parts → Option Parts
checked_parts p = if are_parts p then Some p else None

-- the parts with this credential, which was cut at its slashes: `id/date/region/service/aws4_request`
abbrev pub with_credential : List ℕ → List ℕ → List (List ℕ) → Option Parts
with_credential signed signature (id ∷ date ∷ region ∷ service ∷ last ∷ []) =
    if bytes_eq last (codes "aws4_request")
    then checked_parts (record { id = id; date = date; region = region; service = service; signed = signed; signature = signature })
    else None
with_credential signed signature other = None

-- the text behind a beginning that it has to have
abbrev pub behind : List ℕ → List ℕ → Option (List ℕ)
behind front text = if starts_with nat_eq text front then Some (drop (length front) text) else None

-- the text without the spaces that it begins with
abbrev pub skip_spaces : List ℕ → List ℕ
skip_spaces [] = []
skip_spaces (b ∷ rest) = if b == space then skip_spaces rest else b ∷ rest

-- the scheme's name and the space that has to follow it
abbrev pub scheme : List ℕ
scheme = codes "AWS4-HMAC-SHA256 "

-- the credential of the first part, behind the scheme and more spaces
abbrev pub credential_at : List ℕ → Option (List ℕ)
credential_at text = option_and_then (λ rest. behind (codes "Credential=") (skip_spaces rest)) (behind scheme text)

-- the signed names of the second part, behind spaces
abbrev pub signed_at : List ℕ → Option (List ℕ)
signed_at text = behind (codes "SignedHeaders=") (skip_spaces text)

-- the signature of the third part, behind spaces
abbrev pub signature_at : List ℕ → Option (List ℕ)
signature_at text = behind (codes "Signature=") (skip_spaces text)

-- what three parts say, and no other number of them
abbrev pub three_parts : List (List ℕ) → Option Parts
three_parts (first ∷ second ∷ third ∷ []) =
    option_and_then (λ credential.
    option_and_then (λ signed.
    option_and_then (λ signature. with_credential signed signature (parts_at slash credential))
    (signature_at third)) (signed_at second)) (credential_at first)
three_parts other = None

-- the parts that a value says: it is cut at its commas
unfoldable pub authorization_of : List ℕ → Option Parts
authorization_of text = three_parts (parts_at comma text)

-- the parts that a credential, the signed names and a signature say, each by itself: as the query of a presigned
-- request has them. No comma stands in the credential, since none can in that of a header's value.
unfoldable pub parts_with : List ℕ → List ℕ → List ℕ → Option Parts
parts_with credential signed signature =
    if list_any (λ b. b == comma) credential then None else with_credential signed signature (parts_at slash credential)
