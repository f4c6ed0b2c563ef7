-- The signature (AWS Signature Version 4, "Create a string to sign", "Calculate the signature").
use Rattle.std.specs.Prelude.{ℕ, List, [], ◌∷◌, codes}
use Rattle.std.specs.List.{join_with_byte}
use Rattle.hex.specs.Hex.{encode_lower}
use Rattle.sha2.specs.Sha256.{sha256}
use Rattle.s3_text.specs.Characters.{line_feed, slash}
use Rattle.s3_calendar.specs.Moment.{stamp_date}
use Rattle.s3_hmac.specs.Hmac.{hmac}
use Rattle.s3_http_heads.specs.Head.{HeadParts}
use Rattle.s3_canonical.specs.Request.{canonical_request}
use Rattle.s3_signing.specs.Key.{signing_key}

-- `date/region/s3/aws4_request`
abbrev pub scope_text : List ℕ → List ℕ → List ℕ
scope_text date region = join_with_byte slash (date ∷ region ∷ codes "s3" ∷ codes "aws4_request" ∷ [])

-- the scheme, the stamp, the scope and the hash of a canonical request, joined by line feeds
unfoldable pub signing_text : List ℕ → List ℕ → List ℕ → List ℕ
signing_text stamp region hash =
    join_with_byte line_feed (
    codes "AWS4-HMAC-SHA256"
    ∷ stamp
    ∷ scope_text (stamp_date stamp) region
    ∷ encode_lower hash
    ∷ [])

-- what is signed for a canonical request
abbrev pub string_to_sign : List ℕ → List ℕ → List ℕ → List ℕ
string_to_sign stamp region request = signing_text stamp region (sha256 request)

-- the signature of a head: which names were signed, and the word that stands for its body
unfoldable pub signature_of : List ℕ → List ℕ → List ℕ → HeadParts → List ℕ → List ℕ → List ℕ
signature_of secret stamp region parts signed word =
    encode_lower (hmac
    (signing_key secret (stamp_date stamp) region)
    (string_to_sign stamp region (canonical_request parts signed word)))
