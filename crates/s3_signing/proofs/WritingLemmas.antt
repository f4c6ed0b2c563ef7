-- The string to sign and the credential, as they are written part by part.
use Rattle.std.proofs.Common.{◌≡◌, ℕ, List, [], ◌∷◌, ◌++◌, codes, append_assoc, ◌∙◌}
use Rattle.std.proofs.lemmas.List.{append-nil}
use Rattle.std.specs.List.{join_with_byte}
use Rattle.hex.specs.Hex.{encode_lower}
use Rattle.s3_calendar.specs.Moment.{stamp_date}
use Rattle.s3_signing.specs.Signature.{signing_text}

fed_parts : (scheme stamp date region service end digest : List ℕ) → ((((((([] ++ (scheme ++ 10 ∷ [])) ++ stamp) ++ 10 ∷ []) ++ date) ++ 47 ∷ []) ++ region) ++ (47 ∷ (service ++ 47 ∷ (end ++ 10 ∷ [])))) ++ digest ≡ join_with_byte 10 (scheme ∷ stamp ∷ join_with_byte 47 (date ∷ region ∷ service ∷ end ∷ []) ∷ digest ∷ [])
fed_parts scheme stamp date region service end digest = simp append_assoc

-- the parts, one after the other, are the text
pub fed_text : (stamp region hash : List ℕ) → ((((((([] ++ (codes "AWS4-HMAC-SHA256" ++ 10 ∷ [])) ++ stamp) ++ 10 ∷ []) ++ stamp_date stamp) ++ 47 ∷ []) ++ region) ++ (codes "/s3/aws4_request" ++ 10 ∷ [])) ++ encode_lower hash ≡ signing_text stamp region hash
unfolding signing_text
fed_text stamp region hash =
    fed_parts (codes "AWS4-HMAC-SHA256") stamp (stamp_date stamp) region (codes "s3") (codes "aws4_request") (encode_lower hash)

credential_whole : (scheme id date region service end names rest : List ℕ) → scheme ++ (id ++ 47 ∷ (date ++ 47 ∷ (region ++ ((47 ∷ (service ++ 47 ∷ (end ++ names))) ++ rest)))) ≡ (scheme ++ (id ++ 47 ∷ join_with_byte 47 (date ∷ region ∷ service ∷ end ∷ []))) ++ (names ++ rest)
credential_whole scheme id date region service end names rest = simp append_assoc

ends_in : (front names signed last digits : List ℕ) → front ++ (names ++ (signed ++ (last ++ (digits ++ [])))) ≡ (((front ++ names) ++ signed) ++ last) ++ digits
ends_in front names signed last digits = simp (append_assoc, append-nil)

-- the value of an Authorization header, piece by piece
pub joined_authorization : (scheme id date region service end names signed last digits : List ℕ) → scheme ++ (id ++ 47 ∷ (date ++ 47 ∷ (region ++ ((47 ∷ (service ++ 47 ∷ (end ++ names))) ++ (signed ++ (last ++ (digits ++ []))))))) ≡ ((((scheme ++ (id ++ 47 ∷ join_with_byte 47 (date ∷ region ∷ service ∷ end ∷ []))) ++ names) ++ signed) ++ last) ++ digits
joined_authorization scheme id date region service end names signed last digits =
    credential_whole scheme id date region service end names (signed ++ (last ++ (digits ++ [])))
    ∙ ends_in (scheme ++ (id ++ 47 ∷ join_with_byte 47 (date ∷ region ∷ service ∷ end ∷ []))) names signed last digits
