-- The strings that are signed for a chunk and for a trailer, as they are fed to a code part by part.
use Rattle.std.proofs.Common.{◌≡◌, ℕ, List, [], ◌∷◌, ◌++◌, codes, append_assoc}
use Rattle.std.specs.List.{join_with_byte}
use Rattle.hex.specs.Hex.{encode_lower}
use Rattle.sha2.specs.Sha256.{sha256}
use Rattle.s3_calendar.specs.Moment.{stamp_date}
use Rattle.s3_signing.specs.Chain.{Link, chunk_signing_text, trailer_signing_text}

fed_parts : (scheme stamp date region service end previous empty digest : List ℕ) → ((((((((((([] ++ (scheme ++ 10 ∷ [])) ++ stamp) ++ 10 ∷ []) ++ date) ++ 47 ∷ []) ++ region) ++ (47 ∷ (service ++ 47 ∷ (end ++ 10 ∷ [])))) ++ previous) ++ 10 ∷ []) ++ empty) ++ 10 ∷ []) ++ digest ≡ join_with_byte 10 (scheme ∷ stamp ∷ join_with_byte 47 (date ∷ region ∷ service ∷ end ∷ []) ∷ previous ∷ empty ∷ digest ∷ [])
fed_parts scheme stamp date region service end previous empty digest = simp append_assoc

-- the parts, one after the other, are the text
pub fed_chunk_text : (link : Link) (hash : List ℕ) → ((((((((((([] ++ (codes "AWS4-HMAC-SHA256-PAYLOAD" ++ 10 ∷ [])) ++ link.stamp) ++ 10 ∷ []) ++ stamp_date link.stamp) ++ 47 ∷ []) ++ link.region) ++ (codes "/s3/aws4_request" ++ 10 ∷ [])) ++ link.previous) ++ 10 ∷ []) ++ encode_lower (sha256 [])) ++ 10 ∷ []) ++ encode_lower hash ≡ chunk_signing_text link hash
unfolding chunk_signing_text
fed_chunk_text link hash =
    fed_parts (codes "AWS4-HMAC-SHA256-PAYLOAD") link.stamp (stamp_date link.stamp) link.region (codes "s3") (codes "aws4_request") link.previous (encode_lower (sha256 [])) (encode_lower hash)

fed_trailer_parts : (scheme stamp date region service end previous digest : List ℕ) → ((((((((([] ++ (scheme ++ 10 ∷ [])) ++ stamp) ++ 10 ∷ []) ++ date) ++ 47 ∷ []) ++ region) ++ (47 ∷ (service ++ 47 ∷ (end ++ 10 ∷ [])))) ++ previous) ++ 10 ∷ []) ++ digest ≡ join_with_byte 10 (scheme ∷ stamp ∷ join_with_byte 47 (date ∷ region ∷ service ∷ end ∷ []) ∷ previous ∷ digest ∷ [])
fed_trailer_parts scheme stamp date region service end previous digest = simp append_assoc

-- the same of a trailer
pub fed_trailer_text : (link : Link) (hash : List ℕ) → ((((((((([] ++ (codes "AWS4-HMAC-SHA256-TRAILER" ++ 10 ∷ [])) ++ link.stamp) ++ 10 ∷ []) ++ stamp_date link.stamp) ++ 47 ∷ []) ++ link.region) ++ (codes "/s3/aws4_request" ++ 10 ∷ [])) ++ link.previous) ++ 10 ∷ []) ++ encode_lower hash ≡ trailer_signing_text link hash
unfolding trailer_signing_text
fed_trailer_text link hash =
    fed_trailer_parts (codes "AWS4-HMAC-SHA256-TRAILER") link.stamp (stamp_date link.stamp) link.region (codes "s3") (codes "aws4_request") link.previous (encode_lower hash)
