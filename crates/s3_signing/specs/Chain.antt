-- The signatures of a body's chunks (AWS Signature Version 4, "Signature calculations for the authorization
-- header: transferring payload in multiple chunks").
use Rattle.std.specs.Prelude.{◌≡◌, ℕ, List, [], ◌∷◌, codes}
use Rattle.std.specs.List.{join_with_byte}
use Rattle.hex.specs.Hex.{encode_lower}
use Rattle.sha2.specs.Sha256.{sha256}
use Rattle.s3_calendar.specs.Moment.{stamp_date}
use Rattle.s3_hmac.specs.Hmac.{hmac}
use Rattle.s3_signing.specs.Key.{signing_key}
use Rattle.s3_signing.specs.Signature.{scope_text}
use Rattle.s3_signing.specs.Verdict.{Proved}

-- what the signature of a chunk is made with, besides its data: the stamp, the region, the key of the day,
-- and the signature before it
pub record Link : Type 0 where
  pub stamp : List ℕ
  pub region : List ℕ
  pub key : List ℕ
  pub previous : List ℕ

-- the string to sign: the scheme, the stamp, the scope, the signature before, and the hashes of no bytes and
-- of the chunk's data, joined by line feeds
unfoldable pub chunk_signing_text : Link → List ℕ → List ℕ
chunk_signing_text link hash =
    join_with_byte 10 (
    codes "AWS4-HMAC-SHA256-PAYLOAD"
    ∷ link.stamp
    ∷ scope_text (stamp_date link.stamp) link.region
    ∷ link.previous
    ∷ encode_lower (sha256 [])
    ∷ encode_lower hash
    ∷ [])

-- the signature of the next chunk, whose data has this hash
unfoldable pub next_signature : Link → List ℕ → List ℕ
next_signature link hash = encode_lower (hmac link.key (chunk_signing_text link hash))

-- the signature of the next chunk, which has this data
abbrev pub chunk_signature : Link → List ℕ → List ℕ
chunk_signature link bytes = next_signature link (sha256 bytes)

-- the string to sign of the trailer behind the chunks (Amazon S3 API Reference, "Signature calculations for trailing headers
-- included in the payload"): the scheme, the stamp, the scope, the signature before, and the hash of the trailer's lines,
-- joined by line feeds
unfoldable pub trailer_signing_text : Link → List ℕ → List ℕ
trailer_signing_text link hash =
    join_with_byte 10 (
    codes "AWS4-HMAC-SHA256-TRAILER"
    ∷ link.stamp
    ∷ scope_text (stamp_date link.stamp) link.region
    ∷ link.previous
    ∷ encode_lower hash
    ∷ [])

-- the signature of the trailer, whose lines have this hash
unfoldable pub trailer_signature : Link → List ℕ → List ℕ
trailer_signature link hash = encode_lower (hmac link.key (trailer_signing_text link hash))

-- what the signature after this one is made with
abbrev pub linked : Link → List ℕ → Link
linked link signature = record link { previous = signature }

-- each signature is the one of its own data over the signature before it
abbrev pub Chain : Link → List (List ℕ) → List (List ℕ) → Type 0
Chain link [] [] = Unit {0}
Chain link (bytes ∷ datas) (signature ∷ signatures) =
    (signature ≡ chunk_signature link bytes) × Chain (linked link signature) datas signatures
Chain link [] (signature ∷ signatures) = ⊥
Chain link (bytes ∷ datas) [] = ⊥

-- where the chain of a request's chunks begins: at the signature of its head
abbrev pub seed_of : Proved → Link
seed_of proved = record { stamp = proved.stamp; region = proved.region; key = proved.key; previous = proved.seed }

-- where a signer's chain begins: at this signature, with the key of the stamp's day
abbrev pub seed_with : List ℕ → List ℕ → List ℕ → List ℕ → Link
seed_with secret region stamp first =
    record { stamp = stamp; region = region; key = signing_key secret (stamp_date stamp) region; previous = first }
