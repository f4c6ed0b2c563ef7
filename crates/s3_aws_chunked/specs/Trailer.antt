-- The trailer that may stand behind the chunks of a body: a checksum of their data, and its signature (Amazon S3 API
-- Reference, "Signature calculations for trailing headers included in the payload (chunked uploads)").
use Rattle.std.specs.Prelude.{◌≡◌, ℕ, ◌+◌, ◌-◌, Bool, true, not, ◌&&◌, ◌||◌, nat_le, nat_lt, if◌then◌else◌, List, [], ◌∷◌, ◌++◌, length, take, drop, codes, Option, Some, None}
use Rattle.std.specs.Str.{bytes_eq, str_eq_ignore_ascii_case}
use Rattle.sha2.specs.Sha256.{sha256}
use Rattle.s3_text.specs.Characters.{colon, crlf, line_feed}
use Rattle.s3_text.specs.Digest.{is_hex_digest}
use Rattle.s3_signing.specs.Chain.{Link, trailer_signature}
use Rattle.s3_unsigned_chunks.specs.Body.{IsGap, is_value}
use Rattle.s3_aws_chunked.specs.declared.phase.Fault.{Fault}
use Rattle.s3_aws_chunked.specs.declared.phase.Fault.TheVariants.{Invalid, Forged}

-- a line as it is sent
abbrev pub line_text : List ℕ → List ℕ → List ℕ
line_text name value = name ++ (colon ∷ [] ++ (value ++ crlf))

-- the name of the line that says the signature
abbrev pub signature_name : List ℕ
signature_name = codes "x-amz-trailer-signature"

-- a trailer as it is sent: the line of the checksum, the line of the signature, and the end of a line. Behind the value one line
-- feed may stand, as the example there has it
abbrev pub trailer_text : List ℕ → List ℕ → List ℕ → List ℕ → List ℕ
trailer_text name value label signature = line_text name value ++ (line_text label signature ++ crlf)

-- what is signed of it: the line of the checksum, with its name in small letters and one line feed
abbrev pub signed_line : List ℕ → List ℕ → List ℕ
signed_line name value = name ++ (colon ∷ [] ++ (value ++ line_feed ∷ []))

-- the text is a trailer with this name, this value and this signature; the case of the names doesn't count
pub record IsTrailer (name text value signature : List ℕ) : Type 0 where
  pub spelled : List ℕ
  pub gap : List ℕ
  pub label : List ℕ
  pub named : str_eq_ignore_ascii_case spelled name ≡ true
  pub labelled : str_eq_ignore_ascii_case label signature_name ≡ true
  pub valued : is_value value ≡ true
  pub parted : IsGap gap
  pub signed : is_hex_digest signature ≡ true
  pub written : text ≡ trailer_text spelled (value ++ gap) label signature

-- ---- how it is read, which comes to that

-- a text has the form of a line of this name
abbrev pub is_line : List ℕ → List ℕ → Bool
is_line name line =
    let behind : List ℕ = drop (length name) line in
    let rest : List ℕ = drop 1 behind in
    str_eq_ignore_ascii_case (take (length name) line) name
    && bytes_eq (take 1 behind) (colon ∷ [])
    && bytes_eq (drop (length rest - 2) rest) crlf

-- the value in a line of this name
abbrev pub value_in : List ℕ → List ℕ → List ℕ
value_in name line = take (length line - 2 - (length name + 1)) (drop (length name + 1) line)

-- a text without one line feed at its end
unfoldable pub without_gap : List ℕ → List ℕ
without_gap text =
    if bytes_eq (drop (length text - 1) text) (line_feed ∷ []) then take (length text - 1) text else text

-- the value that the line of a checksum tells
abbrev pub told_in : List ℕ → List ℕ → List ℕ
told_in name line = without_gap (value_in name line)

-- how many bytes a trailer has beside the line of its checksum
abbrev pub trailer_end : ℕ
trailer_end = 92

-- the line of the checksum, and what stands behind it
abbrev pub checksum_line : List ℕ → List ℕ
checksum_line text = take (length text - trailer_end) text

abbrev pub behind_line : List ℕ → List ℕ
behind_line text = drop (length text - trailer_end) text

-- the signature, where the line of one and the end of a line stand at the end of a trailer
abbrev pub digest_in : List ℕ → Option (List ℕ)
digest_in text = if is_hex_digest text then Some text else None

abbrev pub signature_at : List ℕ → Option (List ℕ)
signature_at text =
    if not (is_line signature_name (take 90 (behind_line text))) || not (bytes_eq (drop 90 (behind_line text)) crlf) then None
    else digest_in (value_in signature_name (take 90 (behind_line text)))

-- what is wrong with a trailer of this signature, whose line has this hash
abbrev pub signature_fault : Link → List ℕ → Option (List ℕ) → Option Fault
signature_fault link hash None = Some Invalid
signature_fault link hash (Some signature) = if bytes_eq signature (trailer_signature link hash) then None else Some Forged

-- what is wrong with a trailer behind such chunks: its form, or its signature
unfoldable pub trailer_fault : Link → List ℕ → List ℕ → Option Fault
trailer_fault link name text =
    if nat_lt (length text) (length name + 96) then Some Invalid
    else if not (is_line name (checksum_line text)) then Some Invalid
    else if not (is_value (told_in name (checksum_line text))) then Some Invalid
    else signature_fault link (sha256 (signed_line name (told_in name (checksum_line text)))) (signature_at text)

-- so many bytes may be a trailer with a name of so many: there are 95 beside that and its value, which has 1 to 64, and maybe a
-- line feed
abbrev pub is_room : ℕ → ℕ → Bool
is_room size room = nat_le (size + 96) room && nat_le room (size + 160)

-- the value of a trailer with this name, where it has come
abbrev pub value_of_trailer : List ℕ → List ℕ → List ℕ
value_of_trailer name text =
    if nat_le (length name + 96) (length text) then told_in name (checksum_line text) else []

-- how much of a trailer has come, of so many bytes, behind so many bytes of the body
pub record TrailerState : Type 0 where
  pub bytes : List ℕ
  pub size : ℕ
  pub front : ℕ

-- how many bytes of a body were taken, of which the trailer has this, and so many were taken before
abbrev pub taken_with : ℕ → ℕ → List ℕ → ℕ
taken_with size front trailer = if nat_lt 0 size then front + length trailer else front
