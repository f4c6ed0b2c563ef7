-- Where the body of a message ends (RFC 9112, section 6), and the faults that are judged first.
use Rattle.std.specs.Prelude.{ℕ, Bool, false, ◌&&◌, ◌==◌, not, nat_lt, if◌then◌else◌, List, [], ◌∷◌, length, codes, Option, Some, None, option_and_then, ok_or, Result, Ok, Err}
use Rattle.std.specs.List.{after_first}
use Rattle.std.specs.Str.{bytes_eq, str_to_ascii_lowercase}
use Rattle.s3_text.specs.Characters.{slash}
use Rattle.s3_text.specs.Digits.{decimal_number}
use Rattle.s3_terms.specs.Fault.{refuse, ◌>>◌, ◌>>=◌}
use Rattle.s3_terms.specs.declared.code.Code.{Code}
use Rattle.s3_terms.specs.declared.code.Code.TheVariants.{NotImplemented, InvalidRequest, MissingContentLength, EntityTooLarge}
use Rattle.s3_terms.specs.declared.dialect.Dialect.{Dialect}
use Rattle.s3_terms.specs.declared.dialect.Dialect.TheVariants.{Json, S3}
use Rattle.s3_http_heads.specs.declared.body_length.BodyFraming.{BodyFraming}
use Rattle.s3_http_heads.specs.declared.body_length.BodyFraming.TheVariants.{Sized, Coded}
use Rattle.s3_http_heads.specs.Method.{method_of, is_put}
use Rattle.s3_http_heads.specs.Head.{HeadParts, values_of, only, is_sent}
use Rattle.s3_http_heads.specs.Target.{address_of}

-- what the lines of Content-Length announce: no bytes where there is no line, and nothing where they are no
-- single count of 1 to 18 decimal digits
abbrev pub announced : List (List ℕ) → Option ℕ
announced [] = Some 0
announced (value ∷ []) = decimal_number 18 value
announced (value ∷ other ∷ others) = None

-- the lines of Content-Length
abbrev pub length_lines : HeadParts → List (List ℕ)
length_lines parts = values_of (codes "content-length") parts

-- how many bytes of data a body in signed chunks has, where one line says it in 1 to 18 decimal digits
abbrev pub decoded_length : HeadParts → Option ℕ
decoded_length parts =
    option_and_then (decimal_number 18) (only (values_of (codes "x-amz-decoded-content-length") parts))

-- a byte follows the second slash of the path
abbrev pub names_key : List ℕ → Bool
names_key target =
    nat_lt 0 (length (after_first (λ b. b == slash) (address_of target)))

-- a put of an object's bytes, which says how many there are
abbrev pub needs_length : HeadParts → Bool
needs_length parts =
    is_put (method_of parts.method) && names_key parts.target
    && not (is_sent (codes "x-amz-copy-source") parts)

-- a value names the chunked transfer coding, in any case (RFC 9112, 7)
abbrev pub is_chunked : Option (List ℕ) → Bool
is_chunked None = false
is_chunked (Some value) = bytes_eq (str_to_ascii_lowercase value) (codes "chunked")

-- the coding tells where the body ends: the head is one of HTTP/1.1, the chunked coding is the only one, and no line says a
-- length beside it (RFC 9112, 6.1 and 6.3)
abbrev pub may_be_coded : HeadParts → Bool
may_be_coded parts =
    (parts.minor == 1) && is_chunked (only (values_of (codes "transfer-encoding") parts)) && not (is_sent (codes "content-length") parts)

-- how the end of a body is told whose length isn't known, past what is wrong with that, in its order; the head has to say how
-- many bytes of data come
unfoldable pub coded_framing : HeadParts → ℕ → Result BodyFraming Code
coded_framing parts limit = do
  refuse (not (may_be_coded parts)) InvalidRequest
  refuse (not (is_sent (codes "x-amz-decoded-content-length") parts)) NotImplemented
  decoded ← ok_or (decoded_length parts) InvalidRequest
  refuse (nat_lt limit decoded) EntityTooLarge
  Ok (Coded limit decoded)

-- the same of a body whose length is said
unfoldable pub sized_framing : HeadParts → ℕ → Result BodyFraming Code
sized_framing parts limit = do
  length ← ok_or (announced (length_lines parts)) InvalidRequest
  refuse (needs_length parts && not (is_sent (codes "content-length") parts)) MissingContentLength
  refuse (nat_lt limit length) EntityTooLarge
  Ok (Sized length)

-- a body may be in a transfer coding in S3's dialect alone
abbrev pub framing_with_coding : Dialect → HeadParts → ℕ → Result BodyFraming Code
framing_with_coding Json parts limit = Err NotImplemented
framing_with_coding S3 parts limit = coded_framing parts limit

-- how the end of the body is told, past what is wrong with the framing, where it may have so many bytes as it is sent, or of data
-- in a transfer coding
unfoldable pub framing_of : Dialect → HeadParts → ℕ → Result BodyFraming Code
framing_of dialect parts limit =
    if is_sent (codes "transfer-encoding") parts then framing_with_coding dialect parts limit else sized_framing parts limit
