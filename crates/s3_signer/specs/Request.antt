-- A signed request as bytes (RFC 9112, sections 2 to 5; AWS Signature Version 4, "Add the signature to
-- the request").
use Rattle.std.specs.Prelude.{◌≡◌, ℕ, Bool, false, ◌||◌, nat_lt, if◌then◌else◌, List, [], ◌∷◌, ◌++◌, map, length, codes}
use Rattle.std.specs.Fmt.{decimal}
use Rattle.std.specs.List.{AllByRecursion}
use Rattle.std.specs.Str.{bytes_eq, str_to_ascii_lowercase}
use Rattle.std.specs.declared.cmp.Ordering.{Ordering}
use Rattle.std.specs.Borrow.{Bor}
use Rattle.hex.specs.Hex.{encode_lower}
use Rattle.sha2.specs.Sha256.{sha256}
use Rattle.httparse.specs.Grammar.{Field, RequestHead, crlf, print_request}
use Rattle.s3_text.specs.Characters.{space}
use Rattle.s3_text.specs.Order.{byte_order}
use Rattle.s3_http_heads.specs.Head.{HeadParts, Says, parts_of, values_of}
use Rattle.s3_http_heads.specs.BodyLength.{length_lines}
use Rattle.s3_http_heads.specs.Message.{IsMessage}
use Rattle.s3_text.specs.Sorting.{sorted_by}
use Rattle.s3_http_heads.specs.Target.{is_unreadable}
use Rattle.s3_signing.specs.Accepted.{proved_by}
use Rattle.s3_signing.specs.Authorize.{authorization_text}
use Rattle.s3_signing.specs.Verdict.{Proved}

-- a header line: its name and its value
abbrev pub HeaderLine : Type 0
HeaderLine = List ℕ × List ℕ

-- the lines that a caller gives
abbrev pub given_lines : List (Bor (List ℕ) × Bor (List ℕ)) → List HeaderLine
given_lines headers = map (λ (h : Bor (List ℕ) × Bor (List ℕ)). (h.0.now, h.1.now)) headers

-- the line with its name in lower case
abbrev pub lower_line : HeaderLine → HeaderLine
lower_line line = (str_to_ascii_lowercase line.0, line.1)

-- the order of lines: by their names
abbrev pub line_cmp : HeaderLine → HeaderLine → Ordering
line_cmp a b = byte_order a.0 b.0

-- how a request tells its body: the word that stands for it, how many bytes are sent and whether a line says so,
-- and the further lines on it
pub record Told : Type 0 where
  pub word : List ℕ
  pub size : ℕ
  pub sized : Bool
  pub more : List HeaderLine

-- the size of the body is told where there is a body, and by the methods that always send one (RFC
-- 9110, section 8.6)
abbrev pub tells_length : List ℕ → List ℕ → Bool
tells_length method body =
    bytes_eq method (codes "PUT") || bytes_eq method (codes "POST") || nat_lt 0 (length body)

-- a body that is sent as it is, under its hash
abbrev pub hashed : List ℕ → List ℕ → Told
hashed method body =
    record { word = encode_lower (sha256 body); size = length body; sized = tells_length method body; more = [] }

-- the line that tells how many bytes are sent
abbrev pub length_line : ℕ → HeaderLine
length_line size = (codes "content-length", decimal size)

-- the line with the word for the body
abbrev pub word_line : List ℕ → HeaderLine
word_line word = (codes "x-amz-content-sha256", word)

-- the line with the stamp
abbrev pub stamp_line : List ℕ → HeaderLine
stamp_line stamp = (codes "x-amz-date", stamp)

-- the lines that a signer adds
abbrev pub added_lines : Told → List ℕ → List HeaderLine
added_lines told stamp =
    word_line told.word
    ∷ stamp_line stamp
    ∷ ((if told.sized then length_line told.size ∷ [] else []) ++ told.more)

-- all lines but that of the authorization: those given and those added, with their names in lower case, sorted
-- by name, and those of one name as they were given
unfoldable pub unsigned_lines : List HeaderLine → Told → List ℕ → List HeaderLine
unsigned_lines headers told stamp =
    sorted_by line_cmp (map lower_line (headers ++ added_lines told stamp))

-- `name: value`
abbrev pub field_of : HeaderLine → Field
field_of line = record { name = line.0; raw = space ∷ line.1; end = crlf }

-- the head of these lines
abbrev pub head_of : List ℕ → List ℕ → List HeaderLine → RequestHead
head_of method target lines = record {
  blank = [];
  method = method;
  target = target;
  minor = 1;
  line_end = crlf;
  fields = map field_of lines;
  last = crlf;
}

-- the text of a head says what the head was meant to say
abbrev pub ReadsBack : RequestHead → Type 0
ReadsBack head = Says (print_request head) (parts_of head)

-- what is signed
abbrev pub unsigned_head : List ℕ → List ℕ → List HeaderLine → Told → List ℕ → RequestHead
unsigned_head method target headers told stamp =
    head_of method target (unsigned_lines headers told stamp)

-- the value that signs it
abbrev pub authorization_of : List ℕ → List ℕ → List ℕ → RequestHead → List ℕ → List ℕ
authorization_of id secret region head stamp =
    authorization_text id secret region (parts_of head) stamp

-- the line with that value
abbrev pub authorization_line : List ℕ → List ℕ → List ℕ → RequestHead → List ℕ → HeaderLine
authorization_line id secret region head stamp =
    (codes "authorization", authorization_of id secret region head stamp)

-- the same head with that line, the last
abbrev pub signed_head : List ℕ → List ℕ → List ℕ → List ℕ → List ℕ → List HeaderLine → Told → List ℕ → RequestHead
signed_head id secret region method target headers told stamp =
    head_of method target (
    unsigned_lines headers told stamp
    ++ authorization_line id secret region (unsigned_head method target headers told stamp) stamp
    ∷ [])

-- the signed head and a body
abbrev pub text_with : List ℕ → List ℕ → List ℕ → List ℕ → List ℕ → List HeaderLine → Told → List ℕ → List ℕ → List ℕ
text_with id secret region method target headers told stamp body =
    print_request (signed_head id secret region method target headers told stamp) ++ body

-- the signed request whose body is sent as it is
abbrev pub request_text : List ℕ → List ℕ → List ℕ → List ℕ → List ℕ → List HeaderLine → List ℕ → List ℕ → List ℕ
request_text id secret region method target headers body stamp =
    text_with id secret region method target headers (hashed method body) stamp body

-- what it proves to a server: the signer's key, and the word for its body
abbrev pub proved_of : List ℕ → List ℕ → List ℕ → List ℕ → List HeaderLine → Told → List ℕ → Proved
proved_of secret region method target headers told stamp =
    proved_by secret region (parts_of (unsigned_head method target headers told stamp)) stamp

-- the head has one line of this name, which is given in lower case, with this value
abbrev pub HasOne : HeadParts → HeaderLine → Type 0
HasOne head line = values_of line.0 head ≡ line.1 ∷ []

-- what is signed can be read; it has one line of the host, and of the signer's own names just the lines that
-- it adds itself: that of the body's size where that is told, those of the word and of the stamp, and the
-- further ones
pub record IsReadyFor (told : Told) (stamp : List ℕ) (head : HeadParts) : Type 0 where
  pub readable : is_unreadable head.target ≡ false
  pub one_host : length (values_of (codes "host") head) ≡ 1
  pub one_size : length (length_lines head) ≡ (if told.sized then 1 else 0)
  pub one_word : HasOne head (word_line told.word)
  pub one_stamp : HasOne head (stamp_line stamp)
  pub one_each : AllByRecursion (HasOne head) told.more

-- the request that tells its body so can be sent with this body: what is signed is ready for it, and the text is
-- one message that says what was asked for, which is the method, the target, HTTP/1.1, the lines in their order
-- with each value without the spaces and tabs around it, and the body; one of its lines is an authorization, the
-- signer's
pub record CanBeSent (id secret region method target : List ℕ) (headers : List HeaderLine) (told : Told) (stamp body : List ℕ) : Type 0 where
  pub ready : IsReadyFor told stamp (parts_of (unsigned_head method target headers told stamp))
  pub message : IsMessage (text_with id secret region method target headers told stamp body) (parts_of (signed_head id secret region method target headers told stamp)) body []
  pub own : HasOne (parts_of (signed_head id secret region method target headers told stamp)) (authorization_line id secret region (unsigned_head method target headers told stamp) stamp)

-- the request can be signed whose body is sent as it is
abbrev pub IsSignable : List ℕ → List ℕ → List ℕ → List ℕ → List ℕ → List HeaderLine → List ℕ → List ℕ → Type 0
IsSignable id secret region method target headers body stamp =
    CanBeSent id secret region method target headers (hashed method body) stamp body
