-- A presigned target, and the request that has it (Amazon S3 API Reference, "Authenticating requests: using query parameters
-- (AWS Signature Version 4)"; RFC 9112, sections 2 to 5).
use Rattle.std.specs.Prelude.{◌≡◌, ℕ, ◌≤◌, ◌==◌, Bool, true, false, if◌then◌else◌, List, [], ◌∷◌, ◌++◌, map, length, codes, Option, Some, None, is_some}
use Rattle.std.specs.Fmt.{decimal}
use Rattle.std.specs.List.{join_with_byte, list_all, list_any}
use Rattle.httparse.specs.Grammar.{RequestHead, is_value_byte, print_request}
use Rattle.s3_text.specs.Characters.{ampersand, equals_sign, question_mark}
use Rattle.s3_text.specs.Sorting.{sorted_by}
use Rattle.s3_http_heads.specs.BodyLength.{length_lines}
use Rattle.s3_http_heads.specs.Find.{head_limit}
use Rattle.s3_http_heads.specs.Head.{HeadParts, parts_of, values_of}
use Rattle.s3_http_heads.specs.Message.{IsMessage}
use Rattle.s3_canonical.specs.Encoding.{encode_query}
use Rattle.s3_signing.specs.Authorize.{credential_text}
use Rattle.s3_signing.specs.Names.{cover_of}
use Rattle.s3_signing.specs.Presigning.{IsVerifiedInTime, IsVerifiedWhileCurrent, SaysPresigned, presigned_signature}
use Rattle.s3_signer.specs.Request.{HeaderLine, ReadsBack, head_of, length_line, line_cmp, lower_line, tells_length}

-- a parameter: `name=value`, with its value encoded
abbrev pub parameter_text : List ℕ × List ℕ → List ℕ
parameter_text parameter = parameter.0 ++ equals_sign ∷ encode_query parameter.1

-- parameters, joined by ampersands
abbrev pub query_text : List (List ℕ × List ℕ) → List ℕ
query_text parameters = join_with_byte ampersand (map parameter_text parameters)

-- what joins a query to a target: a `?` where it has none, and else `&`
abbrev pub query_mark : List ℕ → ℕ
query_mark target = if list_any (λ b. b == question_mark) target then ampersand else question_mark

-- a target with more parameters
abbrev pub with_query : List ℕ → List ℕ → List ℕ
with_query target query = target ++ query_mark target ∷ query

-- the lines that a caller gives, with their names in lower case, sorted by name
abbrev pub lines_of : List HeaderLine → List HeaderLine
lines_of headers = sorted_by line_cmp (map lower_line headers)

-- the head of these lines at a target
abbrev pub head_at : List ℕ → List ℕ → List HeaderLine → RequestHead
head_at method target headers = head_of method target (lines_of headers)

-- the size of a body, where a request of this method tells it, and the line that does
abbrev pub told_size : List ℕ → List ℕ → Option ℕ
told_size method body = if tells_length method body then Some (length body) else None

abbrev pub size_line : Option ℕ → List HeaderLine
size_line None = []
size_line (Some size) = length_line size ∷ []

-- what is asked for, and by whom: a record, so that it is handed on as one; `tells_size` says whether the last of its
-- lines tells the size of a body
pub record Asked : Type 0 where
  pub id : List ℕ
  pub secret : List ℕ
  pub region : List ℕ
  pub method : List ℕ
  pub target : List ℕ
  pub headers : List HeaderLine
  pub tells_size : Bool
  pub stamp : List ℕ
  pub expires : ℕ

-- the names that are signed: those of all given lines
abbrev pub names_of : Asked → List ℕ
names_of a = cover_of (parts_of (head_at a.method a.target a.headers))

-- the parameters of the signing but the signature: they are signed
abbrev pub signing_parameters : Asked → List (List ℕ × List ℕ)
signing_parameters a =
    (codes "X-Amz-Algorithm", codes "AWS4-HMAC-SHA256")
    ∷ (codes "X-Amz-Credential", credential_text a.id a.stamp a.region)
    ∷ (codes "X-Amz-Date", a.stamp)
    ∷ (codes "X-Amz-Expires", decimal a.expires)
    ∷ (codes "X-Amz-SignedHeaders", names_of a)
    ∷ []

-- the target that is signed
unfoldable pub target_to_sign : Asked → List ℕ
target_to_sign a = with_query a.target (query_text (signing_parameters a))

-- and the head
abbrev pub head_to_sign : Asked → RequestHead
head_to_sign a = head_at a.method (target_to_sign a) a.headers

-- the same target with its signature
unfoldable pub target_text : Asked → List ℕ
target_text a =
    target_to_sign a ++ codes "&X-Amz-Signature=" ++ presigned_signature a.secret a.region (parts_of (head_to_sign a)) a.stamp

-- the head that has it
abbrev pub presigned_head : Asked → RequestHead
presigned_head a = head_at a.method (target_text a) a.headers

-- no control byte but the tab is in the id, so that it could sign in a line too
abbrev pub is_plain : List ℕ → Bool
is_plain id = list_all is_value_byte id

-- the head says what this signer presigns: its id is plain, and one line is the host's; one tells the size of the body
-- where that is told, and else none does
pub record IsReadyPresigned (a : Asked) (head : HeadParts) : Type 0 where
  pub plain : is_plain a.id ≡ true
  pub one_host : length (values_of (codes "host") head) ≡ 1
  pub one_size : length (length_lines head) ≡ (if a.tells_size then 1 else 0)
  pub says : SaysPresigned a.id a.secret a.region head a.stamp a.expires

-- it can be presigned: the heads that are written are read as they were meant, and the last one is no longer than a head
-- may be, and says what this signer presigns
pub record CanBePresigned (a : Asked) : Type 0 where
  pub signed : ReadsBack (head_to_sign a)
  pub short : length (print_request (presigned_head a)) ≤ head_limit
  pub written : ReadsBack (presigned_head a)
  pub ready : IsReadyPresigned a (parts_of (presigned_head a))

-- the same with the line that tells the size of this body, where it is told: like all lines that a signer adds, it is signed
abbrev pub sized : Asked → List ℕ → Asked
sized a body = record {
  id = a.id;
  secret = a.secret;
  region = a.region;
  method = a.method;
  target = a.target;
  headers = a.headers ++ size_line (told_size a.method body);
  tells_size = is_some (told_size a.method body);
  stamp = a.stamp;
  expires = a.expires;
}

-- the whole request
abbrev pub request_text_of : Asked → List ℕ → List ℕ
request_text_of a body = print_request (presigned_head (sized a body)) ++ body

-- it can be sent: it can be presigned, and the text is one message that says what was asked for
pub record CanBeSentPresigned (a : Asked) (body : List ℕ) : Type 0 where
  pub presigned : CanBePresigned (sized a body)
  pub message : IsMessage (request_text_of a body) (parts_of (presigned_head (sized a body))) body []

-- whoever uses this target with the method and the given lines is verified while it is current
abbrev pub IsVerifiedTargetOf : Asked → List ℕ → Type 0
IsVerifiedTargetOf a target =
    IsVerifiedWhileCurrent a.id a.secret a.region (parts_of (head_at a.method target a.headers)) a.stamp a.expires

-- the bytes are one message with this body, and its head is so verified
pub record IsVerifiedMessageOf (a : Asked) (body bytes : List ℕ) : Type 0 where
  pub head : HeadParts
  pub message : IsMessage bytes head body []
  pub verified : IsVerifiedInTime a.id a.secret a.region (parts_of (presigned_head (sized a body))) a.stamp a.expires head

-- ---- the same by the parts of what is asked for

abbrev pub asked : List ℕ → List ℕ → List ℕ → List ℕ → List ℕ → List HeaderLine → List ℕ → ℕ → Asked
asked id secret region method target headers stamp expires = record {
  id = id;
  secret = secret;
  region = region;
  method = method;
  target = target;
  headers = headers;
  tells_size = false;
  stamp = stamp;
  expires = expires;
}

-- the presigned target
abbrev pub presigned_target_text : List ℕ → List ℕ → List ℕ → List ℕ → List ℕ → List HeaderLine → List ℕ → ℕ → List ℕ
presigned_target_text id secret region method target headers stamp expires =
    target_text (asked id secret region method target headers stamp expires)

-- it can be presigned
abbrev pub IsPresignable : List ℕ → List ℕ → List ℕ → List ℕ → List ℕ → List HeaderLine → List ℕ → ℕ → Type 0
IsPresignable id secret region method target headers stamp expires =
    CanBePresigned (asked id secret region method target headers stamp expires)

-- whoever uses it is verified while it is current
abbrev pub IsVerifiedTarget : List ℕ → List ℕ → List ℕ → List ℕ → List ℕ → List HeaderLine → List ℕ → ℕ → List ℕ → Type 0
IsVerifiedTarget id secret region method target headers stamp expires text =
    IsVerifiedTargetOf (asked id secret region method target headers stamp expires) text

-- the presigned request with this body
abbrev pub presigned_request_text : List ℕ → List ℕ → List ℕ → List ℕ → List ℕ → List HeaderLine → List ℕ → List ℕ → ℕ → List ℕ
presigned_request_text id secret region method target headers body stamp expires =
    request_text_of (asked id secret region method target headers stamp expires) body

-- it can be presigned and sent
abbrev pub IsPresignableWith : List ℕ → List ℕ → List ℕ → List ℕ → List ℕ → List HeaderLine → List ℕ → List ℕ → ℕ → Type 0
IsPresignableWith id secret region method target headers body stamp expires =
    CanBeSentPresigned (asked id secret region method target headers stamp expires) body

-- the bytes are a message with this body that is verified while it is current
abbrev pub IsVerifiedPresigned : List ℕ → List ℕ → List ℕ → List ℕ → List ℕ → List HeaderLine → List ℕ → List ℕ → ℕ → List ℕ → Type 0
IsVerifiedPresigned id secret region method target headers body stamp expires bytes =
    IsVerifiedMessageOf (asked id secret region method target headers stamp expires) body bytes
