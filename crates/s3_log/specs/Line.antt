-- The line that tells of a message: a JSON object (RFC 8259), whose members stand in this order, and a line feed.
use Rattle.std.specs.Prelude.{ℕ, Bool, ◌&&◌, if◌then◌else◌, nat_lt, List, [], ◌∷◌, ◌++◌, length, flat_map, codes, Option, Some, None, option_map}
use Rattle.std.specs.Str.{is_utf8}
use Rattle.json.specs.Print.{quoted}
use Rattle.json.specs.Run.{is_plain}
use Rattle.s3_documents.specs.Printed.{told}
use Rattle.s3_documents.specs.Timestamp.{timestamp}
use Rattle.s3_documents.specs.Tree.{Fields, Value, leaves, moment, number, text, tree_text, value_text}
use Rattle.s3_text.specs.Characters.{line_feed}
use Rattle.s3_text.specs.Digits.{number_digits}
use Rattle.s3_terms.specs.Code.{name_of}
use Rattle.s3_terms.specs.Status.{number_of}
use Rattle.s3_terms.specs.declared.code.Code.{Code}
use Rattle.s3_log.specs.KeyId.{key_id}
use Rattle.s3_log.specs.Operation.{operation_of}
use Rattle.s3_log.specs.Query.{shown_query}
use Rattle.s3_log.specs.Request.{bucket_of, key_of, method_of, query_of}
use Rattle.s3_log.specs.declared.line.Message.{Message}
use Rattle.s3_driver.specs.declared.told.Told.{Told}

-- a text, if it isn't empty
abbrev pub some_text : List ℕ → Option Value
some_text bytes = if nat_lt 0 (length bytes) then Some (text bytes) else None

-- bytes, if they are a text (UTF-8) that isn't empty
abbrev pub text_told : List ℕ → Option Value
text_told bytes = if is_utf8 bytes then some_text bytes else None

-- the name of a code, if there is one
abbrev pub code_told : Option Code → Option Value
code_told code = option_map (λ c. text (name_of c)) code

-- the id of the access key of a head whose signature was verified
abbrev pub id_told : Bool → List ℕ → List ℕ
id_told is_verified head = if is_verified then key_id head (query_of head) else []

-- two texts, each under its name
abbrev pub texts_told : List ℕ → List ℕ → List ℕ → List ℕ → Fields
texts_told name one other_name other = told name (text_told one) ++ told other_name (text_told other)

-- the id of the request: the number of its answer as the reply has it
abbrev pub id_of : Option ℕ → List ℕ
id_of None = []
id_of (Some n) = number_digits n

-- who asks: the address of the peer, and the id of the request
abbrev pub front_fields : List ℕ → Option ℕ → Fields
front_fields peer counted = texts_told (codes "peer") peer (codes "request_id") (id_of counted)

-- what is told of a request: its operation and its method, its bucket and its key, its query, and the id of its access key
abbrev pub request_fields : List ℕ → List ℕ → List ℕ → List ℕ → List ℕ → List ℕ → Fields
request_fields operation method bucket key query id =
    texts_told (codes "operation") operation (codes "method") method ++ texts_told (codes "bucket") bucket (codes "key") key
    ++ texts_told (codes "query") (shown_query query) (codes "access_key") id

-- what the head of a message says of it
abbrev pub head_fields : Bool → List ℕ → Fields
head_fields is_verified head =
    request_fields (operation_of head) (method_of head) (bucket_of head) (key_of head) (query_of head) (id_told is_verified head)

-- what came of it
abbrev pub told_fields : Told → Fields
told_fields came = told (codes "status") (Some (number (number_of came.status))) ++ told (codes "code") (code_told came.code)

-- how many bytes were written for it, and how many microseconds it took since its head was whole
abbrev pub end_fields : ℕ → Option ℕ → Fields
end_fields bytes microseconds =
    told (codes "bytes") (Some (number bytes)) ++ told (codes "microseconds") (option_map number microseconds)

-- the moment of messages, and the number of their connection
pub record Begun : Type 0 where
  pub moment : ℕ
  pub connection : ℕ

-- what is told of one of them
abbrev pub message_fields : Begun → Message → Fields
message_fields begun m =
    told (codes "time") (Some (moment begun.moment)) ++ told (codes "connection") (Some (number begun.connection))
    ++ front_fields m.peer.now m.told.number ++ head_fields m.is_verified m.head.now ++ told_fields m.told ++ end_fields m.bytes m.microseconds

-- the line of a message
abbrev pub line_of : Begun → Message → List ℕ
line_of begun m = tree_text (leaves (message_fields begun m)) ++ line_feed ∷ []

-- The others serve the clauses of private functions alone.

-- what stands in front of a value behind others: a comma, a name and a colon
abbrev pub lead_of : List ℕ → List ℕ
lead_of name = 44 ∷ (quoted name ++ 58 ∷ [])

-- a value behind that, if there is one
abbrev pub led : List ℕ → Option Value → List ℕ
led lead None = []
led lead (Some value) = lead ++ value_text value

-- members as they stand behind others
abbrev pub member_behind : List ℕ × Value → List ℕ
member_behind member = lead_of member.0 ++ value_text member.1

abbrev pub behind : Fields → List ℕ
behind fields = flat_map member_behind fields

-- how the line of a message begins, and the whole document that tells no more
abbrev pub begun_fields : ℕ → ℕ → Fields
begun_fields time connection =
    told (codes "time") (Some (moment time)) ++ told (codes "connection") (Some (number connection))

abbrev pub beginning : ℕ → ℕ → List ℕ
beginning time connection =
    123 ∷ (quoted (codes "time") ++ (58 ∷ quoted (timestamp time)) ++ member_behind (codes "connection", number connection))

abbrev pub begun_document : ℕ → ℕ → List ℕ
begun_document time connection = tree_text (leaves (begun_fields time connection))

-- a character of ASCII that isn't escaped
abbrev pub is_usual : ℕ → Bool
is_usual byte = nat_lt byte 128 && is_plain byte

-- a text in quotes, of which nothing is escaped
abbrev pub in_quotes : List ℕ → List ℕ
in_quotes bytes = 34 ∷ (bytes ++ 34 ∷ [])

-- the same behind what stands in front of it, if it has bytes
abbrev pub led_plain : List ℕ → List ℕ → List ℕ
led_plain lead bytes = if nat_lt 0 (length bytes) then lead ++ in_quotes bytes else []

-- that so many lines were lost
abbrev pub lost_fields : ℕ → Fields
lost_fields count = told (codes "lost") (Some (number count))
