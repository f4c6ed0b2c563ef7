-- What the head of a put, or of the beginning of an upload, says of its object: its media type and its metadata (Amazon S3 API
-- Reference, PutObject and CreateMultipartUpload, "Request headers"; Amazon S3 User Guide, "Working with object metadata").
use Rattle.std.specs.Prelude.{ℕ, Bool, not, ◌&&◌, ◌||◌, ◌==◌, if◌then◌else◌, List, [], ◌∷◌, map, filter, length, codes, Option, Some, None, Result, Ok}
use Rattle.std.specs.List.{dedup, filter_map, join_with_byte, list_any}
use Rattle.std.specs.Str.{bytes_eq, str_to_ascii_lowercase}
use Rattle.httparse.specs.Grammar.{trim_ows}
use Rattle.s3_text.specs.Characters.{comma}
use Rattle.s3_text.specs.Cut.{parts_at}
use Rattle.s3_text.specs.Order.{byte_order}
use Rattle.s3_text.specs.Sorting.{sorted_by}
use Rattle.s3_terms.specs.Fault.{◌>>=◌}
use Rattle.s3_terms.specs.declared.code.Code.{Code}
use Rattle.s3_terms.specs.declared.dialect.Dialect.{Dialect}
use Rattle.s3_http_heads.specs.Head.{HeadParts, first_value, values_of}
use Rattle.s3_machine.specs.declared.command.Description.{Description}
use Rattle.s3_versions.specs.ContentType.{content_type}
use Rattle.s3_versions.specs.Metadata.{Entry, is_user_defined, metadata, user_front}
use Rattle.s3_requests.specs.LineNames.{begins_with}
use Rattle.s3_requests.specs.Operations.{is_xml}

-- the media type of an object where none is named
abbrev pub default_type : List ℕ
default_type = codes "binary/octet-stream"

-- the type that was sent, or the default
abbrev pub type_sent : Option (List ℕ) → List ℕ
type_sent None = default_type
type_sent (Some sent) = sent

-- the media type: the value of the first Content-Type line
unfoldable pub content_type_of : HeadParts → Result (List ℕ) Code
content_type_of head = content_type (type_sent (first_value (codes "content-type") head))

-- how an object's bytes are coded
abbrev pub encoding_name : List ℕ
encoding_name = codes "content-encoding"

-- the names of the system-defined metadata that a writer sets, beside the media type
abbrev pub system_names : List (List ℕ)
system_names =
    codes "cache-control"
    ∷ codes "content-disposition"
    ∷ encoding_name
    ∷ codes "content-language"
    ∷ codes "expires"
    ∷ []

-- lines of this name, in capitals or not, are system-defined metadata
abbrev pub is_system_name : List ℕ → Bool
is_system_name sent = list_any (λ name. bytes_eq (str_to_ascii_lowercase sent) name) system_names

-- lines of this name are kept with an object; where documents are JSON, the user-defined ones alone
abbrev pub is_kept : Dialect → List ℕ → Bool
is_kept dialect sent = begins_with user_front sent || (is_xml dialect && is_system_name sent)

-- the name under which a line is kept, if it is: its own, in lower case
abbrev pub name_in : Dialect → List ℕ → Option (List ℕ)
name_in dialect sent = if is_kept dialect sent then Some (str_to_ascii_lowercase sent) else None

-- the names under which lines of a head are kept, in byte order, each once
abbrev pub names_of : Dialect → HeadParts → List (List ℕ)
names_of dialect head =
    dedup bytes_eq (sorted_by byte_order (filter_map (λ (line : List ℕ × List ℕ). name_in dialect line.0) head.headers))

-- the coding of a body that is sent in chunks with their signatures, which are not stored (Amazon S3 API Reference, "Signature
-- calculations for the Authorization header: transferring payload in multiple chunks")
abbrev pub is_of_transfer : List ℕ → Bool
is_of_transfer coding = bytes_eq (str_to_ascii_lowercase (trim_ows coding)) (codes "aws-chunked")

-- the codings between the commas without that one: what is stored has them
abbrev pub encoding_kept : List ℕ → List ℕ
encoding_kept value = trim_ows (join_with_byte comma (filter (λ coding. not (is_of_transfer coding)) (parts_at comma value)))

-- the values of the lines of a name, joined by commas
abbrev pub value_sent : HeadParts → List ℕ → List ℕ
value_sent head name = join_with_byte comma (values_of name head)

-- what is kept of them
abbrev pub value_kept : List ℕ → List ℕ → List ℕ
value_kept name value = if bytes_eq name encoding_name then encoding_kept value else value

-- a name with its value
abbrev pub entry_of : HeadParts → List ℕ → Entry
entry_of head name = record { name = name; value = value_kept name (value_sent head name) }

-- an entry that says something; a user-defined one may be empty
abbrev pub is_said : Entry → Bool
is_said entry = is_user_defined entry || not (length entry.value == 0)

-- the names with their values
abbrev pub entries_of : Dialect → HeadParts → List Entry
entries_of dialect head = filter is_said (map (entry_of head) (names_of dialect head))

-- the metadata
unfoldable pub metadata_of : Dialect → HeadParts → Result (List Entry) Code
metadata_of dialect head = metadata (entries_of dialect head)

-- what is said of the object
unfoldable pub description_of : Dialect → HeadParts → Result Description Code
description_of dialect head = do
  content_type ← content_type_of head
  metadata ← metadata_of dialect head
  Ok (record { content_type = content_type; metadata = metadata })
