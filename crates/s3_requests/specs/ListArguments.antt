-- The arguments of lists: of ListObjects, ListObjectsV2, ListObjectVersions, ListMultipartUploads and ListParts (Amazon S3 API
-- Reference, "URI Request Parameters" of each): of a parameter the first occurrence counts, and one that is there with an empty
-- value is there.
use Rattle.std.specs.Prelude.{ℕ, Bool, true, false, not, ◌&&◌, ◌==◌, min, List, [], length, codes, Option, Some, None, option_map, ok_or, Result, Ok}
use Rattle.std.specs.List.{list_all}
use Rattle.std.specs.Option.{unwrap_or}
use Rattle.std.specs.Str.{bytes_eq}
use Rattle.hex.specs.Hex.{decode_of}
use Rattle.s3_text.specs.Characters.{is_lower_hex}
use Rattle.s3_text.specs.Digits.{decimal_number}
use Rattle.s3_terms.specs.Fault.{refuse, ◌>>◌, ◌>>=◌}
use Rattle.s3_terms.specs.declared.code.Code.{Code}
use Rattle.s3_terms.specs.declared.code.Code.TheVariants.{InvalidArgument, NotImplemented}
use Rattle.s3_terms.specs.declared.dialect.Dialect.{Dialect}
use Rattle.s3_terms.specs.declared.dialect.Dialect.TheVariants.{Json, S3}
use Rattle.s3_names.specs.Ids.{upload_id}
use Rattle.s3_names.specs.declared.ids.VersionId.{VersionId}
use Rattle.s3_http_heads.specs.Target.{TargetParts, first_parameter, has_parameter}
use Rattle.s3_prefixes.specs.Text.{text_read}
use Rattle.s3_prefixes.specs.declared.asked.ListVersion.{ListVersion}
use Rattle.s3_prefixes.specs.declared.asked.ListVersion.TheVariants.{First, Second}
use Rattle.s3_prefixes.specs.declared.asked.ObjectsAsked.{ObjectsAsked}
use Rattle.s3_listings.specs.declared.asked.PartsAsked.{PartsAsked}
use Rattle.s3_listings.specs.declared.asked.UploadsAsked.{UploadsAsked}
use Rattle.s3_listings.specs.declared.asked.VersionsAsked.{VersionsAsked}
use Rattle.s3_requests.specs.declared.list_arguments.KeysAsked.{KeysAsked}
use Rattle.s3_requests.specs.Arguments.{as_argument, version_argument}
use Rattle.s3_requests.specs.Operations.{is_xml}

-- the value of a parameter; an absent one has the empty value
abbrev pub value_of : List ℕ → TargetParts → List ℕ
value_of name target = unwrap_or (first_parameter name target) []

-- a text, which is empty where it is absent
abbrev pub text_argument : List ℕ → TargetParts → Result (List ℕ) Code
text_argument name target = text_read (value_of name target)

-- a text, if one is there
abbrev pub text_named : Option (List ℕ) → Result (Option (List ℕ)) Code
text_named None = Ok None
text_named (Some value) = do
  text ← text_read value
  Ok (Some text)

-- the bytes that lower-case hexadecimal digits spell, two of them each
unfoldable pub bytes_spelled : List ℕ → Result (List ℕ) Code
bytes_spelled digits = do
  refuse (not (list_all is_lower_hex digits)) InvalidArgument
  as_argument (decode_of digits)

-- the text that they spell
abbrev pub text_spelled : List ℕ → Result (List ℕ) Code
text_spelled digits = do
  bytes ← bytes_spelled digits
  text_read bytes

-- the text behind which the list goes on, if there is one
abbrev pub token_named : Option (List ℕ) → Result (Option (List ℕ)) Code
token_named None = Ok None
token_named (Some digits) = do
  text ← text_spelled digits
  Ok (Some text)

-- the number that 1 to 9 decimal digits spell; where it isn't said, this one
abbrev pub number_named : ℕ → Option (List ℕ) → Result ℕ Code
number_named otherwise None = Ok otherwise
number_named otherwise (Some text) = ok_or (decimal_number 9 text) InvalidArgument

-- how many items a page has at most: more than 1,000 are 1,000, as many as where it isn't said
unfoldable pub count_named : Option (List ℕ) → Result ℕ Code
count_named named = do
  number ← number_named 1_000 named
  Ok (min 1_000 number)

-- the list is to go on behind an id, and the key is empty, whose it would be
abbrev pub lacks_key : List ℕ → List ℕ → TargetParts → Bool
lacks_key name key target = has_parameter name target && length key == 0

-- the version of the key behind which the list goes on, if there is one
unfoldable pub version_marker : List ℕ → TargetParts → Result (Option VersionId) Code
version_marker key target = do
  refuse (lacks_key (codes "version-id-marker") key target) InvalidArgument
  version_argument (codes "version-id-marker") target

-- the upload whose id a marker is, if one is there
abbrev pub upload_marked : Option (List ℕ) → Result (Option ℕ) Code
upload_marked None = Ok None
upload_marked (Some text) = ok_or (option_map Some (upload_id text)) InvalidArgument

-- the upload to the key behind which the list goes on, if there is one
unfoldable pub upload_marker : List ℕ → TargetParts → Result (Option ℕ) Code
upload_marker key target = do
  refuse (lacks_key (codes "upload-id-marker") key target) InvalidArgument
  upload_marked (first_parameter (codes "upload-id-marker") target)

-- keys are to be told UriEncoded, where an encoding is named; there is no other one
abbrev pub encoding_named : Option (List ℕ) → Result Bool Code
encoding_named None = Ok false
encoding_named (Some name) = do
  refuse (not (bytes_eq name (codes "url"))) InvalidArgument
  Ok true

-- the same of a request: JSON has all keys as they are
abbrev pub encoding_asked : Dialect → TargetParts → Result Bool Code
encoding_asked Json target = Ok false
encoding_asked S3 target = encoding_named (first_parameter (codes "encoding-type") target)

-- the owners of objects are to be told: always in a list of the first version, and in one of the second where documents are XML
-- and the request asks for them
abbrev pub owner_asked : Dialect → ListVersion → TargetParts → Bool
owner_asked dialect First target = true
owner_asked dialect Second target = is_xml dialect && bytes_eq (value_of (codes "fetch-owner") target) (codes "true")

-- the key and the item behind which a list of objects goes on, if they are there: the first version names an item by its text,
-- the second a key by its text and an item by its token
unfoldable pub places_of : ListVersion → TargetParts → Result (Option (List ℕ) × Option (List ℕ)) Code
places_of First target = do
  marker ← text_named (first_parameter (codes "marker") target)
  Ok (None, marker)
places_of Second target = do
  start_after ← text_named (first_parameter (codes "start-after") target)
  token ← token_named (first_parameter (codes "continuation-token") target)
  Ok (start_after, token)

-- what is asked of a list of objects
unfoldable pub objects_asked_of : Dialect → ListVersion → TargetParts → Result ObjectsAsked Code
objects_asked_of dialect version target = do
  max_keys ← count_named (first_parameter (codes "max-keys") target)
  prefix ← text_argument (codes "prefix") target
  delimiter ← text_argument (codes "delimiter") target
  places ← places_of version target
  is_url_encoded ← encoding_asked dialect target
  Ok (record {
    version = version;
    prefix = prefix;
    delimiter = delimiter;
    start_after = places.0;
    token = places.1;
    max_keys = max_keys;
    is_url_encoded = is_url_encoded;
    tells_owner = owner_asked dialect version target;
  })

-- common prefixes are asked for; an empty delimiter counts as absent
abbrev pub has_delimiter : TargetParts → Bool
has_delimiter target = not (length (value_of (codes "delimiter") target) == 0)

-- which a list of versions or of uploads doesn't have where documents are JSON
abbrev pub lacks_prefixes : Dialect → TargetParts → Bool
lacks_prefixes Json target = has_delimiter target
lacks_prefixes S3 target = false

-- what is asked of a list of versions or of uploads, but for the id behind which it goes on
unfoldable pub keys_asked_of : Dialect → List ℕ → TargetParts → Result KeysAsked Code
keys_asked_of dialect count target = do
  refuse (lacks_prefixes dialect target) NotImplemented
  most ← count_named (first_parameter count target)
  prefix ← text_argument (codes "prefix") target
  delimiter ← text_argument (codes "delimiter") target
  key_marker ← text_argument (codes "key-marker") target
  is_url_encoded ← encoding_asked dialect target
  Ok (record { prefix = prefix; delimiter = delimiter; key_marker = key_marker; most = most; is_url_encoded = is_url_encoded })

-- what is asked of a list of versions
unfoldable pub versions_asked_of : Dialect → TargetParts → Result VersionsAsked Code
versions_asked_of dialect target = do
  keys ← keys_asked_of dialect (codes "max-keys") target
  id_marker ← version_marker keys.key_marker target
  Ok (record {
    prefix = keys.prefix;
    delimiter = keys.delimiter;
    key_marker = keys.key_marker;
    id_marker = id_marker;
    max_keys = keys.most;
    is_url_encoded = keys.is_url_encoded;
  })

-- what is asked of a list of uploads
unfoldable pub uploads_asked_of : Dialect → TargetParts → Result UploadsAsked Code
uploads_asked_of dialect target = do
  keys ← keys_asked_of dialect (codes "max-uploads") target
  id_marker ← upload_marker keys.key_marker target
  Ok (record {
    prefix = keys.prefix;
    delimiter = keys.delimiter;
    key_marker = keys.key_marker;
    id_marker = id_marker;
    max_uploads = keys.most;
    is_url_encoded = keys.is_url_encoded;
  })

-- what is asked of a list of parts: those behind a number, or all
unfoldable pub parts_asked_of : TargetParts → Result PartsAsked Code
parts_asked_of target = do
  max_parts ← count_named (first_parameter (codes "max-parts") target)
  marker ← number_named 0 (first_parameter (codes "part-number-marker") target)
  Ok (record { marker = marker; max_parts = max_parts })
