-- The parts that a completion lists (Amazon S3 API Reference, CompleteMultipartUpload).
use Rattle.std.specs.Prelude.{ℕ, Bool, false, not, ◌&&◌, nat_le, List, [], ◌∷◌, length, codes, Option, option_map, option_and_then, is_some, ok_or, Result, Ok, ⊤}
use Rattle.std.specs.List.{list_all, filter_map}
use Rattle.std.specs.Option.{option_map_or}
use Rattle.serde_json.specs.Data.{Num, Data, Items, no_items, item}
use Rattle.serde_json.specs.Find.{get, as_str, as_array, as_number, as_u64, is_float}
use Rattle.s3_terms.specs.Fault.{refuse, ◌>>◌, ◌>>=◌}
use Rattle.s3_terms.specs.declared.code.Code.{Code}
use Rattle.s3_terms.specs.declared.code.Code.TheVariants.{MalformedBody, MalformedXML, InvalidArgument}
use Rattle.s3_terms.specs.declared.dialect.Dialect.{Dialect}
use Rattle.s3_terms.specs.declared.dialect.Dialect.TheVariants.{Json, S3}
use Rattle.s3_xml.specs.Ended.{Ended}
use Rattle.s3_request_documents.specs.Xml.{rooted, rows_named, field_in, number_told}
use Rattle.s3_names.specs.Ids.{as_part_number}
use Rattle.s3_conditions.specs.Tags.{unquoted}
use Rattle.s3_uploads.specs.declared.listed.ListedPart.{ListedPart}
use Rattle.s3_request_documents.specs.Json.{json_of}

-- the elements of an array
abbrev pub elements : Items → List Data
elements no_items = []
elements (item value values) = value ∷ elements values

-- those of a value's member `Parts`, where that is an array
abbrev pub parts_in : Data → Option (List Data)
parts_in value = option_map elements (option_and_then as_array (get (codes "Parts") value))

-- there are from 1 to 10,000 of them
abbrev pub is_count : ℕ → Bool
is_count count = nat_le 1 count && nat_le count 10_000

-- the tag that a part names, if it names one: without the double quotes at both ends
abbrev pub tag_in : Data → Option (List ℕ)
tag_in part = option_map unquoted (option_and_then as_str (get (codes "ETag") part))

-- the number that it names, if it names one
abbrev pub number_in : Data → Option Num
number_in part = option_and_then as_number (get (codes "PartNumber") part)

-- a whole number, one that is kept as an integer
abbrev pub is_whole : Num → Bool
is_whole number = not (is_float number)

-- it has a tag and a whole number
abbrev pub is_part : Data → Bool
is_part part = is_some (tag_in part) && option_map_or is_whole (number_in part) false

-- the number of a part: from 1 to 10,000
abbrev pub part_number_in : Data → Option ℕ
part_number_in part = option_and_then as_part_number (option_and_then as_u64 (number_in part))

abbrev pub is_numbered : Data → Bool
is_numbered part = is_some (part_number_in part)

-- the part that is listed
abbrev pub listed_as : List ℕ → ℕ → ListedPart
listed_as tag number = record { number = number; tag = tag }

abbrev pub listed_in : Data → Option ListedPart
listed_in part = option_and_then (λ tag. option_map (listed_as tag) (part_number_in part)) (tag_in part)

-- the first refusal of what is listed: nothing is said of numbers where something is malformed
unfoldable pub judged : List Data → Result ⊤ Code
judged parts = do
  refuse (not (is_count (length parts))) MalformedBody
  refuse (not (list_all is_part parts)) MalformedBody
  refuse (not (list_all is_numbered parts)) InvalidArgument

-- the parts that a value lists
unfoldable pub parts_listed : Data → Result (List ListedPart) Code
parts_listed value = do
  parts ← ok_or (parts_in value) MalformedBody
  judged parts
  Ok (filter_map listed_in parts)

-- and a body as JSON
unfoldable pub completion_in_json : List ℕ → Result (List ListedPart) Code
completion_in_json body = do
  value ← ok_or (json_of body) MalformedBody
  parts_listed value

-- ---- in XML

-- the tag and the number that the fields of a part tell
abbrev pub tag_told : List Ended → Option (List ℕ)
tag_told fields = option_map unquoted (field_in (codes "ETag") fields)

abbrev pub number_field : List Ended → Option ℕ
number_field fields = option_and_then number_told (field_in (codes "PartNumber") fields)

abbrev pub tells_part : List Ended → Bool
tells_part fields = is_some (tag_told fields) && is_some (number_field fields)

abbrev pub part_number_told : List Ended → Option ℕ
part_number_told fields = option_and_then as_part_number (number_field fields)

abbrev pub listed_of : List Ended → Option ListedPart
listed_of fields = option_and_then (λ tag. option_map (listed_as tag) (part_number_told fields)) (tag_told fields)

-- it tells a number that a part may have
abbrev pub tells_part_number : List Ended → Bool
tells_part_number fields = is_some (part_number_told fields)

-- the first refusal of rows, as of parts in JSON
unfoldable pub judged_rows : List (List Ended) → Result ⊤ Code
judged_rows rows = do
  refuse (not (is_count (length rows))) MalformedXML
  refuse (not (list_all tells_part rows)) MalformedXML
  refuse (not (list_all tells_part_number rows)) InvalidArgument

-- the parts that rows list
unfoldable pub rows_listed : List (List Ended) → Result (List ListedPart) Code
rows_listed rows = do
  judged_rows rows
  Ok (filter_map listed_of rows)

-- and a body in XML: each element `Part` right in the root `CompleteMultipartUpload` is a row
unfoldable pub completion_in_xml : List ℕ → Result (List ListedPart) Code
completion_in_xml body = do
  elements ← ok_or (rooted (codes "CompleteMultipartUpload") body) MalformedXML
  rows_listed (rows_named (codes "Part") elements)

-- and a body in a dialect
abbrev pub completion_read : Dialect → List ℕ → Result (List ListedPart) Code
completion_read Json body = completion_in_json body
completion_read S3 body = completion_in_xml body
