-- The objects that a DeleteObjects names (Amazon S3 API Reference, DeleteObjects, "Request Syntax").
use Rattle.std.specs.Prelude.{ℕ, ◌==◌, Bool, true, false, not, ◌&&◌, ◌||◌, nat_le, nat_lt, if◌then◌else◌, List, length, codes, Option, Some, None, option_map, is_some, ok_or, Result, Ok, Err, ⊤}
use Rattle.std.specs.List.{list_all, list_any, filter_map}
use Rattle.std.specs.Option.{option_map_or}
use Rattle.std.specs.Str.{bytes_eq, is_utf8}
use Rattle.s3_terms.specs.Fault.{refuse, ◌>>◌, ◌>>=◌}
use Rattle.s3_terms.specs.declared.code.Code.{Code}
use Rattle.s3_terms.specs.declared.code.Code.TheVariants.{MalformedXML, NotImplemented, KeyTooLongError, InvalidArgument}
use Rattle.s3_names.specs.Ids.{version_id}
use Rattle.s3_names.specs.Names.{key_limit}
use Rattle.s3_names.specs.declared.ids.VersionId.{VersionId}
use Rattle.s3_deletions.specs.declared.named.Deletion.{Deletion}
use Rattle.s3_deletions.specs.declared.named.KeyDeletion.{KeyDeletion}
use Rattle.s3_deletions.specs.declared.named.NamedObject.{NamedObject}
use Rattle.s3_deletions.specs.declared.named.NamedObject.TheVariants.{Object, Fault}
use Rattle.s3_xml.specs.Ended.{Ended}
use Rattle.s3_request_documents.specs.Xml.{is_named, rooted, top_fields, rows_named, field_in, trimmed}

-- a truth value, with white space around it or not
abbrev pub truth_spelled : List ℕ → Option Bool
truth_spelled word =
    if bytes_eq word (codes "true") then Some true else if bytes_eq word (codes "false") then Some false else None

abbrev pub truth_told : List ℕ → Option Bool
truth_told text = truth_spelled (trimmed text)

-- whether only faults are to be told: not so, where nothing is said of it
abbrev pub quiet_asked : Option (List ℕ) → Option Bool
quiet_asked field = option_map_or truth_told field (Some false)

-- a text tells a key: it is UTF-8 of one byte or more
abbrev pub tells_key : List ℕ → Bool
tells_key text = is_utf8 text && not (length text == 0)

-- and the id of a version, where one is told, is a text too
abbrev pub tells_id : Option (List ℕ) → Bool
tells_id id = option_map_or is_utf8 id true

-- the version that is asked for, if one is
abbrev pub version_asked : Option (List ℕ) → Result (Option VersionId) Code
version_asked None = Ok None
version_asked (Some text) = ok_or (option_map Some (version_id text)) InvalidArgument

-- the deletion that is asked for: of a key of up to 1,024 bytes, and of a version by an id of the form that ids have
unfoldable pub deletion_asked : List ℕ → Option (List ℕ) → Result KeyDeletion Code
deletion_asked key id = do
  refuse (nat_lt key_limit (length key)) KeyTooLongError
  version ← version_asked id
  Ok (record { key = key; version = version })

-- what is named: a deletion, or that none is asked for, with what was sent
abbrev pub named_as : List ℕ → Option (List ℕ) → Result KeyDeletion Code → NamedObject
named_as key id (Ok deletion) = Object deletion
named_as key id (Err code) = Fault (record { key = key; version = id; code = code })

abbrev pub named : List ℕ → Option (List ℕ) → NamedObject
named key id = named_as key id (deletion_asked key id)

-- the object that these texts name, if they tell a key
abbrev pub object_of : Option (List ℕ) → Option (List ℕ) → Option NamedObject
object_of None id = None
object_of (Some key) id = if tells_key key && tells_id id then Some (named key id) else None

-- the object that fields name
abbrev pub object_in : List Ended → Option NamedObject
object_in fields = object_of (field_in (codes "Key") fields) (field_in (codes "VersionId") fields)

abbrev pub names_object : List Ended → Bool
names_object fields = is_some (object_in fields)

-- a condition on what is to be deleted, which this server doesn't judge
abbrev pub is_condition : Ended → Bool
is_condition field =
    is_named (codes "ETag") field || is_named (codes "LastModifiedTime") field || is_named (codes "Size") field

abbrev pub has_condition : List Ended → Bool
has_condition fields = list_any is_condition fields

-- there are from 1 to 1,000 of them
abbrev pub is_object_count : ℕ → Bool
is_object_count count = nat_le 1 count && nat_le count 1_000

-- the first refusal of rows: nothing is said of conditions where something is malformed
unfoldable pub judged_objects : List (List Ended) → Result ⊤ Code
judged_objects rows = do
  refuse (not (is_object_count (length rows))) MalformedXML
  refuse (not (list_all names_object rows)) MalformedXML
  refuse (list_any has_condition rows) NotImplemented

-- the objects that rows name
unfoldable pub objects_named : List (List Ended) → Result (List NamedObject) Code
objects_named rows = do
  judged_objects rows
  Ok (filter_map object_in rows)

-- and a body: each element `Object` right in the root `Delete` is a row, and `Quiet` stands right in it
unfoldable pub deletion_read : List ℕ → Result Deletion Code
deletion_read body = do
  elements ← ok_or (rooted (codes "Delete") body) MalformedXML
  is_quiet ← ok_or (quiet_asked (field_in (codes "Quiet") (top_fields elements))) MalformedXML
  objects ← objects_named (rows_named (codes "Object") elements)
  Ok (record { objects = objects; is_quiet = is_quiet })
