-- The head of a reply: its status line and its header lines (RFC 9112, sections 4 and 5; Amazon S3 API
-- Reference, "Common response headers").
use Rattle.std.specs.Prelude.{ℕ, ◌+◌, ◌*◌, ◌≤◌, Bool, false, List, [], ◌∷◌, ◌++◌, map, length, codes, Option, None, option_map}
use Rattle.std.specs.Fmt.{decimal}
use Rattle.s3_text.specs.Characters.{crlf}
use Rattle.s3_text.specs.Digits.{number_digits}
use Rattle.s3_replies.specs.declared.head.Head.{Head}
use Rattle.s3_replies.specs.declared.head.Opening.{Opening}
use Rattle.s3_terms.specs.declared.status.Status.{Status}
use Rattle.s3_terms.specs.Status.{tells_size}
use Rattle.s3_replies.specs.Lines.{Line, checksum_line, line_if, line_room, status_line, print_lines, flag, optional, metadata_line, all_told, quoted, value_of, value_length, room_with}
use Rattle.s3_versions.specs.Metadata.{Entry, metadata_size}

-- what a head says, in the order of its lines
pub record Fields : Type 0 where
  pub status : Status
  -- the date of HTTP at which the reply is made
  pub date : List ℕ
  -- the connection ends with the reply
  pub closes : Bool
  -- the number of the entry, 0 where there is none
  pub number : ℕ
  pub version_id : Option (List ℕ)
  -- the id of the version that was copied
  pub source_version_id : Option (List ℕ)
  pub is_delete_marker : Bool
  -- the region of a bucket
  pub region : Option (List ℕ)
  pub location : Option (List ℕ)
  -- the tag, without its double quotes
  pub tag : Option (List ℕ)
  -- the line that tells the checksum of what is stored
  pub checksum : Option Line
  -- the date of HTTP at which the object was made
  pub modified : Option (List ℕ)
  pub accepts_ranges : Bool
  pub content_range : Option (List ℕ)
  pub content_type : Option (List ℕ)
  -- what is kept with an object, and behind it what stands in the place of some of that
  pub metadata : List Entry
  -- the size of the body, also where that is not sent
  pub size : ℕ

-- what a head of the code says
abbrev pub fields_of : Head → Fields
fields_of head = record {
  status = head.status;
  date = head.date.now;
  closes = head.closes;
  number = head.number;
  version_id = value_of head.version_id;
  source_version_id = value_of head.source_version_id;
  is_delete_marker = head.is_delete_marker;
  region = value_of head.region;
  location = value_of head.location;
  tag = value_of head.tag;
  checksum = option_map checksum_line head.checksum;
  modified = value_of head.modified;
  accepts_ranges = head.accepts_ranges;
  content_range = value_of head.content_range;
  content_type = value_of head.content_type;
  metadata = all_told head.tells head.overrides.now head.metadata.now;
  size = head.size;
}

-- a head that says what every head has to say, of an empty body
abbrev pub bare : Opening → Fields
bare opening = record {
  status = opening.status;
  date = opening.date;
  closes = opening.closes;
  number = opening.number;
  version_id = None;
  source_version_id = None;
  is_delete_marker = false;
  region = None;
  location = None;
  tag = None;
  checksum = None;
  modified = None;
  accepts_ranges = false;
  content_range = None;
  content_type = None;
  metadata = [];
  size = 0;
}

-- The table of all header lines, in their order, in three parts.

-- who answers, and when
abbrev pub opening_lines : Fields → List Line
opening_lines head =
    (codes "Date", head.date) ∷ []
    ++ flag (codes "Connection") (codes "close") head.closes
    ++ (codes "x-amz-request-id", number_digits head.number) ∷ []

-- what is told of a bucket, an object or its version
abbrev pub version_lines : Fields → List Line
version_lines head =
    optional (codes "x-amz-version-id") head.version_id
    ++ optional (codes "x-amz-copy-source-version-id") head.source_version_id
    ++ flag (codes "x-amz-delete-marker") (codes "true") head.is_delete_marker
    ++ optional (codes "x-amz-bucket-region") head.region
    ++ optional (codes "Location") head.location
    ++ optional (codes "ETag") (option_map quoted head.tag)
    ++ line_if head.checksum
    ++ optional (codes "Last-Modified") head.modified

-- what is told of a body
abbrev pub body_lines : Fields → List Line
body_lines head =
    flag (codes "Accept-Ranges") (codes "bytes") head.accepts_ranges
    ++ optional (codes "Content-Range") head.content_range
    ++ optional (codes "Content-Type") head.content_type
    ++ map metadata_line head.metadata
    ++ flag (codes "Content-Length") (decimal head.size) (tells_size head.status)

-- a status line, header lines, and the empty line that ends a head
abbrev pub print_with_lines : Status → List Line → List ℕ
print_with_lines status lines = status_line status ++ print_lines lines ++ crlf

-- the printed head
unfoldable pub print_head : Fields → List ℕ
print_head head = print_with_lines head.status (opening_lines head ++ version_lines head ++ body_lines head)

-- no value is longer than the room that a head has for it
pub record HasRoomFor (head : Fields) : Type 0 where
  pub date : length head.date ≤ 29
  pub version_id : value_length head.version_id ≤ 17
  pub source_version_id : value_length head.source_version_id ≤ 17
  pub region : value_length head.region ≤ 64
  pub location : value_length head.location ≤ 64
  pub tag : value_length head.tag ≤ 40
  pub modified : value_length head.modified ≤ 29
  pub content_range : value_length head.content_range ≤ 68
  pub content_type : value_length head.content_type ≤ 255
  pub metadata : metadata_size head.metadata ≤ 6_656
  pub metadata_count : length head.metadata ≤ 70

-- how many bytes the lines that tell of a bucket, an object or its version take at most: 20, 32, 23, 12, 10 and 17 beside the values
-- of `x-amz-version-id`, `x-amz-copy-source-version-id`, `x-amz-bucket-region`, `Location`, `ETag` and `Last-Modified`, where these
-- are there, 27 for `x-amz-delete-marker`, and 4 for the line of a checksum
abbrev pub version_room : Fields → ℕ
version_room head =
    room_with 20 head.version_id + room_with 32 head.source_version_id + 27 + room_with 23 head.region + room_with 12 head.location
    + room_with 10 head.tag + line_room head.checksum + room_with 17 head.modified

-- how many bytes the lines that tell of a body take at most: 22 for `Accept-Ranges`, 17 and 16 beside the values of
-- `Content-Range` and `Content-Type`, where these are there, 4 beside the name and the value of an entry of metadata, 38 for `Content-Length`
abbrev pub body_room : Fields → ℕ
body_room head =
    22 + room_with 17 head.content_range + room_with 16 head.content_type
    + (metadata_size head.metadata + 4 * length head.metadata) + 38

-- how many bytes the head takes at most: 45 for the status line, 92 for the lines that say who answers, and 2 for the empty
-- line at the end
abbrev pub head_room : Fields → ℕ
head_room head = 45 + 92 + version_room head + body_room head + 2
