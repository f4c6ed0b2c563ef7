-- What the head of a GetObject or HeadObject asks of the version (RFC 9110, sections 13.1 and 14.2), and that of a copy of its
-- source (Amazon S3 API Reference, CopyObject and UploadPartCopy): of each line the first one counts, and one that doesn't read
-- is ignored.
use Rattle.std.specs.Prelude.{ℕ, if◌then◌else◌, List, codes, Option, None, option_and_then}
use Rattle.httpdate.specs.Date.{parse_secs}
use Rattle.s3_conditions.specs.declared.conditions.Conditions.{Conditions}
use Rattle.s3_conditions.specs.declared.range.ByteRange.{ByteRange}
use Rattle.s3_conditions.specs.Range.{byte_range}
use Rattle.s3_http_heads.specs.Head.{HeadParts, first_value, is_sent}

-- the moment that a line shows, if it shows a date
abbrev pub date_of : List ℕ → HeadParts → Option ℕ
date_of name head = option_and_then parse_secs (first_value name head)

-- the range; where an If-Range line is there, all is asked for
abbrev pub range_of : HeadParts → Option ByteRange
range_of head = if is_sent (codes "if-range") head then None else option_and_then byte_range (first_value (codes "range") head)

-- the conditions of a read
abbrev pub conditions_of : HeadParts → Conditions
conditions_of head = record {
  if_match = first_value (codes "if-match") head;
  if_none_match = first_value (codes "if-none-match") head;
  modified_since = date_of (codes "if-modified-since") head;
  unmodified_since = date_of (codes "if-unmodified-since") head;
  range = range_of head;
}

-- the conditions of a copy for its source, among which no range is
abbrev pub source_conditions_of : HeadParts → Conditions
source_conditions_of head = record {
  if_match = first_value (codes "x-amz-copy-source-if-match") head;
  if_none_match = first_value (codes "x-amz-copy-source-if-none-match") head;
  modified_since = date_of (codes "x-amz-copy-source-if-modified-since") head;
  unmodified_since = date_of (codes "x-amz-copy-source-if-unmodified-since") head;
  range = None;
}
