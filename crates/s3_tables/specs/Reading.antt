-- What a row of an answer says: the rowid, and then the columns.
use Rattle.sqlite_value.specs.Order.{Row}
use Rattle.s3_rows.specs.Columns.{BucketColumns, VersionColumns, UploadColumns, PartColumns, StoreColumns}
use Rattle.s3_tables.specs.Stored.{int_at, bytes_at}

abbrev pub bucket_shown : Row → BucketColumns
bucket_shown r = record { row = int_at r 0; name = bytes_at r 1; made = int_at r 2; mode = int_at r 3 }

abbrev pub version_shown : Row → VersionColumns
version_shown r = record {
  row = int_at r 0;
  bucket = bytes_at r 1;
  key = bytes_at r 2;
  number = int_at r 3;
  id = int_at r 4;
  moment = int_at r 5;
  marker = int_at r 6;
  tag = bytes_at r 7;
  kept = bytes_at r 8;
  size = int_at r 9;
  bodies = bytes_at r 10;
}

abbrev pub upload_shown : Row → UploadColumns
upload_shown r = record { row = int_at r 0; bucket = bytes_at r 1; key = bytes_at r 2; id = int_at r 3; moment = int_at r 4; kept = bytes_at r 5 }

abbrev pub part_shown : Row → PartColumns
part_shown r = record { row = int_at r 0; upload = int_at r 1; part = int_at r 2; digest = bytes_at r 3; moment = int_at r 4; size = int_at r 5; bodies = bytes_at r 6 }

abbrev pub store_shown : Row → StoreColumns
store_shown r = record { row = int_at r 0; form = int_at r 1; number = int_at r 2 }
