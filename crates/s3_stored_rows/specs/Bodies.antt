-- The bytes of versions and parts: their rows name bodies by number.
use Rattle.std.specs.Prelude.{ℕ, List, ◌++◌}
use Rattle.std.specs.List.{flat_map}
use Rattle.s3_columns.specs.Attributes.{content_type_in, metadata_in}
use Rattle.s3_columns.specs.Columns.{versioning_in}
use Rattle.s3_columns.specs.Numbers.{numbers_in}
use Rattle.s3_stored_bodies.specs.Numbers.{Contents, bytes_under}
use Rattle.s3_rows.specs.Columns.{VersionColumns, PartColumns, Tables}
use Rattle.s3_rows.specs.Encoding.{Encoding}

-- the bytes of the bodies that a column names, one behind another
unfoldable pub bytes_in : Contents → List ℕ → List ℕ
bytes_in contents column = flat_map (bytes_under contents) (numbers_in column)

-- how the columns are read, where these bytes stand under each number
abbrev pub encoding : Contents → Encoding
encoding contents = record {
  content_type_in = content_type_in;
  metadata_in = metadata_in;
  numbers_in = bytes_in contents;
  versioning_in = versioning_in;
}

-- the numbers that the row of a version names, and that of a part
abbrev pub version_numbers : VersionColumns → List ℕ
version_numbers v = numbers_in v.bodies

abbrev pub part_numbers : PartColumns → List ℕ
part_numbers p = numbers_in p.bodies

-- all that rows name, as often as rows name them
unfoldable pub numbers_named : Tables → List ℕ
numbers_named t = flat_map version_numbers t.versions ++ flat_map part_numbers t.parts
