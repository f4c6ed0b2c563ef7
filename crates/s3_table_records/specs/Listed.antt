-- The bodies of the parts that a completion lists.
use Rattle.std.specs.Prelude.{ℕ, ℤ, List, pos}
use Rattle.std.specs.List.{flat_map}
use Rattle.s3_uploads.specs.declared.listed.ListedPart.{ListedPart}
use Rattle.s3_rows.specs.Columns.{Tables}
use Rattle.s3_stored_rows.specs.Bodies.{part_numbers}
use Rattle.s3_stored_rows.specs.Queries.{part_of_number}
use Rattle.s3_row_changes.specs.Trading.{numbers_of}

-- the numbers that the row of a listed part names, of the upload in a row
abbrev pub listed_numbers : Tables → ℤ → ListedPart → List ℕ
listed_numbers t upload listed = numbers_of part_numbers (part_of_number upload (pos listed.number) t)

-- and those of all that are listed, in their order
abbrev pub all_listed : Tables → ℤ → List ListedPart → List ℕ
all_listed t upload listed = flat_map (listed_numbers t upload) listed
