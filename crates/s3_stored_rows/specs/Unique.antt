-- What is unique in the tables.
use Rattle.sqlite_keyed.specs.Keyed.{IsKeyedBy}
use Rattle.sqlite_keyed.specs.Rules.{AreApart}
use Rattle.s3_rows.specs.Columns.{Tables}
use Rattle.s3_rows.specs.Soundness.{bucket_row, version_row, upload_row, part_row, same_name, same_number, same_version, same_upload, same_part}

-- of each table the rowids rise, and no two rows stand where one may
pub record AreUnique (t : Tables) : Type 0 where
  pub buckets : IsKeyedBy bucket_row t.buckets
  pub names : AreApart same_name t.buckets
  pub versions : IsKeyedBy version_row t.versions
  pub numbers : AreApart same_number t.versions
  pub ids : AreApart same_version t.versions
  pub uploads : IsKeyedBy upload_row t.uploads
  pub upload_ids : AreApart same_upload t.uploads
  pub parts : IsKeyedBy part_row t.parts
  pub part_numbers : AreApart same_part t.parts
