-- Which rowids are taken.
use Rattle.std.specs.Prelude.{ℤ, int_lt}
use Rattle.sqlite_keyed.specs.Rules.{AllPass}
use Rattle.s3_rows.specs.Columns.{BucketColumns, VersionColumns, UploadColumns, PartColumns, Tables}

-- every rowid of the tables of records is below this one
pub record AreRowsBelow (next : ℤ) (t : Tables) : Type 0 where
  pub buckets : AllPass (λ (b : BucketColumns). int_lt b.row next) t.buckets
  pub versions : AllPass (λ (v : VersionColumns). int_lt v.row next) t.versions
  pub uploads : AllPass (λ (u : UploadColumns). int_lt u.row next) t.uploads
  pub parts : AllPass (λ (p : PartColumns). int_lt p.row next) t.parts
