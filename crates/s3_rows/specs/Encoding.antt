-- How the columns are read that hold more than a number or a text.
use Rattle.std.specs.Prelude.{ℕ, ℤ, List}
use Rattle.s3_versions.specs.Metadata.{Entry}
use Rattle.s3_versions.specs.declared.version.Versioning.{Versioning}

-- the media type and the metadata in `kept`, the numbers in `bodies`, and the versioning in `mode`
pub record Encoding : Type 0 where
  pub content_type_in : List ℕ → List ℕ
  pub metadata_in : List ℕ → List Entry
  pub numbers_in : List ℕ → List ℕ
  pub versioning_in : ℤ → Versioning
