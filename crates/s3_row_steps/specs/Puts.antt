-- What putting in the row of a version does to the rows of a store.
use Rattle.std.specs.Prelude.{◌≡◌, ◌^◌, ℕ, pos, int_lt, IsTrue, List}
use Rattle.s3_rows.specs.Columns.{VersionColumns, Tables}
use Rattle.s3_rows.specs.TableChanges.{version_put}
use Rattle.s3_stored_rows.specs.Bodies.{version_numbers}
use Rattle.s3_stored_rows.specs.Queries.{version_of_id}
use Rattle.s3_row_changes.specs.Trading.{numbers_of}

-- the row is put in, in the place of the one that has its id, which named these numbers; its id is small
pub record IsPut (old new : Tables) (row : VersionColumns) (gone : List ℕ) : Type 0 where
  pub new_is : new ≡ version_put row old
  pub gone_is : gone ≡ numbers_of version_numbers (version_of_id row.bucket row.key row.id old)
  pub small : IsTrue (int_lt row.id (pos (2 ^ 63)))
