-- The rows from a place on.
use Rattle.std.proofs.Common.{◌&&◌, ℕ, List, filter}
use Rattle.sqlite_keyed.specs.Lists.{sort_by}
use Rattle.s3_records.specs.Rows.{is_from}
use Rattle.s3_records.specs.declared.rows.Start.{Start}
use Rattle.s3_rows.specs.Columns.{UploadColumns, VersionColumns, Tables}
use Rattle.s3_rows.specs.Finding.{is_in, is_upload_in}
use Rattle.s3_rows.specs.ListLaws.{by_key_and_id}
use Rattle.s3_rows.specs.VersionListLaws.{by_key_and_number}

-- the uploads in a bucket to the keys from a place on
abbrev pub from_uploads : List ℕ → Start → Tables → List UploadColumns
from_uploads bucket start t = sort_by by_key_and_id (filter (λ u. is_upload_in bucket u && is_from start u.key) t.uploads)

-- the versions in a bucket under the keys from a place on
abbrev pub from_versions : List ℕ → Start → Tables → List VersionColumns
from_versions bucket start t = sort_by by_key_and_number (filter (λ v. is_in bucket v && is_from start v.key) t.versions)
