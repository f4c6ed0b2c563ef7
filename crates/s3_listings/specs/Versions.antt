-- The list of a bucket's versions (Amazon S3 API Reference, ListObjectVersions).
use Rattle.std.specs.Prelude.{ℕ, Bool, nat_eq, List, filter, Option, Some, None}
use Rattle.std.specs.List.{starts_with}
use Rattle.s3_names.specs.declared.ids.VersionId.{VersionId}
use Rattle.s3_records.specs.Catalogue.{Catalogue}
use Rattle.s3_records.specs.Rows.{versions_from}
use Rattle.s3_records.specs.declared.rows.Start.TheVariants.{Behind}
use Rattle.s3_records.specs.declared.rows.VersionRow.{VersionRow}
use Rattle.s3_records.specs.declared.rows.VersionStart.{VersionStart}
use Rattle.s3_records.specs.declared.rows.VersionStart.TheVariants.{At, BehindVersion}
use Rattle.s3_listings.specs.declared.asked.VersionsAsked.{VersionsAsked}
use Rattle.s3_listings.specs.Pages.{Page, page_of}
use Rattle.s3_listings.specs.Rolled.{RowsTold, items_asked, rows_told}
use Rattle.s3_listings.specs.declared.row_page.RowItem.{RowItem}

-- where the list goes on: behind a key, or behind a version of it
abbrev pub marked : List ℕ → Option VersionId → VersionStart
marked key None = At (Behind key)
marked key (Some id) = BehindVersion key id

-- the key is asked for
abbrev pub is_asked : VersionsAsked → VersionRow → Bool
is_asked asked row = starts_with nat_eq row.key asked.prefix

-- the rows of all versions that are asked for
abbrev pub version_rows_asked : {B : Type 0} → VersionsAsked → Catalogue B → List ℕ → List VersionRow
version_rows_asked asked c name = filter (is_asked asked) (versions_from c name (marked asked.key_marker asked.id_marker))

-- all items that are asked for
abbrev pub versions_asked : {B : Type 0} → VersionsAsked → Catalogue B → List ℕ → List (RowItem VersionRow)
versions_asked asked c name =
    items_asked (λ (row : VersionRow). row.key) asked.prefix asked.delimiter asked.key_marker (version_rows_asked asked c name)

-- the page of them
abbrev pub versions_page : {B : Type 0} → VersionsAsked → Catalogue B → List ℕ → Page (RowItem VersionRow)
versions_page asked c name = page_of asked.max_keys (versions_asked asked c name)

-- what it tells
unfoldable pub versions_told : {B : Type 0} → VersionsAsked → Catalogue B → List ℕ → RowsTold VersionRow
versions_told asked c name = rows_told (versions_page asked c name)
