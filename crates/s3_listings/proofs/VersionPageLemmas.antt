-- The pages of lists of versions.
use Rattle.std.proofs.Common.{◌≡◌, ℕ, ◌<◌, List, take, drop, Some}
use Rattle.s3_names.specs.declared.ids.VersionId.{VersionId}
use Rattle.s3_records.specs.Catalogue.{Catalogue}
use Rattle.s3_records.specs.Laws.{AreCatalogued}
use Rattle.s3_records.specs.Rows.{version_rows, versions_from}
use Rattle.s3_records.specs.declared.rows.VersionRow.{VersionRow}
use Rattle.s3_listings.specs.declared.asked.VersionsAsked.{VersionsAsked}
use Rattle.s3_listings.specs.declared.row_page.RowItem.{RowItem}
use Rattle.s3_listings.specs.declared.row_page.RowItem.TheVariants.{Row, CommonPrefix}
use Rattle.s3_listings.specs.Pages.{last_of}
use Rattle.s3_listings.specs.Versions.{marked, versions_asked, versions_page}
use Rattle.s3_listings.specs.Laws.{Joins, behind_row, VersionPagesJoin}
use Rattle.s3_listings.proofs.BehindLemmas.{versions_follow}
use Rattle.s3_listings.proofs.JoinLemmas.{page_joins, all_join}
use Rattle.s3_listings.proofs.RolledPageLemmas.{rest_of_page}
use Rattle.s3_listings.proofs.VersionLemmas.{key_of, behind_marker}

module _ {B : Type 0} (c : Catalogue B) (name : List ℕ) (valid : AreCatalogued c) where
  -- what is asked for behind the last item of a page is what the page leaves
  version_rest : (asked : VersionsAsked) (last : RowItem VersionRow) → last_of (take asked.max_keys (versions_asked asked c name)) ≡ Some last
      → versions_asked (behind_row asked last) c name ≡ drop asked.max_keys (versions_asked asked c name)
  version_rest asked (Row row) is =
      rest_of_page key_of asked.prefix asked.delimiter (λ (r : VersionRow). r.id) (version_rows c name) (λ marker id. versions_from c name (marked marker id))
      (behind_marker c name) (λ marker id front r rest. versions_follow c name marker id front r rest valid) asked.key_marker asked.id_marker asked.max_keys (Row row) is
  version_rest asked (CommonPrefix text) is =
      rest_of_page key_of asked.prefix asked.delimiter (λ (r : VersionRow). r.id) (version_rows c name) (λ marker id. versions_from c name (marked marker id))
      (behind_marker c name) (λ marker id front r rest. versions_follow c name marker id front r rest valid) asked.key_marker asked.id_marker asked.max_keys (CommonPrefix text) is

  version_page_joins : (asked : VersionsAsked) → 0 < asked.max_keys → Joins (λ a. versions_page a c name) behind_row (λ a. versions_asked a c name) asked
  version_page_joins asked some =
      page_joins asked.max_keys (versions_asked asked c name) (λ last. versions_asked (behind_row asked last) c name) some (λ last is. version_rest asked last is)

same_most : (asked : VersionsAsked) (last : RowItem VersionRow) → 0 < asked.max_keys → 0 < (behind_row asked last).max_keys
same_most asked (Row row) some = some
same_most asked (CommonPrefix text) some = some

pub version_pages_join : {B : Type 0} → VersionPagesJoin B
version_pages_join asked c name valid some =
    all_join (λ a. versions_page a c name) behind_row (λ a. versions_asked a c name) (λ a. 0 < a.max_keys) same_most
    (λ a fits. version_page_joins c name valid a fits) asked some
