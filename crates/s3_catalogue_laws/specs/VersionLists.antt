-- What the list of a bucket's versions tells (Amazon S3 API Reference, ListObjectVersions).
use Rattle.std.specs.Prelude.{◌≡◌, ◌↔◌, ℕ, true, IsTrue, List, Some, None, Ok, Err, option_map}
use Rattle.std.specs.List.{Contains}
use Rattle.s3_terms.specs.declared.code.Code.TheVariants.{MethodNotAllowed}
use Rattle.s3_versions.specs.declared.picking.Facts.{Facts}
use Rattle.s3_versions.specs.declared.version.Data.{Data}
use Rattle.s3_versions.specs.declared.version.Version.{Version}
use Rattle.s3_versions.specs.Rules.{id_of, asked_for, stored, is_delete_marker, pick, facts_read}
use Rattle.s3_records.specs.Catalogue.{Catalogue, versions_of}
use Rattle.s3_records.specs.Places.{version_at}
use Rattle.s3_records.specs.Rows.{version_rows}
use Rattle.s3_records.specs.declared.rows.VersionRow.{VersionRow}
use Rattle.s3_catalogue_laws.specs.Orderly.{IsOrderly}

-- what is known of a version that keeps this
abbrev pub facts_from : {B : Type 0} → Version B → Data B → Facts
facts_from v kept = record { moment = v.moment; tag = kept.tag; size = kept.size }

-- a row tells a version: that stands under the row's key with the row's id, was made at its moment, and has its facts, where it
-- has some; and it is the latest exactly where a read without an id finds it
pub record Tells {B : Type 0} (c : Catalogue B) (name : List ℕ) (row : VersionRow) (v : Version B) : Type 0 where
  pub place : version_at c name row.key row.id ≡ Some v
  pub id : row.id ≡ id_of v
  pub moment : row.moment ≡ v.moment
  pub facts : row.facts ≡ option_map (facts_from v) (stored v)
  pub latest : IsTrue row.is_latest ↔ (asked_for None (versions_of c name row.key) ≡ Some v)

-- the list tells each version, and nothing else
abbrev pub VersionsAreListed : Type 0 → Type 0
VersionsAreListed B =
    (c : Catalogue B) (name : List ℕ) (row : VersionRow) → IsOrderly c
    → Contains (version_rows c name) row ↔ ((v : Version B) × Tells c name row v)

-- a row has facts exactly where a read by its id gives these, and none exactly where it tells a delete marker, and where that
-- read is refused as one
pub record TellsMarkers {B : Type 0} (c : Catalogue B) (name : List ℕ) (row : VersionRow) : Type 0 where
  pub read : (facts : Facts) → (row.facts ≡ Some facts) ↔ (facts_read (pick (Some row.id) (versions_of c name row.key)) ≡ Ok facts)
  pub marker : (v : Version B) → version_at c name row.key row.id ≡ Some v → (row.facts ≡ None) ↔ IsTrue (is_delete_marker v)
  pub refused : (row.facts ≡ None)
      ↔ (pick (Some row.id) (versions_of c name row.key) ≡ Err (record { code = MethodNotAllowed; is_delete_marker = true }))

abbrev pub MarkersAreTold : Type 0 → Type 0
MarkersAreTold B =
    (c : Catalogue B) (name : List ℕ) (row : VersionRow) → IsOrderly c → Contains (version_rows c name) row → TellsMarkers c name row
