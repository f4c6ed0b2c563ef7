-- The bodies of the source of a copy: they are counted, and their bytes are those of the version that is asked for.
use Rattle.std.proofs.Common.{◌≡◌, ap, ◌∙◌, ℕ, pos, List, [], true, false, cond, Option, Some, None, option_map, option_and_then, arith}
use Rattle.std.specs.Prelude.{IfSome, unwrap_or}
use Rattle.std.specs.Ordering.{int_eq}
use Rattle.s3_names.specs.declared.ids.VersionId.{VersionId}
use Rattle.s3_versions.specs.Rules.{asked_for, stored, stored_in}
use Rattle.s3_versions.specs.declared.version.Content.TheVariants.{DeleteMarker, Stored}
use Rattle.s3_versions.specs.declared.version.Data.{Data}
use Rattle.s3_versions.specs.declared.version.Version.{Version}
use Rattle.s3_records.specs.Catalogue.{versions_of, bytes_asked}
use Rattle.s3_rows.specs.Columns.{VersionColumns, Tables}
use Rattle.s3_rows.specs.Meaning.{data_of, version_of, catalogue_of}
use Rattle.s3_stored_bodies.specs.Numbers.{Contents}
use Rattle.s3_stored_rows.specs.Bodies.{bytes_in, encoding, version_numbers}
use Rattle.s3_stored_rows.specs.Changes.{version_columns}
use Rattle.s3_stored_rows.specs.declared.rows.StoredVersion.{StoredVersion}
use Rattle.s3_row_values.specs.Values.{bytes_of}
use Rattle.s3_row_changes.specs.Trading.{numbers_of}
use Rattle.s3_table_records.proofs.CountedLemmas.{IsAmong}

-- the numbers of a row that may be there are among those that rows name
pub source_counted : (named : List ℕ) (found : Option StoredVersion) → IfSome found (λ v. IsAmong (version_numbers (version_columns v)) named)
    → IsAmong (numbers_of version_numbers (option_map version_columns found)) named
source_counted named None among = λ n. omega arith
source_counted named (Some v) among = among

-- the bytes of a version that may be there, where it is no delete marker
abbrev bytes_stored : Option (Version (List ℕ)) → Option (List ℕ)
bytes_stored found = option_map (λ (what : Data (List ℕ)). what.body) (option_and_then stored found)

module _ (c : Contents) where
  row_bytes : (v : VersionColumns) (bytes : List ℕ) → bytes_stored (Some (version_of (encoding c) v)) ≡ Some bytes → bytes_of c (version_numbers v) ≡ bytes
  unfolding bytes_in
  row_bytes v bytes = elim (int_eq v.marker (pos 1)) as (λ b. option_map (λ (what : Data (List ℕ)). what.body) (stored_in (cond b DeleteMarker (Stored (data_of (encoding c) v)))) ≡ Some bytes → bytes_of c (version_numbers v) ≡ bytes) [
    | true ↦ λ is. absurd (cc)
    | false ↦ λ is. ap (λ o. unwrap_or o []) is
  ]

  columns_bytes : (found : Option VersionColumns) (bytes : List ℕ) → bytes_stored (option_map (version_of (encoding c)) found) ≡ Some bytes
      → bytes_of c (numbers_of version_numbers found) ≡ bytes
  columns_bytes None bytes is = absurd (cc)
  columns_bytes (Some v) bytes is = row_bytes v bytes is

  -- the row that is found tells the version that is asked for
  pub source_bytes : (t : Tables) (bucket key : List ℕ) (asked : Option VersionId) (found : Option StoredVersion)
      → option_map (λ (v : StoredVersion). version_of (encoding c) (version_columns v)) found ≡ asked_for asked (versions_of (catalogue_of (encoding c) t) bucket key)
      → (bytes : List ℕ) → bytes_asked (catalogue_of (encoding c) t) bucket key asked ≡ Some bytes
      → bytes_of c (numbers_of version_numbers (option_map version_columns found)) ≡ bytes
  source_bytes t bucket key asked None is bytes copied = columns_bytes None bytes (ap bytes_stored is ∙ copied)
  source_bytes t bucket key asked (Some v) is bytes copied = columns_bytes (Some (version_columns v)) bytes (ap bytes_stored is ∙ copied)
