-- What the list of a bucket's keys tells (Amazon S3 API Reference, ListObjectsV2).
use Rattle.std.specs.Prelude.{◌≡◌, ◌≢◌, ◌↔◌, ℕ, true, List, [], Some, None, Ok, Err}
use Rattle.std.specs.List.{Contains}
use Rattle.s3_terms.specs.declared.code.Code.TheVariants.{NoSuchKey}
use Rattle.s3_versions.specs.declared.picking.Facts.{Facts}
use Rattle.s3_versions.specs.declared.version.Data.{Data}
use Rattle.s3_versions.specs.declared.version.Version.{Version}
use Rattle.s3_versions.specs.Rules.{pick}
use Rattle.s3_records.specs.Catalogue.{Catalogue, versions_of}
use Rattle.s3_records.specs.Rows.{keys_from}
use Rattle.s3_records.specs.declared.rows.KeyRow.{KeyRow}
use Rattle.s3_records.specs.declared.rows.Start.TheVariants.{First}
use Rattle.s3_catalogue_laws.specs.Orderly.{IsOrderly}
use Rattle.s3_catalogue_laws.specs.VersionLists.{facts_from}

-- a read of a key without an id gives a version, of which these facts are known
abbrev pub IsRead : {B : Type 0} → Catalogue B → List ℕ → List ℕ → Facts → Type 0
IsRead {B} c name key facts =
    (v : Version B) × (kept : Data B) × (pick None (versions_of c name key) ≡ Ok (v, kept)) × (facts ≡ facts_from v kept)

-- the list tells a key with facts exactly where a read of it gives a version with these
abbrev pub KeysAreListed : Type 0 → Type 0
KeysAreListed B =
    (c : Catalogue B) (name key : List ℕ) (facts : Facts)
    → Contains (keys_from c name First) (record { key = key; facts = Some facts }) ↔ IsRead c name key facts

-- and without facts exactly where a read of it meets a delete marker
abbrev pub MarkedKeysAreListed : Type 0 → Type 0
MarkedKeysAreListed B =
    (c : Catalogue B) (name key : List ℕ) → IsOrderly c
    → Contains (keys_from c name First) (record { key = key; facts = None })
    ↔ (pick None (versions_of c name key) ≡ Err (record { code = NoSuchKey; is_delete_marker = true }))

-- and no key that has no version
abbrev pub ListedKeysHaveVersions : Type 0 → Type 0
ListedKeysHaveVersions B =
    (c : Catalogue B) (name : List ℕ) (row : KeyRow) → IsOrderly c → Contains (keys_from c name First) row → versions_of c name row.key ≢ []
