-- Rows of versions that are put in and taken out are changes of a key.
use Rattle.std.specs.Prelude.{◌≡◌, ◌≢◌, ℕ, false, negsuc, IsTrue, List}
use Rattle.sqlite_keyed.specs.Keyed.{has_key}
use Rattle.s3_names.specs.declared.ids.VersionId.{VersionId}
use Rattle.s3_versions.specs.declared.version.Content.TheVariants.{DeleteMarker, Stored}
use Rattle.s3_versions.specs.declared.version.Data.{Data}
use Rattle.s3_versions.specs.declared.version.Versioning.TheVariants.{Unversioned}
use Rattle.s3_versions.specs.Rules.{made, is_new_number, VersionPut, KeyDeleted, VersionDropped}
use Rattle.s3_records.specs.Catalogue.{has_bucket, versions_of, versioning_of}
use Rattle.s3_records.specs.Changes.{Change, KeyChanged, changed}
use Rattle.s3_rows.specs.Columns.{VersionColumns, Tables}
use Rattle.s3_rows.specs.Encoding.{Encoding}
use Rattle.s3_rows.specs.Finding.{id_column}
use Rattle.s3_rows.specs.Meaning.{version_of, catalogue_of}
use Rattle.s3_rows.specs.Soundness.{version_row, is_version_row, AreSound}
use Rattle.s3_rows.specs.TableChanges.{version_put, version_dropped}

-- a change of tables leaves them sound, and is this change of the catalogue
pub record Makes (e : Encoding) (t u : Tables) (name : List ℕ) (change : Change (List ℕ)) : Type 0 where
  pub sound : AreSound u
  pub means : catalogue_of e u ≡ changed (catalogue_of e t) name change

-- a row of a version may be put in: its integers are in range, no row that stays has its rowid, its bucket is there, and its number is
-- above those of the versions of its key
pub record MayStand (e : Encoding) (t : Tables) (row : VersionColumns) (n : ℕ) : Type 0 where
  pub fits : IsTrue (is_version_row row)
  pub free : has_key version_row (version_dropped row.bucket row.key row.id t).versions row.row ≡ false
  pub there : IsTrue (has_bucket (catalogue_of e t) row.bucket)
  pub newer : IsTrue (is_new_number n (versions_of (catalogue_of e t) row.bucket row.key))

-- to put in the row of the version that an entry makes is to put the version
abbrev pub RowsPutVersions : Type 0
RowsPutVersions =
    (e : Encoding) (t : Tables) (row : VersionColumns) (n m : ℕ) (stored : Data (List ℕ)) → AreSound t → MayStand e t row n
    → version_of e row ≡ made (versioning_of (catalogue_of e t) row.bucket) n m (Stored stored)
    → Makes e t (version_put row t) row.bucket (KeyChanged row.key (VersionPut n m stored))

-- to put in the row of a delete marker is to delete the key, where the bucket is not unversioned
abbrev pub RowsMark : Type 0
RowsMark =
    (e : Encoding) (t : Tables) (row : VersionColumns) (n m : ℕ) → AreSound t → MayStand e t row n
    → versioning_of (catalogue_of e t) row.bucket ≢ Unversioned
    → version_of e row ≡ made (versioning_of (catalogue_of e t) row.bucket) n m DeleteMarker
    → Makes e t (version_put row t) row.bucket (KeyChanged row.key (KeyDeleted n m))

-- where it is unversioned, to take out the row of the version `null` is to delete the key
abbrev pub RowsDelete : Type 0
RowsDelete =
    (e : Encoding) (t : Tables) (bucket key : List ℕ) (n m : ℕ) → AreSound t
    → versioning_of (catalogue_of e t) bucket ≡ Unversioned
    → Makes e t (version_dropped bucket key (negsuc 0) t) bucket (KeyChanged key (KeyDeleted n m))

-- to take out the row of the version of an id is to drop the version
abbrev pub RowsDropVersions : Type 0
RowsDropVersions =
    (e : Encoding) (t : Tables) (bucket key : List ℕ) (id : VersionId) → AreSound t
    → Makes e t (version_dropped bucket key (id_column id) t) bucket (KeyChanged key (VersionDropped id))
