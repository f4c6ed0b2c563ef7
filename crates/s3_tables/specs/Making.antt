-- How the tables are made.
use Rattle.std.specs.Prelude.{◌≡◌, [], IsTrue, Result, OnOk}
use Rattle.std.specs.List.{AllByRecursion}
use Rattle.sqlite_catalog.specs.Listing.{IsSound}
use Rattle.sqlite_schema.specs.declared.schema.Schema.{Schema}
use Rattle.sqlite.specs.declared.error.Error.{Error}
use Rattle.sqlite.specs.Effect.{Database}
use Rattle.sqlite.specs.State.{State, HasCleanDisk, Survives}
use Rattle.s3_rows.specs.Columns.{StoreColumns, Tables, no_rows}
use Rattle.s3_stored_rows.specs.declared.rows.TableName.{TableName}
use Rattle.s3_stored_rows.specs.declared.rows.TableName.TheVariants.{Buckets, Versions, Uploads, Parts, Store}
use Rattle.s3_tables.specs.Schema.{no_schema, with_buckets, with_versions, with_uploads, with_parts, schema}
use Rattle.s3_stored_rows.specs.Changes.{with_store}
use Rattle.s3_tables.specs.Keeping.{Inside}

-- the schema before a table is made, and after
abbrev pub schema_before : TableName → Schema
schema_before Buckets = no_schema
schema_before Versions = with_buckets
schema_before Uploads = with_versions
schema_before Parts = with_uploads
schema_before Store = with_parts

abbrev pub schema_after : TableName → Schema
schema_after Buckets = with_buckets
schema_after Versions = with_versions
schema_after Uploads = with_uploads
schema_after Parts = with_parts
schema_after Store = schema

-- the tables of a store that was just made
abbrev pub first_tables : StoreColumns → Tables
first_tables store = with_store store no_rows

-- a transaction over this last commit, which sees this schema and no row
pub record SeesEmpty (base : Database) (known : Schema) (s : State) : Type 0 where
  pub schema_is : s.now.schema ≡ known
  pub empty : AllByRecursion (λ t. s.now.trees t.tree ≡ []) known.tables
  pub committed : s.committed ≡ base

-- the same, where a statement has just gone through
pub record HasBuilt (base : Database) (known : Schema) (s : State) : Type 0 where
  pub sees : SeesEmpty base known s
  pub is_open : IsTrue s.is_open
  pub in_transaction : IsTrue s.in_transaction
  pub sound : IsSound known s.now.trees

-- what a statement that makes tables promises inside a transaction
pub record Builds {X : Type 0} (before after : Schema) (old new : State) (result : Result X Error) : Type 0 where
  pub made : HasCleanDisk new → OnOk result ((base : Database) → SeesEmpty base before old → HasBuilt base after new)
  pub survives : Survives old new (λ _. ⊥)

-- what those together promise that make the tables and their first row
pub record Fills {X : Type 0} (first : Tables) (old new : State) (result : Result X Error) : Type 0 where
  pub made : HasCleanDisk new → OnOk result ((base : Database) → SeesEmpty base no_schema old → Inside base first new)
  pub survives : Survives old new (λ _. ⊥)
