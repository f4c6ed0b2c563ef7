-- The texts of the statements that write, and what they mean.
use Rattle.std.proofs.Common.{◌≡◌, ℕ, List, [], ◌∷◌, codes, false, None, Ok, refl, pos, negsuc}
use Rattle.sqlite.specs.Command.{Command}
use Rattle.sqlite.specs.Command.TheVariants.{Insert, Delete, CreateTable}
use Rattle.sqlite.specs.Compile.{table_defined_by}
use Rattle.sqlite_tied.specs.Compute.{everything}
use Rattle.sqlite_resolve.specs.Compile.{compiled}
use Rattle.sqlite.specs.Schema.{Schema}
use Rattle.sqlite.specs.Table.{Table}
use Rattle.sqlite.specs.Term.{Term, lit, col, op2}
use Rattle.sqlite.specs.Query.{Query, inner, end}
use Rattle.sqlite.specs.Source.{Source}
use Rattle.sqlite.specs.Source.TheVariants.{Values}
use Rattle.sqlite.specs.declared.types.Value.TheVariants.{Null, Int}
use Rattle.sqlite_sql.specs.declared.ops.BinaryOp.TheVariants.{Compare}
use Rattle.sqlite_sql.specs.declared.ops.CompareOp.TheVariants.{Eq}
use Rattle.sqlite.specs.Collation.TheVariants.{Binary}
use Rattle.s3_stored_rows.specs.declared.rows.TableName.TheVariants.{Buckets, Versions, Uploads, Parts, Store}
use Rattle.s3_tables.specs.Statements.{create_text, drop_text}
use Rattle.s3_tables.specs.Schema as spec
use Rattle.s3_tables.specs.Schema.{schema}
use Rattle.s3_tables.proofs.Resolving.{Resolves, IsWhole}

-- ---- CREATE TABLE

-- a statement that makes a table: what is read in it, the whole text, and the table
abbrev pub Makes : Schema → List ℕ → Table → Type 0
Makes before text table = Resolves CreateTable (compiled before text) × IsWhole text (compiled before text) × (table_defined_by text ≡ Ok table)

abbrev pub create_buckets : List ℕ
create_buckets = create_text Buckets

abbrev pub create_versions : List ℕ
create_versions = create_text Versions

abbrev pub create_uploads : List ℕ
create_uploads = create_text Uploads

abbrev pub create_parts : List ℕ
create_parts = create_text Parts

abbrev pub create_store : List ℕ
create_store = create_text Store

pub buckets_made : Makes spec.no_schema create_buckets spec.bucket_table
unfolding everything
buckets_made = ((refl, refl, refl), refl, refl)

pub versions_made : Makes spec.with_buckets create_versions spec.version_table
unfolding everything
versions_made = ((refl, refl, refl), refl, refl)

pub uploads_made : Makes spec.with_versions create_uploads spec.upload_table
unfolding everything
uploads_made = ((refl, refl, refl), refl, refl)

pub parts_made : Makes spec.with_uploads create_parts spec.part_table
unfolding everything
parts_made = ((refl, refl, refl), refl, refl)

pub store_made : Makes spec.with_parts create_store spec.store_table
unfolding everything
store_made = ((refl, refl, refl), refl, refl)

-- ---- INSERT

abbrev pub add_bucket : List ℕ
add_bucket = codes "INSERT INTO buckets (row, name, made, mode) VALUES (?1, ?2, ?3, ?4)"

abbrev pub bucket_terms : List Term
bucket_terms = col 0 0 ∷ lit Null ∷ col 0 1 ∷ col 0 2 ∷ col 0 3 ∷ []

abbrev pub bucket_source : Source
bucket_source = Values bucket_terms 5

pub add_bucket_is : Resolves (Insert 0 bucket_source) (compiled schema add_bucket)
unfolding everything
add_bucket_is = (refl, refl, refl)

abbrev pub add_version : List ℕ
add_version = codes "INSERT INTO versions (row, bucket, key, number, id, moment, marker, tag, kept, size, bodies) VALUES (?1, ?2, ?3, ?4, ?5, ?6, ?7, ?8, ?9, ?10, ?11)"

abbrev pub version_terms : List Term
version_terms = col 0 0 ∷ lit Null ∷ col 0 1 ∷ col 0 2 ∷ col 0 3 ∷ col 0 4 ∷ col 0 5 ∷ col 0 6 ∷ col 0 7 ∷ col 0 8 ∷ col 0 9 ∷ col 0 10 ∷ []

abbrev pub version_source : Source
version_source = Values version_terms 12

pub add_version_is : Resolves (Insert 1 version_source) (compiled schema add_version)
unfolding everything
add_version_is = (refl, refl, refl)

abbrev pub add_upload : List ℕ
add_upload = codes "INSERT INTO uploads (row, bucket, key, id, moment, kept) VALUES (?1, ?2, ?3, ?4, ?5, ?6)"

abbrev pub upload_terms : List Term
upload_terms = col 0 0 ∷ lit Null ∷ col 0 1 ∷ col 0 2 ∷ col 0 3 ∷ col 0 4 ∷ col 0 5 ∷ []

abbrev pub upload_source : Source
upload_source = Values upload_terms 7

pub add_upload_is : Resolves (Insert 2 upload_source) (compiled schema add_upload)
unfolding everything
add_upload_is = (refl, refl, refl)

abbrev pub add_part : List ℕ
add_part = codes "INSERT INTO parts (row, upload, part, digest, moment, size, bodies) VALUES (?1, ?2, ?3, ?4, ?5, ?6, ?7)"

abbrev pub part_terms : List Term
part_terms = col 0 0 ∷ lit Null ∷ col 0 1 ∷ col 0 2 ∷ col 0 3 ∷ col 0 4 ∷ col 0 5 ∷ col 0 6 ∷ []

abbrev pub part_source : Source
part_source = Values part_terms 8

pub add_part_is : Resolves (Insert 3 part_source) (compiled schema add_part)
unfolding everything
add_part_is = (refl, refl, refl)

abbrev pub add_store : List ℕ
add_store = codes "INSERT INTO store (row, form, number) VALUES (?1, ?2, ?3)"

abbrev pub store_terms : List Term
store_terms = col 0 0 ∷ lit Null ∷ col 0 1 ∷ col 0 2 ∷ []

abbrev pub store_source : Source
store_source = Values store_terms 4

pub add_store_is : Resolves (Insert 4 store_source) (compiled schema add_store)
unfolding everything
add_store_is = (refl, refl, refl)

-- ---- DELETE

-- the rows of a tree that have a rowid
abbrev pub row_query : ℕ → Query
row_query tree = record {
  from = inner tree end;
  filter = op2 (Compare Eq Binary) (col 1 0) (col 0 0) ∷ [];
  group = None;
  project = col 1 0 ∷ [];
  distinct = false;
  collations = [];
  order = [];
  limit = lit (Int (negsuc 0));
  offset = lit (Int (pos 0));
}

abbrev pub drop_command : ℕ → ℕ → Command
drop_command at tree = Delete at (record { lets = []; body = row_query tree })

abbrev pub drop_bucket : List ℕ
drop_bucket = drop_text Buckets

pub drop_bucket_is : Resolves (drop_command 0 0) (compiled schema drop_bucket)
unfolding everything
drop_bucket_is = (refl, refl, refl)

abbrev pub drop_version : List ℕ
drop_version = drop_text Versions

pub drop_version_is : Resolves (drop_command 1 2) (compiled schema drop_version)
unfolding everything
drop_version_is = (refl, refl, refl)

abbrev pub drop_upload : List ℕ
drop_upload = drop_text Uploads

pub drop_upload_is : Resolves (drop_command 2 5) (compiled schema drop_upload)
unfolding everything
drop_upload_is = (refl, refl, refl)

abbrev pub drop_part : List ℕ
drop_part = drop_text Parts

pub drop_part_is : Resolves (drop_command 3 7) (compiled schema drop_part)
unfolding everything
drop_part_is = (refl, refl, refl)

abbrev pub drop_store : List ℕ
drop_store = drop_text Store

pub drop_store_is : Resolves (drop_command 4 9) (compiled schema drop_store)
unfolding everything
drop_store_is = (refl, refl, refl)
