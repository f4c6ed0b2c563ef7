-- The statements that depend on the table alone.
use Rattle.std.specs.Prelude.{ℕ, List, codes}
use Rattle.s3_stored_rows.specs.declared.rows.TableName.{TableName}
use Rattle.s3_stored_rows.specs.declared.rows.TableName.TheVariants.{Buckets, Versions, Uploads, Parts, Store}

-- makes a table
abbrev pub create_text : TableName → List ℕ
create_text Buckets = codes "CREATE TABLE buckets (row INTEGER PRIMARY KEY, name BLOB NOT NULL, made INTEGER NOT NULL, mode INTEGER NOT NULL, UNIQUE (name)) STRICT"
create_text Versions = codes "CREATE TABLE versions (row INTEGER PRIMARY KEY, bucket BLOB NOT NULL, key BLOB NOT NULL, number INTEGER NOT NULL, id INTEGER NOT NULL, moment INTEGER NOT NULL, marker INTEGER NOT NULL, tag BLOB NOT NULL, kept BLOB NOT NULL, size INTEGER NOT NULL, bodies BLOB NOT NULL, UNIQUE (bucket, key, number DESC), UNIQUE (bucket, key, id)) STRICT"
create_text Uploads = codes "CREATE TABLE uploads (row INTEGER PRIMARY KEY, bucket BLOB NOT NULL, key BLOB NOT NULL, id INTEGER NOT NULL, moment INTEGER NOT NULL, kept BLOB NOT NULL, UNIQUE (bucket, key, id)) STRICT"
create_text Parts = codes "CREATE TABLE parts (row INTEGER PRIMARY KEY, upload INTEGER NOT NULL, part INTEGER NOT NULL, digest BLOB NOT NULL, moment INTEGER NOT NULL, size INTEGER NOT NULL, bodies BLOB NOT NULL, UNIQUE (upload, part)) STRICT"
create_text Store = codes "CREATE TABLE store (row INTEGER PRIMARY KEY, form INTEGER NOT NULL, number INTEGER NOT NULL) STRICT"

-- takes the row of a rowid out of it
abbrev pub drop_text : TableName → List ℕ
drop_text Buckets = codes "DELETE FROM buckets WHERE row = ?1"
drop_text Versions = codes "DELETE FROM versions WHERE row = ?1"
drop_text Uploads = codes "DELETE FROM uploads WHERE row = ?1"
drop_text Parts = codes "DELETE FROM parts WHERE row = ?1"
drop_text Store = codes "DELETE FROM store WHERE row = ?1"
