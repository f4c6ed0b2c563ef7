-- The tables of a store, their columns, and the schema that they are.
use Rattle.std.specs.Prelude.{ℕ, true, false, List, [], ◌∷◌, codes, Some}
use Rattle.sqlite.specs.Collation.TheVariants.{Binary}
use Rattle.sqlite.specs.declared.types.Value.TheVariants.{Null}
use Rattle.sqlite.specs.Table.{Table}
use Rattle.sqlite.specs.Schema.{Schema}
use Rattle.sqlite.specs.Kind.TheVariants as kind
use Rattle.sqlite_schema.specs.declared.schema.Column.{Column}
use Rattle.sqlite_value.specs.declared.keys.Order.{Order}
use Rattle.sqlite_value.specs.Keys.{plain}
use Rattle.sqlite_catalog.specs.Change.{created}

-- the column of the rowid, which stores NULL
abbrev pub row_column : Column
row_column = record { name = codes "row"; kind = kind.Integer; is_strict = true; not_null = false; default = Null; collation = Binary }

-- a column of integers, and one of bytes, in which no NULL stands
abbrev pub integers : List ℕ → Column
integers name = record { name = name; kind = kind.Integer; is_strict = true; not_null = true; default = Null; collation = Binary }

abbrev pub blobs : List ℕ → Column
blobs name = record { name = name; kind = kind.Blob; is_strict = true; not_null = true; default = Null; collation = Binary }

-- a table whose first column is the rowid, with no two rows that agree in the columns of one of these keys, whose indexes have
-- these orders
abbrev pub table_of : List ℕ → List Column → List (List ℕ) → List Order → Table
table_of name columns uniques orders = record {
  name = name;
  tree = 0;
  columns = row_column ∷ columns;
  key = Some 0;
  primary = 0 ∷ [];
  uniques = uniques;
  orders = orders;
  checks = [];
  references = [];
  computed = [];
  stamps = record { places = []; terms = []; formats = [] };
  is_counted = false;
}

-- ---- the columns after that of the rowid

abbrev pub bucket_list : List Column
bucket_list = blobs (codes "name") ∷ integers (codes "made") ∷ integers (codes "mode") ∷ []

abbrev pub version_list : List Column
version_list = blobs (codes "bucket") ∷ blobs (codes "key") ∷ integers (codes "number") ∷ integers (codes "id") ∷ integers (codes "moment") ∷ integers (codes "marker") ∷ blobs (codes "tag") ∷ blobs (codes "kept") ∷ integers (codes "size") ∷ blobs (codes "bodies") ∷ []

abbrev pub upload_list : List Column
upload_list = blobs (codes "bucket") ∷ blobs (codes "key") ∷ integers (codes "id") ∷ integers (codes "moment") ∷ blobs (codes "kept") ∷ []

abbrev pub part_list : List Column
part_list = integers (codes "upload") ∷ integers (codes "part") ∷ blobs (codes "digest") ∷ integers (codes "moment") ∷ integers (codes "size") ∷ blobs (codes "bodies") ∷ []

abbrev pub store_list : List Column
store_list = integers (codes "form") ∷ integers (codes "number") ∷ []

-- ---- which of them are unique together, where the rowid stands at 0

abbrev pub bucket_keys : List (List ℕ)
bucket_keys = (2 ∷ []) ∷ []

abbrev pub version_keys : List (List ℕ)
version_keys = (2 ∷ 3 ∷ 4 ∷ []) ∷ (2 ∷ 3 ∷ 5 ∷ []) ∷ []

abbrev pub upload_keys : List (List ℕ)
upload_keys = (2 ∷ 3 ∷ 4 ∷ []) ∷ []

abbrev pub part_keys : List (List ℕ)
part_keys = (2 ∷ 3 ∷ []) ∷ []

abbrev pub store_keys : List (List ℕ)
store_keys = []

-- ---- and the orders of their indexes

-- the third column from above, so that the versions under a key stand newest first
abbrev pub newest_first : Order
newest_first = record { digits = 64 }

abbrev pub bucket_orders : List Order
bucket_orders = plain ∷ []

abbrev pub version_orders : List Order
version_orders = newest_first ∷ plain ∷ []

abbrev pub upload_orders : List Order
upload_orders = plain ∷ []

abbrev pub part_orders : List Order
part_orders = plain ∷ []

abbrev pub store_orders : List Order
store_orders = []

-- ---- the tables

abbrev pub bucket_table : Table
bucket_table = table_of (codes "buckets") bucket_list bucket_keys bucket_orders

abbrev pub version_table : Table
version_table = table_of (codes "versions") version_list version_keys version_orders

abbrev pub upload_table : Table
upload_table = table_of (codes "uploads") upload_list upload_keys upload_orders

abbrev pub part_table : Table
part_table = table_of (codes "parts") part_list part_keys part_orders

abbrev pub store_table : Table
store_table = table_of (codes "store") store_list store_keys store_orders

-- the schema of an empty database, and what each of them in turn makes of it
abbrev pub no_schema : Schema
no_schema = record { tables = []; indexes = []; views = [] }

abbrev pub with_buckets : Schema
with_buckets = created no_schema bucket_table

abbrev pub with_versions : Schema
with_versions = created with_buckets version_table

abbrev pub with_uploads : Schema
with_uploads = created with_versions upload_table

abbrev pub with_parts : Schema
with_parts = created with_uploads part_table

-- the schema of a store
abbrev pub schema : Schema
schema = created with_parts store_table
