-- The schema of a store again, its tables and indexes one by one, where each has its tree.
use Rattle.std.specs.Prelude.{ℕ, true, List, [], ◌∷◌, codes}
use Rattle.sqlite.specs.Table.{Table}
use Rattle.sqlite_schema.specs.declared.schema.Index.{Index}
use Rattle.sqlite_value.specs.declared.keys.Order.{Order}
use Rattle.sqlite_value.specs.Keys.{plain}
use Rattle.s3_tables.specs.Schema.{newest_first, bucket_table, version_table, upload_table, part_table, store_table}

abbrev pub table_list : List Table
table_list =
    record bucket_table { tree = 0 } ∷ record version_table { tree = 2 } ∷ record upload_table { tree = 5 } ∷ record part_table { tree = 7 } ∷ record store_table { tree = 9 } ∷ []

-- the index of a key, by its name, its tree, that of its table, the places of its columns and their order
abbrev pub index_of : List ℕ → ℕ → ℕ → List ℕ → Order → Index
index_of name tree table columns order = record { name = name; tree = tree; table = table; columns = columns; order = order; is_unique = true }

abbrev pub name_index : Index
name_index = index_of (codes "sqlite_autoindex_buckets_1") 1 0 (2 ∷ []) plain

abbrev pub number_index : Index
number_index = index_of (codes "sqlite_autoindex_versions_1") 3 2 (2 ∷ 3 ∷ 4 ∷ []) newest_first

abbrev pub id_index : Index
id_index = index_of (codes "sqlite_autoindex_versions_2") 4 2 (2 ∷ 3 ∷ 5 ∷ []) plain

abbrev pub upload_index : Index
upload_index = index_of (codes "sqlite_autoindex_uploads_1") 6 5 (2 ∷ 3 ∷ 4 ∷ []) plain

abbrev pub part_index : Index
part_index = index_of (codes "sqlite_autoindex_parts_1") 8 7 (2 ∷ 3 ∷ []) plain

abbrev pub index_list : List Index
index_list = name_index ∷ number_index ∷ id_index ∷ upload_index ∷ part_index ∷ []
