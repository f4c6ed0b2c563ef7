-- The rows that were found, as tables.
use Rattle.std.specs.Prelude.{map}
use Rattle.s3_rows.specs.Columns.{Tables}
use Rattle.s3_stored_rows.specs.Changes.{bucket_columns, version_columns, upload_columns, part_columns, store_columns}
use Rattle.s3_found_rows.specs.declared.found_tables.FoundTables.{FoundTables}

abbrev pub tables_of : FoundTables → Tables
tables_of f = record {
  buckets = map bucket_columns f.buckets.items;
  versions = map version_columns f.versions.items;
  uploads = map upload_columns f.uploads.items;
  parts = map part_columns f.parts.items;
  store = map store_columns f.store.items;
}
