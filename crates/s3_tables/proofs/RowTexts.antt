-- The texts of the queries for all rows of a table, and what they mean.
use Rattle.std.proofs.Common.{ℕ, List, [], ◌∷◌, codes, refl, negsuc}
use Rattle.sqlite_tied.specs.Compute.{everything}
use Rattle.sqlite.specs.declared.types.Value.TheVariants.{Int}
use Rattle.sqlite.specs.Query.{Query}
use Rattle.sqlite.specs.Term.{Term, lit}
use Rattle.s3_tables.proofs.ReadTexts.{Asks, select_from, row_key, bucket_names, bucket_project, version_names, version_project, upload_names, upload_project, part_names, part_project, store_names, store_project}

-- all rows of a tree, by rowid
abbrev pub rows_from : ℕ → List Term → Query
rows_from tree project = select_from tree [] project (row_key ∷ []) (lit (Int (negsuc 0)))

abbrev pub bucket_rows : List ℕ
bucket_rows = codes "SELECT row, name, made, mode FROM buckets ORDER BY row"

pub bucket_rows_is : Asks bucket_rows (rows_from 0 bucket_project) bucket_names
unfolding everything
bucket_rows_is = (refl, refl, refl)

abbrev pub version_rows : List ℕ
version_rows = codes "SELECT row, bucket, key, number, id, moment, marker, tag, kept, size, bodies FROM versions ORDER BY row"

pub version_rows_is : Asks version_rows (rows_from 2 version_project) version_names
unfolding everything
version_rows_is = (refl, refl, refl)

abbrev pub upload_rows : List ℕ
upload_rows = codes "SELECT row, bucket, key, id, moment, kept FROM uploads ORDER BY row"

pub upload_rows_is : Asks upload_rows (rows_from 5 upload_project) upload_names
unfolding everything
upload_rows_is = (refl, refl, refl)

abbrev pub part_rows : List ℕ
part_rows = codes "SELECT row, upload, part, digest, moment, size, bodies FROM parts ORDER BY row"

pub part_rows_is : Asks part_rows (rows_from 7 part_project) part_names
unfolding everything
part_rows_is = (refl, refl, refl)

abbrev pub store_rows : List ℕ
store_rows = codes "SELECT row, form, number FROM store ORDER BY row"

pub store_rows_is : Asks store_rows (rows_from 9 store_project) store_names
unfolding everything
store_rows_is = (refl, refl, refl)
