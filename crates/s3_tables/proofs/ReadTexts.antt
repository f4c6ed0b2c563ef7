-- The texts of the queries, and what they mean.
use Rattle.std.proofs.Common.{ℕ, List, [], ◌∷◌, codes, true, false, None, refl, pos, negsuc}
use Rattle.sqlite.specs.Command.TheVariants.{Select}
use Rattle.sqlite_tied.specs.Compute.{everything}
use Rattle.sqlite.specs.Listing.{understood}
use Rattle.sqlite.proofs.Callers.{IsPlain}
use Rattle.sqlite_resolve.specs.Compile.{compiled}
use Rattle.sqlite.specs.Term.{Term, lit, col, op2}
use Rattle.sqlite.specs.Query.{Query, inner, end}
use Rattle.sqlite.specs.declared.types.Value.TheVariants.{Int}
use Rattle.sqlite_sql.specs.declared.ops.BinaryOp.TheVariants.{Compare}
use Rattle.sqlite_sql.specs.declared.ops.CompareOp.TheVariants.{Eq, Lt, Gt, Ge}
use Rattle.sqlite.specs.Collation.TheVariants.{Binary}
use Rattle.sqlite_value.specs.declared.keys.Key.{Key}
use Rattle.s3_tables.specs.Schema.{schema}
use Rattle.s3_tables.proofs.Resolving.{Resolves, is_understood}

-- a key of ORDER BY
abbrev pub SortKey : Type 0
SortKey = Term × Key

abbrev pub rising : Term → SortKey
rising t = (t, record { collation = Binary; descending = false })

abbrev pub falling : Term → SortKey
falling t = (t, record { collation = Binary; descending = true })

abbrev pub row_key : SortKey
row_key = rising (col 1 0)

-- a query over the rows of one tree
abbrev pub select_from : ℕ → List Term → List Term → List SortKey → Term → Query
select_from tree tests project order limit = record {
  from = inner tree end;
  filter = tests;
  group = None;
  project = project;
  distinct = false;
  collations = [];
  order = order;
  limit = limit;
  offset = lit (Int (pos 0));
}

-- the text is this query, shows these names, and reads the tables alone
abbrev pub Asks : List ℕ → Query → List (List ℕ) → Type 0
Asks sql q names = Resolves (Select (record { lets = []; body = q }) names) (compiled schema sql)

pub is_plain : (sql : List ℕ) (q : Query) (names : List (List ℕ)) → Asks sql q names → IsPlain (understood schema sql)
is_plain sql q names asks = (is_understood schema sql _ asks).1

abbrev pub bucket_names : List (List ℕ)
bucket_names = codes "row" ∷ codes "name" ∷ codes "made" ∷ codes "mode" ∷ []

abbrev pub bucket_project : List Term
bucket_project = col 1 0 ∷ col 1 2 ∷ col 1 3 ∷ col 1 4 ∷ []

abbrev pub version_names : List (List ℕ)
version_names = codes "row" ∷ codes "bucket" ∷ codes "key" ∷ codes "number" ∷ codes "id" ∷ codes "moment" ∷ codes "marker" ∷ codes "tag" ∷ codes "kept" ∷ codes "size" ∷ codes "bodies" ∷ []

abbrev pub version_project : List Term
version_project = col 1 0 ∷ col 1 2 ∷ col 1 3 ∷ col 1 4 ∷ col 1 5 ∷ col 1 6 ∷ col 1 7 ∷ col 1 8 ∷ col 1 9 ∷ col 1 10 ∷ col 1 11 ∷ []

abbrev pub upload_names : List (List ℕ)
upload_names = codes "row" ∷ codes "bucket" ∷ codes "key" ∷ codes "id" ∷ codes "moment" ∷ codes "kept" ∷ []

abbrev pub upload_project : List Term
upload_project = col 1 0 ∷ col 1 2 ∷ col 1 3 ∷ col 1 4 ∷ col 1 5 ∷ col 1 6 ∷ []

abbrev pub part_names : List (List ℕ)
part_names = codes "row" ∷ codes "upload" ∷ codes "part" ∷ codes "digest" ∷ codes "moment" ∷ codes "size" ∷ codes "bodies" ∷ []

abbrev pub part_project : List Term
part_project = col 1 0 ∷ col 1 2 ∷ col 1 3 ∷ col 1 4 ∷ col 1 5 ∷ col 1 6 ∷ col 1 7 ∷ []

abbrev pub store_names : List (List ℕ)
store_names = codes "row" ∷ codes "form" ∷ codes "number" ∷ []

abbrev pub store_project : List Term
store_project = col 1 0 ∷ col 1 2 ∷ col 1 3 ∷ []

-- ---- bucket by name

abbrev pub bucket_by_name : List ℕ
bucket_by_name = codes "SELECT row, name, made, mode FROM buckets WHERE name = ?1 ORDER BY row LIMIT 1"

abbrev pub bucket_by_name_tests : List Term
bucket_by_name_tests = op2 (Compare Eq Binary) (col 1 2) (col 0 0) ∷ []

abbrev pub bucket_by_name_order : List SortKey
bucket_by_name_order = rising (col 1 0) ∷ []

pub bucket_by_name_is : Asks bucket_by_name (select_from 0 bucket_by_name_tests bucket_project bucket_by_name_order (lit (Int (pos 1)))) bucket_names
unfolding everything
bucket_by_name_is = (refl, refl, refl)

-- ---- all buckets

abbrev pub all_buckets : List ℕ
all_buckets = codes "SELECT row, name, made, mode FROM buckets ORDER BY name, row"

abbrev pub all_buckets_tests : List Term
all_buckets_tests = []

abbrev pub all_buckets_order : List SortKey
all_buckets_order = rising (col 1 2) ∷ rising (col 1 0) ∷ []

pub all_buckets_is : Asks all_buckets (select_from 0 all_buckets_tests bucket_project all_buckets_order (lit (Int (negsuc 0)))) bucket_names
unfolding everything
all_buckets_is = (refl, refl, refl)

-- ---- newest

abbrev pub newest : List ℕ
newest = codes "SELECT row, bucket, key, number, id, moment, marker, tag, kept, size, bodies FROM versions WHERE bucket = ?1 AND key = ?2 ORDER BY number DESC, row LIMIT 1"

abbrev pub newest_tests : List Term
newest_tests = op2 (Compare Eq Binary) (col 1 2) (col 0 0) ∷ op2 (Compare Eq Binary) (col 1 3) (col 0 1) ∷ []

abbrev pub newest_order : List SortKey
newest_order = falling (col 1 4) ∷ rising (col 1 0) ∷ []

pub newest_is : Asks newest (select_from 2 newest_tests version_project newest_order (lit (Int (pos 1)))) version_names
unfolding everything
newest_is = (refl, refl, refl)

-- ---- version by id

abbrev pub version_by_id : List ℕ
version_by_id = codes "SELECT row, bucket, key, number, id, moment, marker, tag, kept, size, bodies FROM versions WHERE bucket = ?1 AND key = ?2 AND id = ?3 ORDER BY row LIMIT 1"

abbrev pub version_by_id_tests : List Term
version_by_id_tests = op2 (Compare Eq Binary) (col 1 2) (col 0 0) ∷ op2 (Compare Eq Binary) (col 1 3) (col 0 1) ∷ op2 (Compare Eq Binary) (col 1 5) (col 0 2) ∷ []

abbrev pub version_by_id_order : List SortKey
version_by_id_order = rising (col 1 0) ∷ []

pub version_by_id_is : Asks version_by_id (select_from 2 version_by_id_tests version_project version_by_id_order (lit (Int (pos 1)))) version_names
unfolding everything
version_by_id_is = (refl, refl, refl)

-- ---- older

abbrev pub older : List ℕ
older = codes "SELECT row, bucket, key, number, id, moment, marker, tag, kept, size, bodies FROM versions WHERE bucket = ?1 AND key = ?2 AND number < ?3 ORDER BY number DESC, row LIMIT ?4"

abbrev pub older_tests : List Term
older_tests = op2 (Compare Eq Binary) (col 1 2) (col 0 0) ∷ op2 (Compare Eq Binary) (col 1 3) (col 0 1) ∷ op2 (Compare Lt Binary) (col 1 4) (col 0 2) ∷ []

abbrev pub older_order : List SortKey
older_order = falling (col 1 4) ∷ rising (col 1 0) ∷ []

pub older_is : Asks older (select_from 2 older_tests version_project older_order (col 0 3)) version_names
unfolding everything
older_is = (refl, refl, refl)

-- ---- versions on

abbrev pub versions_on : List ℕ
versions_on = codes "SELECT row, bucket, key, number, id, moment, marker, tag, kept, size, bodies FROM versions WHERE bucket = ?1 AND key >= ?2 ORDER BY key, number DESC, row LIMIT ?3"

abbrev pub versions_on_tests : List Term
versions_on_tests = op2 (Compare Eq Binary) (col 1 2) (col 0 0) ∷ op2 (Compare Ge Binary) (col 1 3) (col 0 1) ∷ []

abbrev pub versions_on_order : List SortKey
versions_on_order = rising (col 1 3) ∷ falling (col 1 4) ∷ rising (col 1 0) ∷ []

pub versions_on_is : Asks versions_on (select_from 2 versions_on_tests version_project versions_on_order (col 0 2)) version_names
unfolding everything
versions_on_is = (refl, refl, refl)

-- ---- versions past

abbrev pub versions_past : List ℕ
versions_past = codes "SELECT row, bucket, key, number, id, moment, marker, tag, kept, size, bodies FROM versions WHERE bucket = ?1 AND key > ?2 ORDER BY key, number DESC, row LIMIT ?3"

abbrev pub versions_past_tests : List Term
versions_past_tests = op2 (Compare Eq Binary) (col 1 2) (col 0 0) ∷ op2 (Compare Gt Binary) (col 1 3) (col 0 1) ∷ []

abbrev pub versions_past_order : List SortKey
versions_past_order = rising (col 1 3) ∷ falling (col 1 4) ∷ rising (col 1 0) ∷ []

pub versions_past_is : Asks versions_past (select_from 2 versions_past_tests version_project versions_past_order (col 0 2)) version_names
unfolding everything
versions_past_is = (refl, refl, refl)

-- ---- upload by id

abbrev pub upload_by_id : List ℕ
upload_by_id = codes "SELECT row, bucket, key, id, moment, kept FROM uploads WHERE bucket = ?1 AND key = ?2 AND id = ?3 ORDER BY row LIMIT 1"

abbrev pub upload_by_id_tests : List Term
upload_by_id_tests = op2 (Compare Eq Binary) (col 1 2) (col 0 0) ∷ op2 (Compare Eq Binary) (col 1 3) (col 0 1) ∷ op2 (Compare Eq Binary) (col 1 4) (col 0 2) ∷ []

abbrev pub upload_by_id_order : List SortKey
upload_by_id_order = rising (col 1 0) ∷ []

pub upload_by_id_is : Asks upload_by_id (select_from 5 upload_by_id_tests upload_project upload_by_id_order (lit (Int (pos 1)))) upload_names
unfolding everything
upload_by_id_is = (refl, refl, refl)

-- ---- uploads on

abbrev pub uploads_on : List ℕ
uploads_on = codes "SELECT row, bucket, key, id, moment, kept FROM uploads WHERE bucket = ?1 AND key >= ?2 ORDER BY key, id, row LIMIT ?3"

abbrev pub uploads_on_tests : List Term
uploads_on_tests = op2 (Compare Eq Binary) (col 1 2) (col 0 0) ∷ op2 (Compare Ge Binary) (col 1 3) (col 0 1) ∷ []

abbrev pub uploads_on_order : List SortKey
uploads_on_order = rising (col 1 3) ∷ rising (col 1 4) ∷ rising (col 1 0) ∷ []

pub uploads_on_is : Asks uploads_on (select_from 5 uploads_on_tests upload_project uploads_on_order (col 0 2)) upload_names
unfolding everything
uploads_on_is = (refl, refl, refl)

-- ---- uploads past

abbrev pub uploads_past : List ℕ
uploads_past = codes "SELECT row, bucket, key, id, moment, kept FROM uploads WHERE bucket = ?1 AND key > ?2 ORDER BY key, id, row LIMIT ?3"

abbrev pub uploads_past_tests : List Term
uploads_past_tests = op2 (Compare Eq Binary) (col 1 2) (col 0 0) ∷ op2 (Compare Gt Binary) (col 1 3) (col 0 1) ∷ []

abbrev pub uploads_past_order : List SortKey
uploads_past_order = rising (col 1 3) ∷ rising (col 1 4) ∷ rising (col 1 0) ∷ []

pub uploads_past_is : Asks uploads_past (select_from 5 uploads_past_tests upload_project uploads_past_order (col 0 2)) upload_names
unfolding everything
uploads_past_is = (refl, refl, refl)

-- ---- later uploads

abbrev pub later_uploads : List ℕ
later_uploads = codes "SELECT row, bucket, key, id, moment, kept FROM uploads WHERE bucket = ?1 AND key = ?2 AND id > ?3 ORDER BY id, row LIMIT ?4"

abbrev pub later_uploads_tests : List Term
later_uploads_tests = op2 (Compare Eq Binary) (col 1 2) (col 0 0) ∷ op2 (Compare Eq Binary) (col 1 3) (col 0 1) ∷ op2 (Compare Gt Binary) (col 1 4) (col 0 2) ∷ []

abbrev pub later_uploads_order : List SortKey
later_uploads_order = rising (col 1 4) ∷ rising (col 1 0) ∷ []

pub later_uploads_is : Asks later_uploads (select_from 5 later_uploads_tests upload_project later_uploads_order (col 0 3)) upload_names
unfolding everything
later_uploads_is = (refl, refl, refl)

-- ---- part by number

abbrev pub part_by_number : List ℕ
part_by_number = codes "SELECT row, upload, part, digest, moment, size, bodies FROM parts WHERE upload = ?1 AND part = ?2 ORDER BY row LIMIT 1"

abbrev pub part_by_number_tests : List Term
part_by_number_tests = op2 (Compare Eq Binary) (col 1 2) (col 0 0) ∷ op2 (Compare Eq Binary) (col 1 3) (col 0 1) ∷ []

abbrev pub part_by_number_order : List SortKey
part_by_number_order = rising (col 1 0) ∷ []

pub part_by_number_is : Asks part_by_number (select_from 7 part_by_number_tests part_project part_by_number_order (lit (Int (pos 1)))) part_names
unfolding everything
part_by_number_is = (refl, refl, refl)

-- ---- later parts

abbrev pub later_parts : List ℕ
later_parts = codes "SELECT row, upload, part, digest, moment, size, bodies FROM parts WHERE upload = ?1 AND part > ?2 ORDER BY part, row LIMIT ?3"

abbrev pub later_parts_tests : List Term
later_parts_tests = op2 (Compare Eq Binary) (col 1 2) (col 0 0) ∷ op2 (Compare Gt Binary) (col 1 3) (col 0 1) ∷ []

abbrev pub later_parts_order : List SortKey
later_parts_order = rising (col 1 3) ∷ rising (col 1 0) ∷ []

pub later_parts_is : Asks later_parts (select_from 7 later_parts_tests part_project later_parts_order (col 0 2)) part_names
unfolding everything
later_parts_is = (refl, refl, refl)

-- ---- the store

abbrev pub the_store : List ℕ
the_store = codes "SELECT row, form, number FROM store ORDER BY row LIMIT 1"

abbrev pub the_store_tests : List Term
the_store_tests = []

abbrev pub the_store_order : List SortKey
the_store_order = rising (col 1 0) ∷ []

pub the_store_is : Asks the_store (select_from 9 the_store_tests store_project the_store_order (lit (Int (pos 1)))) store_names
unfolding everything
the_store_is = (refl, refl, refl)

-- ---- any version

abbrev pub any_version : List ℕ
any_version = codes "SELECT row FROM versions WHERE bucket = ?1 LIMIT 1"

abbrev pub any_version_tests : List Term
any_version_tests = op2 (Compare Eq Binary) (col 1 2) (col 0 0) ∷ []

pub any_version_is : Asks any_version (select_from 2 any_version_tests (col 1 0 ∷ []) [] (lit (Int (pos 1)))) (codes "row" ∷ [])
unfolding everything
any_version_is = (refl, refl, refl)

-- ---- any upload

abbrev pub any_upload : List ℕ
any_upload = codes "SELECT row FROM uploads WHERE bucket = ?1 LIMIT 1"

abbrev pub any_upload_tests : List Term
any_upload_tests = op2 (Compare Eq Binary) (col 1 2) (col 0 0) ∷ []

pub any_upload_is : Asks any_upload (select_from 5 any_upload_tests (col 1 0 ∷ []) [] (lit (Int (pos 1)))) (codes "row" ∷ [])
unfolding everything
any_upload_is = (refl, refl, refl)
