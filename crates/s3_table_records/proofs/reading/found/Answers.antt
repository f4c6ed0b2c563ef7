use Rattle.s3_rows.specs.Finding.{is_at, newest_first, is_version, id_column}
use Rattle.s3_stored_bodies.proofs.HeldLemmas.{if_ok}
use Rattle.s3_stored_rows.specs.Bodies.{version_numbers, numbers_named}
use Rattle.s3_stored_rows.specs.Queries.{newest_version, version_of_id}
use Rattle.s3_table_records.proofs.CountedLemmas.{IsAmong, versions_counted, found_has, first_sorted_has, if_columns}
use Rattle.s3_table_records.proofs.reading.found.Goals as goal

pub returns-in-None-clause-counted : goal.returns-in-None-clause-counted
returns-in-None-clause-counted g c =
    let t = g.R.StoredRows.tables c.args.rows.now in
    if_ok c.newest.result
    (λ found is. if_columns (λ v. IsAmong (version_numbers v) (numbers_named t)) found (newest_version c.as_bytes.result.now c.as_bytes-in-None.result.now t) is
    (first_sorted_has (λ v. IsAmong (version_numbers v) (numbers_named t)) newest_first (is_at c.as_bytes.result.now c.as_bytes-in-None.result.now) t.versions (versions_counted t)))
    c.newest.ensures.value

pub returns-in-Some-clause-counted : goal.returns-in-Some-clause-counted
returns-in-Some-clause-counted g c =
    let t = g.R.StoredRows.tables c.args.rows.now in
    if_ok c.found_version.result
    (λ found is. if_columns (λ v. IsAmong (version_numbers v) (numbers_named t)) found (version_of_id c.args.bucket.now c.args.key.now (id_column c.in-Some.field-0) t) is
    (found_has (λ v. IsAmong (version_numbers v) (numbers_named t)) (is_version c.args.bucket.now c.args.key.now (id_column c.in-Some.field-0)) t.versions (versions_counted t)))
    (c.found_version.ensures.named c.in-Some.field-0 c.in-Some.is)
