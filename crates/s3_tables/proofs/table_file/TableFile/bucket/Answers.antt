use Rattle.std.specs.Prelude.{option_map}
use Rattle.sqlite.specs.Held.{state}
use Rattle.s3_stored_rows.specs.Changes.{bucket_columns}
use Rattle.s3_tables.proofs.ReadTexts.{bucket_by_name_is, is_plain}
use Rattle.s3_tables.proofs.ReadLemmas.{bucket_by_name_found}
use Rattle.s3_tables.proofs.AnswerLemmas.{as_asked, on_ok}
use Rattle.s3_tables.proofs.table_file.TableFile.bucket.Goals as goal

pub query-requires : goal.query-requires
query-requires g c = is_plain _ _ _ bucket_by_name_is

pub returns-clause-value : goal.returns-clause-value
returns-clause-value g c clean =
    as_asked (option_map bucket_columns) c.first_bucket.result (rw c.as_slice.ensures.value at c.first_bucket.ensures)
    (bucket_by_name_found (state g.S.Store c.args.self.now) (state g.S.Store c.query.new.self) c.in_ok-rows.rows.items c.args.name.now (rw (c.params-to_sql.ensures) at (c.in_ok-rows.ensures.shown clean)))

pub returns-clause-stays : goal.returns-clause-stays
returns-clause-stays g c clean = on_ok c.first_bucket.result (c.in_ok-rows.ensures.stays clean)
