use Rattle.std.specs.Prelude.{option_map}
use Rattle.sqlite.specs.Held.{state}
use Rattle.s3_stored_rows.specs.Changes.{version_columns}
use Rattle.s3_tables.proofs.ReadTexts.{newest_is, is_plain}
use Rattle.s3_tables.proofs.ReadLemmas.{newest_found}
use Rattle.s3_tables.proofs.AnswerLemmas.{as_asked, on_ok}
use Rattle.s3_tables.proofs.table_file.TableFile.newest.Goals as goal

pub query-requires : goal.query-requires
query-requires g c = is_plain _ _ _ newest_is

pub returns-clause-value : goal.returns-clause-value
returns-clause-value g c clean =
    as_asked (option_map version_columns) c.first_version.result (rw c.as_slice.ensures.value at c.first_version.ensures)
    (newest_found (state g.S.Store c.args.self.now) (state g.S.Store c.query.new.self) c.in_ok-rows.rows.items c.args.bucket.now c.args.key.now (rw (c.params-to_sql.ensures, c.params-to_sql-2.ensures) at (c.in_ok-rows.ensures.shown clean)))

pub returns-clause-stays : goal.returns-clause-stays
returns-clause-stays g c clean = on_ok c.first_version.result (c.in_ok-rows.ensures.stays clean)
