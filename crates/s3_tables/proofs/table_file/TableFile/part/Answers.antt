use Rattle.std.proofs.Common.{to_z-of_z}
use Rattle.std.specs.Prelude.{option_map}
use Rattle.sqlite.specs.Held.{state}
use Rattle.s3_stored_rows.specs.Changes.{part_columns}
use Rattle.s3_tables.proofs.ReadTexts.{part_by_number_is, is_plain}
use Rattle.s3_tables.proofs.ReadLemmas.{part_by_number_found}
use Rattle.s3_tables.proofs.AnswerLemmas.{as_asked, on_ok}
use Rattle.s3_tables.proofs.table_file.TableFile.part.Goals as goal

pub query-requires : goal.query-requires
query-requires g c = is_plain _ _ _ part_by_number_is

pub returns-clause-value : goal.returns-clause-value
returns-clause-value g c clean =
    as_asked (option_map part_columns) c.first_part.result (rw c.as_slice.ensures.value at c.first_part.ensures)
    (part_by_number_found (state g.S.Store c.args.self.now) (state g.S.Store c.query.new.self) c.in_ok-rows.rows.items c.args.upload c.args.part (rw (c.params-to_sql.ensures, c.params-to_sql-2.ensures, to_z-of_z c.ranges.upload, to_z-of_z c.ranges.part) at (c.in_ok-rows.ensures.shown clean)))

pub returns-clause-stays : goal.returns-clause-stays
returns-clause-stays g c clean = on_ok c.first_part.result (c.in_ok-rows.ensures.stays clean)
