use Rattle.std.proofs.Common.{to_z-of_z}
use Rattle.std.specs.Prelude.{Vec, map}
use Rattle.std.specs.declared.alloc.Global.{Global}
use Rattle.s3_stored_rows.specs.declared.rows.StoredPart.{StoredPart}
use Rattle.sqlite.specs.Held.{state}
use Rattle.s3_stored_rows.specs.Changes.{part_columns}
use Rattle.s3_tables.proofs.ReadTexts.{later_parts_is, is_plain}
use Rattle.s3_tables.proofs.ReadLemmas.{later_parts_found}
use Rattle.s3_tables.proofs.AnswerLemmas.{as_asked, on_ok}
use Rattle.s3_tables.proofs.table_file.TableFile.parts_above.Goals as goal

pub query-requires : goal.query-requires
query-requires g c = is_plain _ _ _ later_parts_is

pub returns-clause-value : goal.returns-clause-value
returns-clause-value g c clean =
    as_asked (λ (all : Vec StoredPart Global). map part_columns all.items) c.all_parts.result (rw c.as_slice.ensures.value at c.all_parts.ensures)
    (later_parts_found (state g.S.Store c.args.self.now) (state g.S.Store c.query.new.self) c.in_ok-rows.rows.items c.args.upload c.args.part c.args.most (rw (c.params-to_sql.ensures, c.params-to_sql-2.ensures, c.params-to_sql-3.ensures, to_z-of_z c.ranges.upload, to_z-of_z c.ranges.part) at (c.in_ok-rows.ensures.shown clean)))

pub returns-clause-stays : goal.returns-clause-stays
returns-clause-stays g c clean = on_ok c.all_parts.result (c.in_ok-rows.ensures.stays clean)
